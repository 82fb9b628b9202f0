pub mod JobType
pub mod Check
pub mod Span
pub mod Made
pub mod CheckLaws
pub mod SpanLaws
