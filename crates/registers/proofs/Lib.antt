pub mod Levels
pub mod Callers
pub mod InTime
pub mod Singles
pub mod Ranges
