pub mod Counts
pub mod Paddings
pub mod Stamps
pub mod Columns
pub mod Told
pub mod Reports
