pub mod Kept
pub mod ByBits
pub mod Found
