pub mod Scale
pub mod Lane
pub mod Listing
pub mod Timeline
pub mod Tells
pub mod Report
