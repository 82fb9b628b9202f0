pub mod ReadLines
pub mod Tested
pub mod LineTrips
pub mod HeaderTrips
pub mod PlainPages
pub mod PageWriting
pub mod Paged
pub mod PageTrips
