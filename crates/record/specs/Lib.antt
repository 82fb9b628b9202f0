pub mod Header
pub mod Lines
pub mod Write
pub mod Read
pub mod Trip
