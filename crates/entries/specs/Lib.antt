pub mod Calls
pub mod CallLaws
pub mod HeaderWords
pub mod HeaderWordLaws
