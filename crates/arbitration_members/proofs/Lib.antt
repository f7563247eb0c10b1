pub mod Cases
pub mod Judging
pub mod Columns
pub mod Someone
