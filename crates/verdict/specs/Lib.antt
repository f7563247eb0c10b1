pub mod Message
pub mod Verdict
