pub mod Runs
pub mod Reading
pub mod Putting
pub mod Spelling
