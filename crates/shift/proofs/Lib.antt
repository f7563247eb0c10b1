pub mod Shifting
pub mod Worked
