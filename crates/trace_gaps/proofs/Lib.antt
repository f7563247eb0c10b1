pub mod Alike
pub mod Counting
