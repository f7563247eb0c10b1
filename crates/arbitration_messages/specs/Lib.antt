pub mod Lengths
pub mod Marks
pub mod Gathered
