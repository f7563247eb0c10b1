pub mod Edges
pub mod Counting
pub mod Ready
pub mod Steps
pub mod Transfer
pub mod Worked
