pub mod Rising
pub mod Sums
pub mod Judged
pub mod Placed
pub mod Meaning
pub mod Worked
