pub mod Words
pub mod ReadBack
pub mod Slices
pub mod Worked
