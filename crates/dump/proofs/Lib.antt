pub mod Window
pub mod Length
pub mod Samples
pub mod Reply
pub mod Pieces
pub mod Bound
pub mod Worked
