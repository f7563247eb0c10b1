pub mod Bits
pub mod Reading
pub mod ReadBack
pub mod Credit
pub mod Redraw
pub mod Drawings
pub mod Replies
