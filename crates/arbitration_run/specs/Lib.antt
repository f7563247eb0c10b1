pub mod Wire
pub mod Sequence
