-- The laws that the functions' proofs cite, and the theorems about replies.
pub mod Searched
pub mod Reply
pub mod Apart
pub mod Modes
pub mod Worked
