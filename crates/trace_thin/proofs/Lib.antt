-- The laws that the functions' proofs cite, and what they say of every capture.
pub mod Keeping
pub mod Reply
pub mod Steady
pub mod Meaning
pub mod Worked
