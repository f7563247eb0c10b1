-- The laws that the functions' proofs cite, and what they say of every capture.
pub mod Order
pub mod Inserting
pub mod Opening
pub mod Gathered
pub mod Reply
pub mod Sorting
pub mod Meaning
pub mod Worked
