-- The laws that the functions' proofs cite, in the order in which they build on one another.
pub mod Cases
pub mod Sound
pub mod Sample
pub mod Bounds
pub mod Passes
pub mod Reply
