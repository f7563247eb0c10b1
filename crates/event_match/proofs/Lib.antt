-- The laws that the functions' proofs cite, and what they say of every two lists.
pub mod Agreeing
pub mod Places
pub mod Compared
pub mod Meaning
pub mod Worked
