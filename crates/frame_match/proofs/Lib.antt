-- The laws that the functions' proofs cite, and what they say of every book and capture.
pub mod Comparing
pub mod Searching
pub mod Cutting
pub mod Coming
pub mod Choosing
pub mod Boards
pub mod Firsts
pub mod Meaning
pub mod Pieces
pub mod Stays
pub mod Worked
