-- The laws that the functions' proofs cite, in the order in which they build on one another.
pub mod EventLists
pub mod Drawn
pub mod Stamps
pub mod Grammar
pub mod Samples
pub mod Encodes
