pub mod Settled
pub mod Order
