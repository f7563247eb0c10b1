pub mod Registers
pub mod Cases
pub mod SetUp
pub mod SpiSetUp
pub mod Resting
pub mod Clearing
