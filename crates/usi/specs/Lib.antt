pub mod Module
pub mod Spi
pub mod Step
pub mod Cases
