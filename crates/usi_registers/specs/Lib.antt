pub mod Registers
pub mod Rules
