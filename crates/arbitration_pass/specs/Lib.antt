pub mod Instants
pub mod Pass
