pub mod Rows
pub mod Members
