pub mod Pairs
pub mod Scanned
pub mod Checked
pub mod Samples
pub mod Ordered
pub mod Places
