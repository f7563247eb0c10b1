pub mod Walk
pub mod Sums
pub mod Limited
pub mod Marking
pub mod Sound
pub mod Gathering
pub mod Whole
