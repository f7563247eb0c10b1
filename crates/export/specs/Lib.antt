pub mod Packed
pub mod Entries
pub mod Replies
pub mod Arbitration
pub mod Night
