pub mod Sums
pub mod Alike
pub mod Endings
pub mod Carried
pub mod SearchedMessages
pub mod LeastMessage
pub mod Decided
