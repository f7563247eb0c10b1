-- What decode means, in document 01's order.
pub mod Decode
pub mod Stepping
pub mod DecodeReply
