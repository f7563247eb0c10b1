-- What encode means, in document 01's order.
pub mod Complete
pub mod Encode
pub mod EncodeReply
