-- What a trace is, in document 01's order.
pub mod Limits
pub mod Events
pub mod Trace
pub mod Samples
pub mod Changes
pub mod Ordered
