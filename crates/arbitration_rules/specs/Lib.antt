-- Document 01, "The clash runner", in its order: limits, one master, steps 1 to 4, what follows from messages and
-- acknowledges alone, the final modules, the reply.
pub mod Limits
pub mod Masters
pub mod Run
pub mod Outcome
pub mod Final
pub mod Cleared
pub mod Reply
