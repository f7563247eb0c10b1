-- Document 02, Ask 14: the different messages in their order, and the night run.
pub mod Different
pub mod Night
