-- Document 02, Ask 14, as code: the messages that wait, a round, and what a caller sees.
pub mod Waiting
pub mod Round
pub mod Carried
pub mod Rehearsal
pub mod Admitted
pub mod Lent
