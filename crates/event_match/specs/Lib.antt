-- What comparing two lists of events means.
pub mod Match
