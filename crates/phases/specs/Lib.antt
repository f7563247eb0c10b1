-- Phases of SCL, and what a trace read in a mode gives.
pub mod Phases
pub mod DecodedIn
