-- A Value Change Dump read as a trace: its words, the grammar, the samples, and the answer.
pub mod Words
pub mod Reader
pub mod Timescale
pub mod Definitions
pub mod Values
pub mod Reading
pub mod DumpRead
