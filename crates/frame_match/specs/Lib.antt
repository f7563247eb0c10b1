-- What holding the frames of a capture against the loads of a rehearsal means.
pub mod Book
pub mod Rows
pub mod Frames
pub mod Rules
pub mod Settled
