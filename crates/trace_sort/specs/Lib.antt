-- What sorting a capture means.
pub mod Sorted
pub mod SortReply
pub mod Inserted
pub mod Often
