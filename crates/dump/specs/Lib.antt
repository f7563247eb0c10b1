-- A trace as a Value Change Dump: the text, a part of it, and the answer.
pub mod Text
pub mod Window
pub mod Dumped
