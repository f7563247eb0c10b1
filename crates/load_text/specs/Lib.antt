pub mod Words
pub mod Boards
pub mod Messages
