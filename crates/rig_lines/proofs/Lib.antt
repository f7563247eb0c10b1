pub mod Words
pub mod Places
pub mod Worked
pub mod Forms
pub mod Storing
pub mod Taking
pub mod Filling
