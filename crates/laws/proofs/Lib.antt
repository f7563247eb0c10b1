pub mod Branches
pub mod Bools
pub mod Refusals
pub mod Search
pub mod Buffer
pub mod Lists
pub mod Loops
pub mod Same
