pub mod Refusals
pub mod Search
pub mod Buffer
pub mod Everyone
pub mod Same
