pub mod Inverse
pub mod Small
pub mod WrittenTable
pub mod TableEntries
pub mod Placed
pub mod Contract
pub mod NightContract
