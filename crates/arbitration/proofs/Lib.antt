pub mod PassLaws
pub mod Given
pub mod Preparing
pub mod Contract
pub mod RunLoop
