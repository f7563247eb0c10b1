-- the order and the different messages; one round; the night
pub mod Order
pub mod Different
pub mod Round
pub mod Waiting
pub mod Rounds
pub mod Night
pub mod Accepted
pub mod Worked
