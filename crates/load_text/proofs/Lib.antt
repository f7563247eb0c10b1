pub mod Masters
pub mod OneToOne
pub mod Fractions
pub mod Handing
pub mod Begun
