pub mod Names
pub mod ReadBack
