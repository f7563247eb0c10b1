-- What thinning a capture means.
pub mod ThinReply
