pub mod Progress
pub mod Places
