pub mod Maybe
pub mod Handles
