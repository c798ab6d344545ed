pub mod Running
pub mod Flooding
