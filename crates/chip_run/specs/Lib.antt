pub mod Feeding
pub mod Recording
pub mod RunCommand
pub mod Replaying
pub mod Worked
pub mod Laws
