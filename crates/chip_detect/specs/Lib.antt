pub mod Slot
pub mod Tally
pub mod Books
pub mod Acknowledging
pub mod Change
pub mod Steps
pub mod Laws
pub mod Worked
