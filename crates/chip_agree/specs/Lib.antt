pub mod Reported
pub mod Worked
