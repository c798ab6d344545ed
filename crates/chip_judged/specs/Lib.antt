pub mod Rows
pub mod Laws
pub mod Worked
