pub mod Network
pub mod Computation
pub mod Ending
pub mod Laws
pub mod Worked
