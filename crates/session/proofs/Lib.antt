pub mod Over
pub mod Parts
pub mod Lent
pub mod Sessions
pub mod Runs
pub mod Performing
