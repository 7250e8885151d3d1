pub mod Views
pub mod Begun
pub mod Puts
pub mod Stepping
pub mod Fresh
pub mod Room
