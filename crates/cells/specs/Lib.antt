pub mod View
pub mod Own
pub mod Ready
pub mod Started
pub mod Walked
