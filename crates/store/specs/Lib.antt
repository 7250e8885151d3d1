pub mod Given
pub mod Opening
pub mod Taken
pub mod Moved
pub mod Shown
pub mod Settled
pub mod Written
