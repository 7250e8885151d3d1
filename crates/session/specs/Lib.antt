pub mod Lists
pub mod Lent
pub mod Sessions
pub mod Performed
