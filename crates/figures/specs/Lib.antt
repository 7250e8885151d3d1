pub mod Figures
pub mod Pressures
