pub mod Numbers
pub mod NumbersLemmas
pub mod Requests
pub mod Openings
pub mod Turns
pub mod Stages
pub mod Standing
pub mod Replays
