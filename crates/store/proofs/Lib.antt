pub mod Readiness
pub mod Accepted
pub mod Moving
pub mod WalkTurns
pub mod WalkSteps
pub mod SettledParts
