pub mod Spots
pub mod Flow
pub mod Places
pub mod AtTurns
pub mod TraceFlow
pub mod Level
pub mod Sited
pub mod RunFlow
pub mod Totals
pub mod Solved
pub mod Determined
pub mod TurnLaws
mod Worked
pub mod Within
pub mod FewTurns
