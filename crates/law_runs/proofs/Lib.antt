pub mod Effects
pub mod Joining
pub mod FitTurns
pub mod FitCalls
pub mod FitLifts
pub mod Worked
pub mod MainLemmas
