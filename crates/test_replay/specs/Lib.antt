pub mod Past
pub mod Profiles
pub mod Replays
