pub mod Cost
pub mod Named
pub mod Told
pub mod Lines
pub mod Text
