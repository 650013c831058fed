pub mod Damage
pub mod Fields
pub mod Rows
