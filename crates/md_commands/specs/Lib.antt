pub mod Parts
pub mod Tools
pub mod Form
pub mod Told
pub mod Lines
pub mod Reading
