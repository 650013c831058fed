pub mod Links
pub mod OfHistory
pub mod Profile
pub mod Rows
pub mod Slots
pub mod Spans
pub mod Valid
