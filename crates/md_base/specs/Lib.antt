pub mod Counts
pub mod Distinct
pub mod Outside
pub mod Files
pub mod Nets
pub mod Streams
