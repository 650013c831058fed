pub mod Reading
pub mod Keys
