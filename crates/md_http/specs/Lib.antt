pub mod Heard
pub mod Message
pub mod Response
pub mod Reading
pub mod Served
pub mod Serving
