pub mod Modules
pub mod Ports
pub mod Reading
pub mod Orderly
pub mod Instrumented
