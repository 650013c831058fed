pub mod Layout
pub mod Lines
pub mod Printed
