pub mod Leaves
pub mod Tables
pub mod Blocks
pub mod Details
pub mod Facts
pub mod Numbers
pub mod Told
pub mod Adds
