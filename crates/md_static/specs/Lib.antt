pub mod Names
pub mod Sites
pub mod Sound
pub mod Tables
