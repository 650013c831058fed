pub mod Children
pub mod Rests
pub mod Branches
pub mod Picture
pub mod Twigs
