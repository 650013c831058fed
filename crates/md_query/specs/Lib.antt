pub mod Pair
pub mod Asked
pub mod Told
pub mod Page
pub mod PageOf
