pub mod Named
pub mod Maps
