pub mod Counts
pub mod Equations
pub mod Derived
pub mod Laws
