pub mod Callers
pub mod Goes
pub mod Later
pub mod Paid
pub mod RunLaw
pub mod SiteLemmas
pub mod TraceLaw
mod Worked
