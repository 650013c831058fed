pub mod SiteLists
pub mod Keys
mod Worked
