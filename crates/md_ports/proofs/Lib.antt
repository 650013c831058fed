mod Bytes
mod Names
mod Once
mod Lists
mod Read
mod SiteTables
mod Numbers
mod Sound
mod Words
mod Onward
pub mod Spelled
mod Worked
