mod Read
mod Stored
mod Worked
