pub mod Lists
pub mod Insts
pub mod NameLemmas
pub mod Closures
