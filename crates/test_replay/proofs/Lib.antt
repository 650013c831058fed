pub mod Handing
pub mod PastSteps
