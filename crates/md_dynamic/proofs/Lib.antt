pub mod Callees
pub mod Growth
pub mod Offsets
pub mod Options
pub mod Positions
pub mod SpanSteps
pub mod Validity
mod Worked
mod WorkedTables
