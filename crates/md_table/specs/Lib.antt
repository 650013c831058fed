pub mod Cells
pub mod Table
pub mod Spans
pub mod Anchors
pub mod Html
