pub mod About
pub mod Lines
pub mod Rows
pub mod Spans
pub mod Show
pub mod Trace
pub mod steps
