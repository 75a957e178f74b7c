pub mod Printing
pub mod Traces
pub mod TraceLaws
pub mod Tracing
