pub mod Documents
pub mod Totals
pub mod Items
pub mod BuildCalls
pub mod Parts
pub mod Collected
pub mod kept
