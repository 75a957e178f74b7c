pub mod Calls
pub mod Faults
pub mod Files
pub mod Ids
pub mod Shelves
pub mod Sinks
