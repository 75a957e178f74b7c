-- What is kept of calls to judge an order of them, and what its parts say of each other's work.
pub mod Turns
pub mod Judging
