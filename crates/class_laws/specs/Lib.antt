pub mod Counts
pub mod Laws
pub mod Numbers
pub mod Pairs
pub mod CountTables
