pub mod Views
pub mod Cuts
pub mod Cores
pub mod Kept
pub mod Laws
pub mod Events
