pub mod Running
pub mod LaneStores
