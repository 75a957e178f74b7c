pub mod Workers
pub mod LaneEnds
