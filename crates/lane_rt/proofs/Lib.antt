mod CallLemmas
mod PlacedLemmas
mod KeptLemmas
mod RunningLemmas
mod ViewLemmas
mod EventLemmas
