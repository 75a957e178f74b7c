pub mod RangeLemmas
pub mod EpochLemmas
pub mod HistogramLemmas
pub mod AccountLemmas
pub mod RowLemmas
pub mod RowsAtLemmas
pub mod GridCallLemmas
pub mod GridLemmas
