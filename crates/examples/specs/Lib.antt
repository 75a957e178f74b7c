pub mod Histograms
pub mod HistogramCalls
pub mod Accounts
pub mod AccountCalls
pub mod Grids
pub mod GridCalls
