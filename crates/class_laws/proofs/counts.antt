pub mod CountsLemmas
