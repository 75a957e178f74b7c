pub mod SequentialLemmas
pub mod ProgramsLemmas
