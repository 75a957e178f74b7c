pub mod SchedulesLemmas
