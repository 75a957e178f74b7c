pub mod ListingsLemmas
pub mod ScriptCallsLemmas
