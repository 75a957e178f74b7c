pub mod WorkedCases
pub mod WorkedPrograms
