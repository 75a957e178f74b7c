pub mod WorkedCuts
