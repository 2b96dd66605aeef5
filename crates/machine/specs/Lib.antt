pub mod Answers
pub mod MachineNumbers
pub mod CompiledRuns
pub mod CompiledExpressions
pub mod Machine
pub mod BlockRuns
pub mod MachineContracts
