pub mod CodeReaderValues
pub mod CodeReaderCommands
pub mod CodeReaderEmission
pub mod CodeReaderExpressions
pub mod CodeReaderParts
pub mod CodeReaderRoom
pub mod CodeReaderTables
