pub mod CodeLayout
pub mod CodeParts
pub mod SheetPaths
pub mod Checkpoint
