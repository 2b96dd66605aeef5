pub mod HeldStoreOutput
pub mod Sheet
pub mod SheetOpening
pub mod CountsAdded
