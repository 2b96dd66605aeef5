pub mod Sheet
pub mod HeldStore
pub mod Counts
