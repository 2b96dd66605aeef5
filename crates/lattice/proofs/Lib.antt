pub mod Tests
pub mod OrderBits
pub mod Order
pub mod Masks
pub mod HeldLabels
