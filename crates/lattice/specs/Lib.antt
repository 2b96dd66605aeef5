pub mod Tests
pub mod Order
pub mod GoodTables
pub mod Masks
pub mod HeldLabels
