pub mod Decimal
pub mod PutText
pub mod PrincipalsAbove
pub mod Lines
pub mod OwnerBytes
pub mod Examples
pub mod Promises
