pub mod Decimal
pub mod PrincipalsAbove
pub mod Lines
pub mod PutText
pub mod Examples
pub mod Promises
pub mod Written
