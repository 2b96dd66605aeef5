pub mod Result
pub mod Refusal
pub mod Bytes
pub mod Value
pub mod SignedIntegers
pub mod Integers
