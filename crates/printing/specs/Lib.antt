pub mod PrintedText
pub mod Examples
pub mod Promises
pub mod Requests
