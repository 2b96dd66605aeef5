pub mod CodeReader
