pub mod OldOutput
pub mod Journal
pub mod WholeRun
pub mod StretchRun
