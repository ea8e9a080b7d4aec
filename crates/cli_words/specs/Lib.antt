pub mod Asked
pub mod io
