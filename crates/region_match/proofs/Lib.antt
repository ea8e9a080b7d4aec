pub mod AllTables
pub mod Clashes
pub mod Conversion
mod Ended
pub mod Endings
pub mod FunctionFacts
pub mod Labelling
pub mod Lists
pub mod Mixing
pub mod Naming
pub mod OneTask
pub mod OpenEnds
pub mod OpenFacts
pub mod PlaceFacts
pub mod Started
