pub mod Forms
pub mod Numbers
pub mod Words
pub mod Objects
pub mod Texts
