pub mod Grammar
pub mod Items
pub mod Lines
pub mod Printed
pub mod Laws
pub mod Answers
