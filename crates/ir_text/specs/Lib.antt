pub mod Items
pub mod Printed
pub mod RoundTrip
pub mod Unlined
