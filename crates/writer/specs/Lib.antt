pub mod Refusing
pub mod RoundTrip
