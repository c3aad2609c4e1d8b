pub mod Bytes
pub mod Helpers
pub mod Convert
pub mod Laws
