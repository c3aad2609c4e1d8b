pub mod Payments
pub mod Prize
pub mod Laws
pub mod Examples
pub mod Helpers
