pub mod Looking
pub mod Breaking
pub mod Listing
pub mod Piled
