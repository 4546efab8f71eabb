pub mod Commas
pub mod Keeping
pub mod Parting
pub mod Playing
pub mod Taking
