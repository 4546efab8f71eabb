pub mod Logs
pub mod Texts
pub mod Times
pub mod Trials
pub mod Views
