pub mod Plays
pub mod Sessions
pub mod Styles
pub mod Views
