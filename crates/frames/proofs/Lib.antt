pub mod Pads
pub mod Same
pub mod Rings
pub mod QueueLaws
