pub mod Meaning
pub mod Gaps
pub mod Turns
pub mod Mail
pub mod TurnCases
pub mod MailLaws
pub mod Handing
pub mod Trials
