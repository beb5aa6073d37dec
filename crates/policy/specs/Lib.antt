pub mod Refusals
pub mod Styles
pub mod Bans
pub mod PerCategory
pub mod Grid
pub mod Turned
