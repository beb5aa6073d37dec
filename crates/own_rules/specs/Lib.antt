pub mod Wall
pub mod FirstCome
