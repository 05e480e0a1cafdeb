pub mod Usual
pub mod UsualLaws
pub mod Number
pub mod NumberLaws
