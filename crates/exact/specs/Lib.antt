pub mod Exact
pub mod ExactLaws
pub mod Bits
