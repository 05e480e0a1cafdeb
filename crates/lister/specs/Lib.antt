pub mod Lister
pub mod Listed
pub mod Count
pub mod ListedLaws
pub mod FunctionLaws
pub mod NextLaws
pub mod ListerLaws
