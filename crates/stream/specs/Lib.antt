pub mod Stream
pub mod OpenLineLaws
pub mod StreamLaws
