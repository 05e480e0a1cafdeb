pub mod Reader
pub mod Find
pub mod FindLaws
pub mod SpanLaws
pub mod ReaderLaws
pub mod RepliedLaws
