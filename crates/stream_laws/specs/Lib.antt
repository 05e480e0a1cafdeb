pub mod Streaming
pub mod Open
pub mod OpenLaws
pub mod Calls
pub mod Examples
