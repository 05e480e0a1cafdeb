pub mod Files
pub mod Computed
pub mod Named
pub mod Wrong
pub mod Examples
pub mod Witness
