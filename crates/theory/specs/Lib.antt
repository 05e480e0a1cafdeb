pub mod Sets
pub mod Due
pub mod DueLaws
pub mod Proper
