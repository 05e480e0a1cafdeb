pub mod BodyLaws
pub mod PutLaws
pub mod RunLaws
pub mod RewriterLaws
