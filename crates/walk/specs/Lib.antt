pub mod Due
pub mod DueLaws
pub mod Step
pub mod StepLaws
