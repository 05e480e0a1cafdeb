pub mod DueLaws
pub mod FaultLaws
pub mod JudgeLaws
pub mod PrintedLaws
pub mod SaidLaws
pub mod ShownLaws
