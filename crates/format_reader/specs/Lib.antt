pub mod Unruled
pub mod UnruledLaws
pub mod Question
pub mod QuestionLaws
pub mod TextLaws
