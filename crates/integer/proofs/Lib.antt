pub mod IntegerLaws
