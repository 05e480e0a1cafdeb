pub mod Kind
