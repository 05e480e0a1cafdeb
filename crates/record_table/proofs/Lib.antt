pub mod TypedSetsLaws
