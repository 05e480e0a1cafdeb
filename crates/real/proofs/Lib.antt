pub mod RestLaws
pub mod RestCompleteLaws
pub mod RestSoundLaws
pub mod RealLaws
pub mod PlainLaws
