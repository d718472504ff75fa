pub mod CommandLaws
pub mod FeedLaws
pub mod PrintLaws
pub mod AnswerLaws
pub mod SiteLaws
pub mod AckLaws
pub mod LinkLaws
