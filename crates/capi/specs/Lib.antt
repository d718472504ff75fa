pub mod Word
pub mod PrimaryWords
pub mod StandbyWords
pub mod PrimaryCalls
pub mod StandbyCalls
pub mod PairCalls
pub mod Joined
pub mod Host
