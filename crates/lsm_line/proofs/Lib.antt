pub mod LinesAndWords
pub mod NumberWords
pub mod SpelledWords
pub mod BatchSteps
pub mod JoinedText
