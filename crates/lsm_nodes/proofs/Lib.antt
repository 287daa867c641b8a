pub mod LongerHistories
pub mod RecordedCalls
pub mod SettledClaims
pub mod RecordedPicks
pub mod RecordedInstalls
pub mod TalliedRecords
pub mod MatchedRecords
pub mod PartedHistories
pub mod SettledRounds
mod EndedRounds
pub mod CarriedJobs
