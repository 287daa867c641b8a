mod CountedTurns
mod HandedJobs
mod HeldClaims
mod KeptSteps
mod SettledResults
mod TakenResults
mod TurnSteps
