mod EditsInTurn
mod ElementReading
mod JobOutcomes
mod JobTables
mod NoTable
