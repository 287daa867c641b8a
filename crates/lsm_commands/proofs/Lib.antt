mod RangeLines
mod SessionSteps
