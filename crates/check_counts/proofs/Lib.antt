mod CountSteps
mod Tallying
