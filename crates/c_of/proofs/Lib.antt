mod PartSteps
mod FileForms
