mod RaisingSteps
mod EquationForms
