pub mod Costs
pub mod PatternTests
pub mod Building
pub mod Bounds
pub mod Spending
pub mod ResultSpending
pub mod Straight
pub mod CostRules
