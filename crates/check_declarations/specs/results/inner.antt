pub mod ResultPlans
