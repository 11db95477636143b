-- What private steps alone are stated by.
pub mod Accepted
pub mod PlanParts
pub mod RuleViews
