pub mod Bridge
pub mod BudgetLemmas
pub mod DepthLemmas
pub mod ProcedureLemmas
pub mod SiteLemmas
pub mod TraceLemmas
pub mod Rules
pub mod Worked
