pub mod Leads
pub mod LeadsGoals
pub mod LeadsPrograms
pub mod LeadsTerms
pub mod MainLemmas
pub mod Names
pub mod TextLaws
mod Worked
