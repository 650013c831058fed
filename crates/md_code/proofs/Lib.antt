pub mod SurveyLemmas
pub mod NumberLemmas
pub mod LookupLemmas
pub mod BlockLemmas
pub mod ShapeLemmas
pub mod DetailLemmas
pub mod LayoutLemmas
pub mod ProgramLemmas
mod Worked
