pub mod DueLemmas
pub mod MakesLemmas
