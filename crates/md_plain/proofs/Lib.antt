mod ValueLemmas
mod GoalLemmas
mod ToldLemmas
mod TraceLemmas
mod RunLemmas
