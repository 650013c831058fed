-- What a profile says, of a run or of a file alike: its tables, contexts and links, its cliques with the link that
-- enters each, and own counts and totals of each row by measure.
use Rattle.std.specs.Prelude.{ℕ, Bool, List, Option}
use Rattle.md_base.specs.declared.measure.Measure.{Measure}
use Rattle.md_static.specs.Tables.{Static}

-- a row that has counts, by kind and number
pub data Row : Type 0 where
  OfLink : ℕ → Row
  OfContext : ℕ → Row
  OfClique : ℕ → Row
  OfProcedure : ℕ → Row
  OfSite : ℕ → Row
  OfModule : ℕ → Row

-- a link without its counts
pub record Join : Type 0 where
  pub caller : Option ℕ
  pub site : Option ℕ
  pub callee : ℕ

-- a clique has no own counts, and a link inside a clique no total
pub record View : Type 0 where
  pub statics : Static
  pub nodes : List ℕ
  pub links : List Join
  pub finished : Bool
  pub cliques : List ℕ
  pub entries : List ℕ
  pub own : Row → Measure → Option ℕ
  pub total : Row → Measure → Option ℕ
