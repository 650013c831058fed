-- The links of a run, with the contexts to which they lead (CallSiteDynamics of Conway and Somogyi 2001).
use Rattle.std.specs.Prelude.{ℕ, ◌≡◌, ◌||◌, Bool, false, List, [], ◌∷◌, ◌++◌, Some, None, if◌then◌else◌, slice_get}
use Rattle.md_trace.specs.Context.{Link, Placed, same_link}

-- a link and the context to which it leads
pub record Leading : Type 0 where
  pub link : Link
  pub to : ℕ

-- the link of activation 0, which no context calls at no site
abbrev pub root_link : ℕ → Link
root_link main = record { caller = None; site = None; procedure = main }

-- the link is one of these
abbrev pub is_among : Link → List Leading → Bool
is_among l [] = false
is_among l (x ∷ xs) = same_link l x.link || is_among l xs

-- the links of activations, in the order of their numbers. Link 0 is the root link, and is there from the start;
-- the others are numbered by first use
abbrev pub links : ℕ → List Placed → List Leading
links main [] = record { link = root_link main; to = 0 } ∷ []
links main (x ∷ xs) = let before = links main xs in if is_among x.link before then before else before ++ record { link = x.link; to = x.context } ∷ []

-- the link has number k among these, and leads to that context
pub record IsNumberOf (ls : List Leading) (l : Link) (k : ℕ) (to : ℕ) : Type 0 where
  pub there : slice_get ls k ≡ Some (record { link = l; to = to })
