-- Which profiles are valid: what a profile file may hold, and what each run leaves.
use Rattle.std.specs.Prelude.{ℕ, ◌≡◌, ◌≢◌, ◌<◌, ◌^◌, ◌==◌, ◌&&◌, nat_lt, Bool, false, List, length, drop, All, Any, AllPairs, Option, Some, None, IsSome, IfSome, IsSomeAnd, IsTrue, slice_get}
use Rattle.md_static.specs.declared.entry.Site.{Site}
use Rattle.md_static.specs.Tables.{Static, callee_of}
use Rattle.md_static.specs.Sound.{IsSound}
use Rattle.md_dynamic.specs.declared.link.LinkRow.{LinkRow}
use Rattle.md_dynamic.specs.Profile.{ProfileRows}

-- the root link comes from nowhere and leads to context 0
pub record IsRoot (link : LinkRow) : Type 0 where
  pub caller : link.caller ≡ None
  pub site : link.site ≡ None
  pub callee : link.callee ≡ 0

-- there is a context and a link, and not too many, each context has a procedure, and link 0 is the root link
pub record HasRows (statics : Static) (nodes : List ℕ) (links : List LinkRow) : Type 0 where
  pub some_nodes : 0 < length nodes
  pub few_nodes : length nodes < 2 ^ 32
  pub some_links : 0 < length links
  pub few_links : length links < 2 ^ 32
  pub nodes_there : All (λ p. p < length statics.procs) nodes
  pub root : IsSomeAnd (slice_get links 0) IsRoot

-- a call from this site of a procedure p to a procedure q
abbrev pub MayCall : Site → ℕ → ℕ → Type 0
MayCall site p q = (site.owner ≡ p) × IfSome (callee_of site.kind) (λ callee. callee ≡ q)

-- contexts v and w and the site are there, the site belongs to v's procedure, and it may call w's
abbrev pub Joins : Static → List ℕ → ℕ → ℕ → ℕ → Type 0
Joins statics nodes v site w =
    IsSomeAnd (slice_get nodes v) (λ p. IsSomeAnd (slice_get statics.sites site) (λ x. IsSomeAnd (slice_get nodes w) (λ q. MayCall x p q)))

-- a link other than the root link: from a context, at a call site, to a context that it may call
abbrev pub Fits : Static → List ℕ → LinkRow → Type 0
Fits statics nodes link = IsSomeAnd link.caller (λ v. IsSomeAnd link.site (λ site. Joins statics nodes v site link.callee))

-- what tells two links apart: the context that calls, the call site, and the procedure that is called
abbrev pub link_key : List ℕ → LinkRow → Option ℕ × Option ℕ × Option ℕ
link_key nodes link = (link.caller, link.site, slice_get nodes link.callee)

abbrev pub is_below : Option ℕ → ℕ → Bool
is_below None v = false
is_below (Some u) v = nat_lt u v

-- the link leads to context v, from a context of a lower number
abbrev pub leads_down : ℕ → LinkRow → Bool
leads_down v link = (link.callee == v) && is_below link.caller v

-- each context but the first is reached from one of a lower number
abbrev pub AllReached : ℕ → List LinkRow → Type 0
AllReached contexts links = (v : ℕ) → 0 < v → v < contexts → Any (λ link. IsTrue (leads_down v link)) links

-- The tables are those of a program; there is a context and a link, and at most 4,294,967,295 of each; each context has
-- a procedure that is there; link 0 is the root link, and each other link fits and differs from the others; and each
-- context but the first is reached from one of a lower number.
pub record AreValid (statics : Static) (nodes : List ℕ) (links : List LinkRow) : Type 0 where
  pub sound : IsSound statics
  pub rows : HasRows statics nodes links
  pub links_fit : All (Fits statics nodes) (drop 1 links)
  pub links_differ : AllPairs (λ a b. link_key nodes a ≢ link_key nodes b) (drop 1 links)
  pub all_reached : AllReached (length nodes) links

abbrev pub IsValid : ProfileRows → Type 0
IsValid f = AreValid f.statics f.nodes f.links

-- a link of which the caller, the site and the callee's procedure are there
pub record HasEnds (nodes : List ℕ) (link : LinkRow) : Type 0 where
  pub caller : IsSome link.caller
  pub site : IsSome link.site
  pub callee : link.callee < length nodes

-- three numbers as what tells a link apart
abbrev pub whole_key : ℕ × ℕ × ℕ → Option ℕ × Option ℕ × Option ℕ
whole_key key = (Some key.0, Some key.1, Some key.2)
