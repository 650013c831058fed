-- Port histories: which lists of events a program with given call sites can make, whatever its goals do.
-- The ports are those of the box model (Byrd 1980): an activation is entered by its Call or a Redo and left by
-- an Exit, its Fail or, where an exception leaves it, an Excp. What is cut has no further ports.
use Rattle.std.specs.Prelude.{ℕ, ◌≡◌, ◌==◌, ◌<◌, Bool, true, false, List, [], ◌∷◌, length, All, Option, Some, None, if◌then◌else◌, IsSomeAnd, MatchOption, IfSome, slice_get}
use Rattle.md_trace.specs.declared.event.Event.{Event}
use Rattle.md_trace.specs.declared.event.Event.TheVariants.{Call, Exit, Redo, Fail, Excp, Alloc}
use Rattle.md_trace.specs.Activation.{activations, parent_of, procedure_of}

-- a call site: the procedure that has it, and the one that it calls, or none where it is higher-order
pub record CallSite : Type 0 where
  pub owner : ℕ
  pub callee : Option ℕ

-- what a program's text fixes of its calls: the main procedure, how many procedures there are, and the call sites
pub record SiteTable : Type 0 where
  pub main : ℕ
  pub procedures : ℕ
  pub sites : List CallSite

-- each procedure that the table names is one of its procedures
pub record IsSiteTable (t : SiteTable) : Type 0 where
  pub main_is_one : t.main < t.procedures
  pub owners_are : All (λ x. x.owner < t.procedures) t.sites
  pub callees_are : All (λ x. IfSome x.callee (λ q. q < t.procedures)) t.sites

-- the activation that runs after a history, or none before the first call and after the end of activation 0
abbrev pub current : List Event → Option ℕ
current [] = None
current (Call a p s q ∷ h) = Some a
current (Exit a ∷ h) = parent_of (activations h) a
current (Redo a ∷ h) = Some a
current (Fail a ∷ h) = parent_of (activations h) a
current (Excp a ∷ h) = parent_of (activations h) a
current (Alloc a w ∷ h) = current h

-- the last port of activation a is an Exit
abbrev pub has_exited : List Event → ℕ → Bool
has_exited [] a = false
has_exited (Call b p s q ∷ h) a = if a == b then false else has_exited h a
has_exited (Exit b ∷ h) a = if a == b then true else has_exited h a
has_exited (Redo b ∷ h) a = if a == b then false else has_exited h a
has_exited (Fail b ∷ h) a = if a == b then false else has_exited h a
has_exited (Excp b ∷ h) a = if a == b then false else has_exited h a
has_exited (Alloc b w ∷ h) a = has_exited h a

-- a site of the procedure `owner` may call q: its callee, or any procedure where the site is higher-order
pub record MayCallAt (t : SiteTable) (owner : Option ℕ) (q : ℕ) (x : CallSite) : Type 0 where
  pub owned : owner ≡ Some x.owner
  pub callee : MatchOption x.callee (q < t.procedures) (λ c. q ≡ c)

-- after h, the activation `parent` may call q at this site; the very first call is that of main, at no site
abbrev pub MayCall : SiteTable → List Event → Option ℕ → Option ℕ → ℕ → Type 0
MayCall t h None None q = (h ≡ []) × (q ≡ t.main)
MayCall t h (Some p) (Some s) q = IsSomeAnd (slice_get t.sites s) (MayCallAt t (procedure_of (activations h) p) q)
MayCall t h None (Some s) q = ⊥
MayCall t h (Some p) None q = ⊥

-- one more call is few enough: a history has fewer than 4,294,967,295 of them
abbrev pub HasRoom : List Event → Type 0
HasRoom h = length (activations h) < 4294967294

-- The caller of activation a runs. Activation 0 has no caller, so it isn't entered again: after its end nobody runs.
abbrev pub CallerRuns : List Event → ℕ → Type 0
CallerRuns h a = (p : ℕ) × (parent_of (activations h) a ≡ Some p) × (current h ≡ Some p)

-- the event may come after h
abbrev pub MayFollow : SiteTable → List Event → Event → Type 0
MayFollow t h (Call a p s q) = (a ≡ length (activations h)) × HasRoom h × (p ≡ current h) × MayCall t h p s q
MayFollow t h (Exit a) = current h ≡ Some a
MayFollow t h (Redo a) = (has_exited h a ≡ true) × CallerRuns h a
MayFollow t h (Fail a) = current h ≡ Some a
MayFollow t h (Excp a) = current h ≡ Some a
MayFollow t h (Alloc a w) = current h ≡ Some a

-- each event of h may come after those before it
abbrev pub IsPortHistory : SiteTable → List Event → Type 0
IsPortHistory t [] = IsSiteTable t
IsPortHistory t (e ∷ h) = IsPortHistory t h × MayFollow t h e
