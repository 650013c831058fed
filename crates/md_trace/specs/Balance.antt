-- A finished history: who was entered was left.
use Rattle.std.specs.Prelude.{ℕ, ◌≡◌, ◌≢◌, ◌⊎◌, ◌==◌, ◌+◌, ◌<◌, List, [], ◌∷◌, length, Option, Some, None, All, if◌then◌else◌}
use Rattle.md_base.specs.declared.measure.Counts.{Counts}
use Rattle.md_trace.specs.declared.event.Event.{Event}
use Rattle.md_trace.specs.declared.event.Event.TheVariants.{Call, Exit, Redo, Fail, Excp, Alloc}
use Rattle.md_trace.specs.Activation.{activations}
use Rattle.md_trace.specs.PortHistory.{SiteTable, IsPortHistory, current}
use Rattle.md_base.specs.declared.measure.Measure.TheVariants.{Calls, Exits, Fails, Redos, Excps}
use Rattle.md_trace.specs.Context.{Link, has_link, placed_of}
use Rattle.md_trace.specs.Count.{set_counts}
use Rattle.md_trace.specs.Links.{links}
use Rattle.md_trace.specs.Totals.{own, in_context}

-- none of the five port counts stands at its greatest number
pub record IsNotFull (c : Counts) : Type 0 where
  pub calls : c.calls < 4294967295
  pub exits : c.exits < 4294967295
  pub fails : c.fails < 4294967295
  pub redos : c.redos < 4294967295
  pub excps : c.excps < 4294967295

-- as many calls and redos as exits, fails and exceptions
abbrev pub IsEven : Counts → Type 0
IsEven c = c.calls + c.redos ≡ (c.exits + c.fails) + c.excps

-- in a port history after which nothing runs each link that is not full was entered as often as it was left
abbrev pub LinksBalance : Type 0
LinksBalance =
    (t : SiteTable) (h : List Event) (l : Link) → IsPortHistory t h → current h ≡ None → IsNotFull (set_counts t.main h (has_link l)) → IsEven (set_counts t.main h (has_link l))

-- no link that leads to this context is full
abbrev pub NoneIsFull : ℕ → List Event → ℕ → Type 0
NoneIsFull main h c = All (λ x. x.to ≡ c → IsNotFull (set_counts main h (has_link x.link))) (links main (placed_of main h))

-- in such a history each context none of whose links is full has, among its own counts, as many calls and redos as
-- exits, fails and exceptions
abbrev pub ContextsBalance : Type 0
ContextsBalance =
    (t : SiteTable) (h : List Event) (c : ℕ) → IsPortHistory t h → current h ≡ None → NoneIsFull t.main h c →
    own t.main h (in_context c) Calls + own t.main h (in_context c) Redos ≡ (own t.main h (in_context c) Exits + own t.main h (in_context c) Fails) + own t.main h (in_context c) Excps

-- the last port of an activation, or none where it has none; an allocation is no port
abbrev pub last_port : List Event → ℕ → Option Event
last_port [] a = None
last_port (Call b p s q ∷ h) a = if a == b then Some (Call b p s q) else last_port h a
last_port (Exit b ∷ h) a = if a == b then Some (Exit b) else last_port h a
last_port (Redo b ∷ h) a = if a == b then Some (Redo b) else last_port h a
last_port (Fail b ∷ h) a = if a == b then Some (Fail b) else last_port h a
last_port (Excp b ∷ h) a = if a == b then Some (Excp b) else last_port h a
last_port (Alloc b w ∷ h) a = last_port h a

-- in a port history after which nothing runs the last port of each activation is an exit, a fail or an exception
abbrev pub ActivationsEnd : Type 0
ActivationsEnd =
    (t : SiteTable) (h : List Event) (a : ℕ) → IsPortHistory t h → current h ≡ None → a < length (activations h) →
    (last_port h a ≡ Some (Exit a)) ⊎ (last_port h a ≡ Some (Fail a)) ⊎ (last_port h a ≡ Some (Excp a))

-- an activation neither failed nor was left by an exception: it was cut, or nobody came back to it
abbrev pub WasCut : List Event → ℕ → Type 0
WasCut h a = All (λ e. (e ≢ Fail a) × (e ≢ Excp a)) h

-- in such a history an activation that was cut ends with an exit
abbrev pub CutOnesHaveExited : Type 0
CutOnesHaveExited =
    (t : SiteTable) (h : List Event) (a : ℕ) → IsPortHistory t h → current h ≡ None → a < length (activations h) → WasCut h a → last_port h a ≡ Some (Exit a)
