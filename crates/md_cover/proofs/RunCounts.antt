-- The profile of a run has the run's plain counts of calls and exits, unless a link is full.
use Rattle.std.proofs.Common.{◌≡◌, ℕ, zero, suc, ◌<◌, ◌^◌, eqb, Bool, true, false, ◌||◌, cond, List, [], ◌∷◌, length, Option, Some, None, refl, sym, ap, ◌∙◌, inl, inr, arith}
use Rattle.std.specs.Prelude.{nat_lt, option_and_then}
use Rattle.std.specs.List.{slice_get, list_any}
use Rattle.std.specs.Option.{option_map}
use Rattle.std.proofs.lemmas.Bool.{cases_Bool, or_parts, false≢true, ltb-false}
use Rattle.std.proofs.lemmas.Bool.Decides.{eqb_tells}
use Rattle.md_base.specs.declared.measure.Counts.{Counts}
use Rattle.md_base.specs.declared.measure.Measure.{Measure}
use Rattle.md_base.specs.declared.measure.Measure.TheVariants.{Calls, Exits, Fails, Redos, Allocs, Words, Excps}
use Rattle.md_hlds.specs.Hlds.{Hlds}
use Rattle.md_hlds.specs.Run.{run, is_finished}
use Rattle.md_trace.specs.declared.event.Event.{Event}
use Rattle.md_trace.specs.Activation.{Activation, activations, numbered}
use Rattle.md_trace.specs.PortHistory.{SiteTable, IsPortHistory}
use Rattle.md_trace.specs.Context.{Placed, placed_of, same_option}
use Rattle.md_trace.specs.Links.{Leading, links}
use Rattle.md_trace.specs.Count.{capped, count_of as measured, counts_by, link_sum, passes, passing, sum_where}
use Rattle.md_trace.specs.Totals.{in_procedure, at_site, own}
use Rattle.md_trace.proofs.Counting.{sum-agree}
use Rattle.md_trace.proofs.LinkFacts.{are-calls, are-right}
use Rattle.md_trace.proofs.Numbered.{numbered-there}
use Rattle.md_trace.proofs.Placing.{numbered-placed}
use Rattle.md_static.specs.Tables.{Static}
use Rattle.law_events.specs.History.{history}
use Rattle.md_dynamic.specs.declared.link.LinkRow.{LinkRow}
use Rattle.md_dynamic.specs.OfHistory.{IsProfileOf, row_of}
use Rattle.md_dynamic.specs.Profile.{ProfileRows}
use Rattle.md_dynamic.specs.Valid.{IsValid}
use Rattle.md_cost.proofs.ValidSteps.{procedure_there, site_below}
use Rattle.md_cost.specs.FileView.{IsFileView}
use Rattle.md_cost.specs.View.{Row, View, OfProcedure, OfSite}
use Rattle.law_views.specs.RunView.{IsRunView}
use Rattle.law_views.proofs.OneView.{run_view_of}
use Rattle.law_views.proofs.OwnCounts.{at_map, at_node, turned}
use Rattle.law_turns.specs.Counts.{is_number, is_of_procedure, is_called_at}
use Rattle.md_cover.specs.Coverage.{has_full_count, has_full_link, HasCountsOf, IsCountedIn}
use Rattle.md_cover.specs.Told.{count_of}
use Rattle.md_cover.proofs.PlainCounts.{plain_count, sum_none}

-- ---- links that aren't full

none_passes : {A : Type 0} (p : A → Bool) (xs : List A) (j : ℕ) (x : A) → list_any p xs ≡ false → slice_get xs j ≡ Some x → p x ≡ false
none_passes p [] j x none at = absurd (cc at)
none_passes p (y ∷ ys) zero x none at = let same : y ≡ x = cc at in ap p (sym same) ∙ (or_parts (p y) (list_any p ys) none).0
none_passes p (y ∷ ys) (suc j) x none at = none_passes p ys j x (or_parts (p y) (list_any p ys) none).1 at

by_measure : (f : Measure → ℕ) (m : Measure) → measured (counts_by f) m ≡ f m
by_measure f Calls = refl
by_measure f Exits = refl
by_measure f Fails = refl
by_measure f Redos = refl
by_measure f Allocs = refl
by_measure f Words = refl
by_measure f Excps = refl

-- no number is the greatest
record AreLess (c : Counts) : Type 0 where
  less : (m : Measure) → eqb (measured c m) 4294967295 ≡ false

are_less : (c : Counts) → has_full_count c ≡ false → AreLess c
are_less c none =
    let full = λ (m : Measure). eqb (measured c m) 4294967295 in
    let seven = or_parts (full Calls || full Exits || full Fails || full Redos || full Allocs || full Words) (full Excps) none in
    let six = or_parts (full Calls || full Exits || full Fails || full Redos || full Allocs) (full Words) seven.0 in
    let five = or_parts (full Calls || full Exits || full Fails || full Redos) (full Allocs) six.0 in
    let four = or_parts (full Calls || full Exits || full Fails) (full Redos) five.0 in
    let three = or_parts (full Calls || full Exits) (full Fails) four.0 in
    let two = or_parts (full Calls) (full Exits) three.0 in
    record { less = each two.0 two.1 three.1 four.1 five.1 six.1 seven.1 }
  where
    each : eqb c.calls 4294967295 ≡ false → eqb c.exits 4294967295 ≡ false → eqb c.fails 4294967295 ≡ false → eqb c.redos 4294967295 ≡ false → eqb c.allocs 4294967295 ≡ false → eqb c.words 4294967295 ≡ false → eqb c.excps 4294967295 ≡ false
        → (m : Measure) → eqb (measured c m) 4294967295 ≡ false
    each a b d e f g h Calls = a
    each a b d e f g h Exits = b
    each a b d e f g h Fails = d
    each a b d e f g h Redos = e
    each a b d e f g h Allocs = f
    each a b d e f g h Words = g
    each a b d e f g h Excps = h

-- ---- activations of a procedure, and those called at a site

of_procedure : (q : ℕ) (x : Activation) (y : Placed) → y.link.procedure ≡ x.procedure → in_procedure q y ≡ is_number q (Some x.procedure)
of_procedure q x y same = rw same (turned q x.procedure)

site_same : (x : ℕ) (o : Option ℕ) → same_option (Some x) o ≡ is_number x o
site_same x None = refl
site_same x (Some n) = turned x n

module _ (t : SiteTable) (s : Static) (h : List Event) (finished : Bool) (f : ProfileRows) (is : IsPortHistory t h) (of : IsProfileOf s t.main h finished f) (valid : IsValid f) where
  -- an activation, and itself in its context
  record Facts (a : ℕ) : Type 0 where
    act : Activation
    its : numbered (activations h) a ≡ Some act
    there : Placed
    at : numbered (placed_of t.main h) a ≡ Some there
    site : there.link.site ≡ act.site
    procedure : there.link.procedure ≡ act.procedure

  facts : (a : ℕ) → a < length (activations h) → Facts a
  facts a below =
      let x = numbered-there (activations h) a below in
      let y = numbered-placed t.main (activations h) a x.0 x.1 in
      record { act = x.0; its = x.1; there = y.0; at = y.1; site = y.2.site; procedure = y.2.procedure }

  same_procedure : (q a : ℕ) → a < length (activations h) → passing (placed_of t.main h) (in_procedure q) a ≡ is_of_procedure (activations h) q a
  same_procedure q a below =
      let x = facts a below in
      ap (passes (in_procedure q)) x.at
      ∙ of_procedure q x.act x.there x.procedure
      ∙ ap (λ (o : Option Activation). is_number q (option_map (λ (z : Activation). z.procedure) o)) (sym x.its)

  same_site : (n a : ℕ) → a < length (activations h) → passing (placed_of t.main h) (at_site n) a ≡ is_called_at (activations h) n a
  same_site n a below =
      let x = facts a below in
      ap (passes (at_site n)) x.at
      ∙ ap (same_option (Some n)) x.site
      ∙ site_same n x.act.site
      ∙ ap (λ (o : Option Activation). is_number n (option_and_then (λ (z : Activation). z.site) o)) (sym x.its)

  -- ---- what a profile has no place for

  is_of : (n : ℕ) (o : Option ℕ) → is_number n o ≡ true → o ≡ Some n
  is_of n None holds = absurd (false≢true holds)
  is_of n (Some k) holds = elim (eqb_tells k n) [
    | inl same ↦ ap Some same.1
    | inr other ↦ absurd (false≢true (sym other.0 ∙ holds))
  ]

  procedure_below : (q a : ℕ) → a < length (activations h) → is_of_procedure (activations h) q a ≡ true → q < length s.procs
  procedure_below q a below holds =
      let x = facts a below in
      let its : Some x.act.procedure ≡ Some q = sym (ap (option_map (λ (z : Activation). z.procedure)) x.its) ∙ is_of q (option_map (λ (z : Activation). z.procedure) (numbered (activations h) a)) holds in
      let node : slice_get f.nodes x.there.context ≡ Some q = at_node t s h finished f is of a x.there x.at ∙ ap Some x.procedure ∙ its in
      rw (← of.tables) (procedure_there f valid x.there.context q node)

  called_site_below : (n a : ℕ) → a < length (activations h) → is_called_at (activations h) n a ≡ true → n < length s.sites
  called_site_below n a below holds =
      let x = facts a below in
      let its : x.act.site ≡ Some n = sym (ap (λ (o : Option Activation). option_and_then (λ (z : Activation). z.site) o) x.its) ∙ is_of n (option_and_then (λ (z : Activation). z.site) (numbered (activations h) a)) holds in
      let l = (are-right t.main (activations h) (are-calls t h is)).linked a x.there x.at in
      let row : slice_get f.links l.0 ≡ Some (row_of t.main h (record { link = x.there.link; to = x.there.context })) =
      ap (λ (rows : List LinkRow). slice_get rows l.0) of.links_are ∙ at_map (row_of t.main h) (links t.main (placed_of t.main h)) l.0 ∙ ap (option_map (row_of t.main h)) l.1 in
      rw (← of.tables) (site_below f valid l.0 n (ap (option_and_then (λ (r : LinkRow). r.site)) row ∙ x.site ∙ its))

  -- a sum over what isn't there
  nothing_passes : (test : ℕ → Bool) (m : Measure) → ((a : ℕ) → a < length (activations h) → test a ≡ true → ⊥) → 0 ≡ sum_where test m h
  nothing_passes test m none = sym (sum-agree t test (λ a. false) m h is (λ a below. not_so a (none a below)) ∙ sum_none (λ a. false) m h (λ a. refl))
    where
      not_so : (a : ℕ) → (test a ≡ true → ⊥) → test a ≡ false
      not_so a not = elim (cases_Bool (test a)) [ inl holds ↦ absurd (not holds) | inr fails ↦ fails ]

  -- ---- own counts

  module _ (v : View) (seen : IsRunView s t.main h finished v) (free : has_full_link f ≡ false) where
    few : (m : Measure) (j : ℕ) (l : Leading) → slice_get (links t.main (placed_of t.main h)) j ≡ Some l → link_sum t.main h l.link m < 4294967295
    few m j l at =
        let row : slice_get f.links j ≡ Some (row_of t.main h l) =
        ap (λ (rows : List LinkRow). slice_get rows j) of.links_are ∙ at_map (row_of t.main h) (links t.main (placed_of t.main h)) j ∙ ap (option_map (row_of t.main h)) at in
        let less = (are_less (row_of t.main h l).own (none_passes (λ (r : LinkRow). has_full_count r.own) f.links j (row_of t.main h l) free row)).less m in
        below (link_sum t.main h l.link m) (sym (ap (λ (n : ℕ). eqb n 4294967295) (by_measure (λ k. capped (link_sum t.main h l.link k)) m)) ∙ less)
      where
        below : (n : ℕ) → eqb (capped n) 4294967295 ≡ false → n < 4294967295
        below n less = elim (eqb_tells (capped n) 4294967295) [
          | inl full ↦ absurd (false≢true (sym less ∙ full.0))
          | inr not ↦ omega (arith, not.1)
        ]

    own_plain : (row : Row) (test : Placed → Bool) (plain : ℕ → Bool) (m : Measure) → v.own row m ≡ Some (own t.main h test m) → ((a : ℕ) → a < length (activations h) → passing (placed_of t.main h) test a ≡ plain a)
        → count_of (v.own row m) ≡ sum_where plain m h
    own_plain row test plain m own_is same =
        ap count_of own_is ∙ plain_count t h is (passing (placed_of t.main h) test) m (few m) ∙ sum-agree t (passing (placed_of t.main h) test) plain m h is same

    -- one count of the view, where the profile has a place for what is counted
    placed_count : (k n : ℕ) (o : Option ℕ) (plain : ℕ → Bool) (m : Measure) → count_of o ≡ sum_where plain m h → ((a : ℕ) → a < length (activations h) → plain a ≡ true → k < n) → cond (nat_lt k n) (count_of o) 0 ≡ sum_where plain m h
    placed_count k n o plain m same there = elim (cases_Bool (nat_lt k n)) [
      | inl below ↦ rw below same
      | inr past ↦ rw past (nothing_passes plain m (λ a under holds. absurd (let lt = there a under holds in let ge = ltb-false k n past in omega (arith, lt, ge))))
    ]

    by_procedure : (q : ℕ) (m : Measure) → cond (nat_lt q (length v.statics.procs)) (count_of (v.own (OfProcedure q) m)) 0 ≡ sum_where (is_of_procedure (activations h) q) m h
    by_procedure q m =
        placed_count q (length v.statics.procs) (v.own (OfProcedure q) m) (is_of_procedure (activations h) q) m
        (own_plain (OfProcedure q) (in_procedure q) (is_of_procedure (activations h) q) m (ap (λ (w : View). w.own (OfProcedure q) m) seen.is) (same_procedure q))
        (λ a below holds. rw (ap (λ (w : View). w.statics) seen.is) (procedure_below q a below holds))

    by_site : (x : ℕ) (m : Measure) → cond (nat_lt x (length v.statics.sites)) (count_of (v.own (OfSite x) m)) 0 ≡ sum_where (is_called_at (activations h) x) m h
    by_site x m =
        placed_count x (length v.statics.sites) (v.own (OfSite x) m) (is_called_at (activations h) x) m
        (own_plain (OfSite x) (at_site x) (is_called_at (activations h) x) m (ap (λ (w : View). w.own (OfSite x) m) seen.is) (same_site x))
        (λ a below holds. rw (ap (λ (w : View). w.statics) seen.is) (called_site_below x a below holds))

    pub has_counts : HasCountsOf h v
    has_counts = record {
      procedure_calls = λ q. by_procedure q Calls;
      procedure_exits = λ q. by_procedure q Exits;
      site_calls = λ x. by_site x Calls;
      site_exits = λ x. by_site x Exits;
    }

-- whether or not the run is finished
pub counts_told : (t : SiteTable) (s : Static) (program : Hlds) (budget : ℕ) (f : ProfileRows) → IsPortHistory t (history (run program budget)) → IsProfileOf s t.main (history (run program budget)) (is_finished (run program budget)) f
    → IsValid f → has_full_link f ≡ false → (v : View) → IsFileView f v → HasCountsOf (history (run program budget)) v
counts_told t s program budget f is of valid free v seen =
    has_counts t s (history (run program budget)) (is_finished (run program budget)) f is of valid v (run_view_of t s (history (run program budget)) (is_finished (run program budget)) f v is of valid seen) free

pub profile_is_counted : (t : SiteTable) (s : Static) (program : Hlds) (budget : ℕ) (f : ProfileRows) → IsPortHistory t (history (run program budget)) → IsProfileOf s t.main (history (run program budget)) (is_finished (run program budget)) f
    → IsValid f → budget < 2 ^ 32 → IsCountedIn program budget f
profile_is_counted t s program budget f is of valid small = record {
  small = small;
  finished = sym of.finished_is;
  counts = λ ended. counts_told t s program budget f is of valid;
}
