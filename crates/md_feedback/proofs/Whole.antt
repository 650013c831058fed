-- The pairs that the search finds are the candidates.
use Rattle.std.proofs.Common.{◌≡◌, ◌⊎◌, inl, inr, refl, ap, ◌∙◌, sym, subst, arith, ℕ, suc, ◌+◌, ◌^◌, ◌<◌, ◌≤◌, Bool, true, false, if◌then◌else◌, List, [], ◌∷◌, length, get_or, Option, None, Some, IfSome, slice_get, All, IsTrue}
use Rattle.std.proofs.Math.ListN.{get_or-eq_default}
use Rattle.std.proofs.lemmas.Bool.{cases_lt}
use Rattle.std.proofs.lemmas.List.{length-map}
use Rattle.std.proofs.lemmas.List.Elements.{All-nil, All-cons, All-head, All-tail}
use Rattle.std.proofs.lemmas.Option.{slice_get_within}
use Rattle.md_hlds.specs.declared.goal.PredName.{PredName}
use Rattle.md_hlds.specs.declared.types.Det.{Det}
use Rattle.md_hlds.specs.declared.types.Det.TheVariants as det
use Rattle.md_hlds.specs.HldsGoal.{HldsGoal, At, SimpleGoal, CallGoal, HoCallGoal, ConjGoal, DisjGoal, IfGoal, NotGoal, SomeGoal, goal_size, goals_within, Numbered, numbered_from}
use Rattle.md_hlds.specs.declared.program.Pred.{Pred}
use Rattle.md_hlds.specs.Hlds.{Hlds, Procedure, procedures_of, procedure_called, goals_before, clause_goals, goal_at}
use Rattle.md_names.specs.Named.{named_call, goal_name, name_at}
use Rattle.md_static.specs.Names.{is_name}
use Rattle.md_static.specs.Tables.{Static}
use Rattle.md_static.specs.Tables as static
use Rattle.md_trace.specs.PortHistory.{SiteTable}
use Rattle.law_events.specs.Table as events
use Rattle.law_events.specs.Table.{HasSites, program_sites, goal_sites, goals_sites}
use Rattle.md_cost.specs.View.{View}
use Rattle.md_feedback.specs.declared.pairs.Pair.{Pair}
use Rattle.md_feedback.specs.declared.pairs.Feedback.{Feedback}
use Rattle.md_feedback.specs.Text.{IsLeast, IsValidPair, AreValidPairs, IsValid}
use Rattle.md_feedback.specs.Candidates.{IsCostly, StandsIn, parts_of, IsCandidate, AreCandidates}
use Rattle.md_feedback.specs.Search.{HasSitesOf, Reading, reading, IsHeavy, TellsHeavy, AreHeavy, is_det, is_det_procedure, calls_det, call_at, costly_call, pair_of, program_pairs}
use Rattle.md_feedback.proofs.Members.{Member, to_contains, some_is}
use Rattle.md_feedback.proofs.Depending.{Led, IsLed, led_sound, led_complete}
use Rattle.md_feedback.proofs.Within.{InClause, clauses_sound, clauses_complete, length-within, before_next, goal_there, GoalOf, goal_in_clause}
use Rattle.md_feedback.proofs.Inside.{part_named, det_named}
use Rattle.md_feedback.proofs.Order.{IsWithin, Ordered, clauses_order, Below, numbered_below, goal_below, part_below, clause_below, call_below}

-- ---- costly calls

chosen_true : (v : Bool) (o : Option (ℕ × ℕ)) (b : ℕ × ℕ) → (if v then o else None) ≡ Some b → (v ≡ true) × (o ≡ Some b)
chosen_true true o b e = (refl, e)
chosen_true false o b e = absurd (cc)

choose_true : (v : Bool) (o : Option (ℕ × ℕ)) (b : ℕ × ℕ) → v ≡ true → o ≡ Some b → (if v then o else None) ≡ Some b
choose_true true o b e h = h
choose_true false o b e h = absurd (cc)

det_is : (d : Det) → is_det d ≡ true → d ≡ det.Det
det_is det.Det e = refl
det_is det.Semidet e = absurd (cc)
det_is det.Multi e = absurd (cc)
det_is det.Nondet e = absurd (cc)
det_is det.Failure e = absurd (cc)

det_found : (o : Option (ℕ × Procedure)) → is_det_procedure o ≡ true → (f : ℕ × Procedure) × (o ≡ Some f) × (f.1.det ≡ det.Det)
det_found None e = absurd (cc)
det_found (Some f) e = (f, refl, det_is f.1.det e)

found_det : (o : Option (ℕ × Procedure)) (f : ℕ × Procedure) → o ≡ Some f → f.1.det ≡ det.Det → is_det_procedure o ≡ true
found_det None f e d = absurd (cc)
found_det (Some g) f e d = ap (λ (x : ℕ × Procedure). is_det x.1.det) (some_is g f e) ∙ ap is_det d

call_of : (site : ℕ) (t : Option ℕ) (b : ℕ × ℕ) → call_at site t ≡ Some b → (total : ℕ) × (t ≡ Some total) × ((site, total) ≡ b)
call_of site None b e = absurd (cc)
call_of site (Some t) b e = (t, refl, some_is (site, t) b e)

told_inside : (heavy : List (Option ℕ)) (site total : ℕ) → get_or heavy site None ≡ Some total → (site < length heavy) ⊎ (length heavy ≤ site) → site < length heavy
told_inside heavy site total e (inl lt) = lt
told_inside heavy site total e (inr le) = let past : get_or heavy site None ≡ None = get_or-eq_default heavy None le in absurd (cc)

call_costs : (s : Hlds) (heavy : List (Option ℕ)) (v : View) (least count n l site : ℕ) (q : PredName) (ys : List ℕ) (b : ℕ × ℕ) → AreHeavy v least count heavy → name_at s n ≡ named_call s q
    → (if calls_det s n then call_at site (get_or heavy site None) else None) ≡ Some b → IsCostly s v least (At l (CallGoal site q ys)) b.0 b.1
call_costs s heavy v least count n l site q ys b are named e =
    let both = chosen_true (calls_det s n) (call_at site (get_or heavy site None)) b e in
    let found = det_found (procedure_called s q) (sym (det_named s n q named) ∙ both.0) in
    let told = call_of site (get_or heavy site None) b both.1 in
    let inside : site < length heavy = told_inside heavy site told.0 told.1 (cases_lt site (length heavy)) in
    let h : IsHeavy v least site told.0 = subst (λ (t : Option ℕ). TellsHeavy v least site t) told.1 (are.tells site (omega (arith, inside, are.each))) in
    subst (λ (x : ℕ × ℕ). IsCostly s v least (At l (CallGoal site q ys)) x.0 x.1) told.2
    (record {
      line = l;
      callee = q;
      arguments = ys;
      is = refl;
      called = found.0;
      is_called = found.1;
      is_det = found.2;
      own = h.own;
      is_own = h.is_own;
      is_total = h.is_total;
      some = h.some;
      many = h.many;
    })

never : (s : Hlds) (v : View) (least : ℕ) (p : HldsGoal) (b : ℕ × ℕ) → None ≡ Some b → IsCostly s v least p b.0 b.1
never s v least p b e = absurd (cc)

pub costly_is : (s : Hlds) (heavy : List (Option ℕ)) (o : ℕ) (v : View) (least count n : ℕ) (p : HldsGoal) (b : ℕ × ℕ) → AreHeavy v least count heavy → name_at s n ≡ goal_name s p
    → costly_call (reading s heavy o) n p ≡ Some b
    → IsCostly s v least p b.0 b.1
costly_is s heavy o v least count n (At l (SimpleGoal g)) b are named e = never s v least (At l (SimpleGoal g)) b e
costly_is s heavy o v least count n (At l (CallGoal site q ys)) b are named e = call_costs s heavy v least count n l site q ys b are named e
costly_is s heavy o v least count n (At l (HoCallGoal site f ys)) b are named e = never s v least (At l (HoCallGoal site f ys)) b e
costly_is s heavy o v least count n (At l (ConjGoal ps)) b are named e = never s v least (At l (ConjGoal ps)) b e
costly_is s heavy o v least count n (At l (DisjGoal ps)) b are named e = never s v least (At l (DisjGoal ps)) b e
costly_is s heavy o v least count n (At l (IfGoal p t f)) b are named e = never s v least (At l (IfGoal p t f)) b e
costly_is s heavy o v least count n (At l (NotGoal p)) b are named e = never s v least (At l (NotGoal p)) b e
costly_is s heavy o v least count n (At l (SomeGoal vs p)) b are named e = never s v least (At l (SomeGoal vs p)) b e

heavy_is : (v : View) (least site total : ℕ) (t : Option ℕ) → TellsHeavy v least site t → IsHeavy v least site total → t ≡ Some total
heavy_is v least site total None tells h = absurd (tells total h)
heavy_is v least site total (Some n) tells h = ap Some (some_is n total (sym tells.is_total ∙ h.is_total))

pub is_costly : (s : Hlds) (heavy : List (Option ℕ)) (o : ℕ) (v : View) (least count n : ℕ) (p : HldsGoal) (site total : ℕ) → AreHeavy v least count heavy → name_at s n ≡ goal_name s p → site < count → IsCostly s v least p site total
    → costly_call (reading s heavy o) n p ≡ Some (site, total)
is_costly s heavy o v least count n p site total are named lt k =
    let h : IsHeavy v least site total = record { own = k.own; is_own = k.is_own; is_total = k.is_total; some = k.some; many = k.many } in
    let told : get_or heavy site None ≡ Some total = heavy_is v least site total (get_or heavy site None) (are.tells site lt) h in
    let called : name_at s n ≡ named_call s k.callee = named ∙ ap (goal_name s) k.is in
    ap (costly_call (reading s heavy o) n) k.is
    ∙ choose_true (calls_det s n) (call_at site (get_or heavy site None)) (site, total) (det_named s n k.callee called ∙ found_det (procedure_called s k.callee) k.called k.is_called k.is_det)
    (ap (call_at site) told)

-- ---- the pairs are candidates

-- a pair of a conjunction in a clause, as the search finds it
pub record IsFound (s : Hlds) (heavy : List (Option ℕ)) (pair : Pair) : Type 0 where
  pub clause : InClause s heavy 0 0 s.procedures pair
  pub led : IsLed (reading s heavy (0 + clause.q)) (parts_of (0 + goals_before s.procedures clause.q + clause.found.m) clause.found.parts) 0 pair

pub is_found : (s : Hlds) (heavy : List (Option ℕ)) (pair : Pair) → Member pair (program_pairs s heavy) → IsFound s heavy pair
is_found s heavy pair m =
    let r : InClause s heavy 0 0 s.procedures pair = clauses_sound s heavy 0 0 s.procedures pair m in
    let parts : List Numbered = parts_of (0 + goals_before s.procedures r.q + r.found.m) r.found.parts in
    record { clause = r; led = led_sound (reading s heavy (0 + r.q)) parts [] parts 0 pair refl refl r.found.led }

zero_plus : (n : ℕ) → 0 + n ≡ n
zero_plus n = omega arith

pub candidate_of : (s : Hlds) (heavy : List (Option ℕ)) (v : View) (least count : ℕ) (pair : Pair) → AreHeavy v least count heavy → IsFound s heavy pair → IsCandidate s v least pair
candidate_of s heavy v least count pair are found =
    let r = found.clause in
    let f = r.found in
    let led = found.led in
    let number : ℕ = 0 + goals_before s.procedures r.q + f.m in
    let there : goals_before s.procedures r.q + f.m ≡ number = omega arith in
    let inside : f.m < goal_size r.p.body = omega (arith, slice_get_within (goals_within r.p.body) f.m (At f.line (ConjGoal f.parts)) f.at, length-within r.p.body) in
    let proc : pair.proc ≡ r.q = ap (λ (x : Pair). x.proc) led.is ∙ zero_plus r.q in
    let stands : StandsIn s r.q number = (omega arith, omega (arith, inside, before_next s.procedures r.q r.p r.at)) in
    let conjunction : goal_at s number ≡ Some (At f.line (ConjGoal f.parts))
    = subst (λ (n : ℕ). slice_get (clause_goals s.procedures) n ≡ Some (At f.line (ConjGoal f.parts))) there (goal_there s.procedures r.q f.m r.p (At f.line (ConjGoal f.parts)) r.at f.at) in
    record {
      number = number;
      line = f.line;
      parts = f.parts;
      conjunction = conjunction;
      clause = subst (λ (q : ℕ). StandsIn s q number) (sym proc) stands;
      i = led.i;
      j = led.j;
      order = led.order;
      g = led.g;
      h = led.h;
      is_first = led.at_i;
      is_second = led.at_j;
      first_costs = subst (λ (x : Pair). IsCostly s v least led.g.goal x.first x.a) (sym led.is)
          (costly_is s heavy (0 + r.q) v least count led.g.number led.g.goal led.a are (part_named s number f.line f.parts led.i led.g conjunction led.at_i) led.first_costs);
      second_costs = subst (λ (x : Pair). IsCostly s v least led.h.goal x.second x.b) (sym led.is)
          (costly_is s heavy (0 + r.q) v least count led.h.number led.h.goal led.b are (part_named s number f.line f.parts led.j led.h conjunction led.at_j) led.second_costs);
      apart = led.apart;
    }

pair_with_proc : (pair : Pair) (n : ℕ) → pair.proc ≡ n → pair ≡ pair_of n (pair.first, pair.a) (pair.second, pair.b)
pair_with_proc pair n e = ap (λ m. pair_of m (pair.first, pair.a) (pair.second, pair.b)) e

site_inside : (s : Hlds) (v : View) (least o m : ℕ) (p : HldsGoal) (site total : ℕ) → Below m (goal_sites s o p) → IsCostly s v least p site total → site < m
site_inside s v least o m p site total all k =
    call_below s o m k.line site k.callee k.arguments (subst (λ (x : HldsGoal). Below m (goal_sites s o x)) k.is all)

pub member_of : (s : Hlds) (heavy : List (Option ℕ)) (v : View) (least count : ℕ) (pair : Pair) → HasSites s → count ≡ length (program_sites s) → AreHeavy v least count heavy → IsCandidate s v least pair
    → Member pair (program_pairs s heavy)
member_of s heavy v least count pair has each are k =
    let o : ℕ = 0 + pair.proc in
    let c : Reading = reading s heavy o in
    let goal : GoalOf s.procedures pair.proc k.number (At k.line (ConjGoal k.parts)) = goal_in_clause s.procedures pair.proc k.number (At k.line (ConjGoal k.parts)) k.clause.0 k.clause.1 k.conjunction in
    let below : Below count (program_sites s) = numbered_below 0 count (program_sites s) (omega (arith, each)) has in
    let sites : Below count (goals_sites s o k.parts)
    = goal_below s o count goal.p.body (clause_below s 0 count s.procedures below pair.proc goal.p goal.at) goal.m (At k.line (ConjGoal k.parts)) goal.here in
    let parts : List Numbered = parts_of k.number k.parts in
    let first : pair.first < count = site_inside s v least o count k.g.goal pair.first pair.a (part_below s o count (k.number + 1) k.parts sites k.i k.g k.is_first) k.first_costs in
    let second : pair.second < count = site_inside s v least o count k.h.goal pair.second pair.b (part_below s o count (k.number + 1) k.parts sites k.j k.h k.is_second) k.second_costs in
    let led : IsLed c parts 0 pair = record {
      i = k.i;
      j = k.j;
      g = k.g;
      h = k.h;
      from_i = omega arith;
      order = k.order;
      at_i = k.is_first;
      at_j = k.is_second;
      a = (pair.first, pair.a);
      b = (pair.second, pair.b);
      first_costs = is_costly s heavy o v least count k.g.number k.g.goal pair.first pair.a are (part_named s k.number k.line k.parts k.i k.g k.conjunction k.is_first) first k.first_costs;
      second_costs = is_costly s heavy o v least count k.h.number k.h.goal pair.second pair.b are (part_named s k.number k.line k.parts k.j k.h k.conjunction k.is_second) second k.second_costs;
      is = pair_with_proc pair o (sym (zero_plus pair.proc));
      apart = k.apart;
    } in
    let number : k.number + 1 ≡ 0 + goals_before s.procedures pair.proc + goal.m + 1 = omega (arith, goal.is) in
    clauses_complete s heavy 0 0 s.procedures pair (record {
      q = pair.proc;
      p = goal.p;
      at = goal.at;
      found = record {
        m = goal.m;
        line = k.line;
        parts = k.parts;
        at = goal.here;
        led = subst (λ (n : ℕ). Led c (numbered_from n k.parts) pair) number (led_complete c parts [] parts 0 pair refl refl led);
      };
    })

-- ---- all together

each_found : (s : Hlds) (heavy : List (Option ℕ)) (P : Pair → Type 0) → ((pair : Pair) → IsFound s heavy pair → P pair) → (ps : List Pair) → ((pair : Pair) → Member pair ps → Member pair (program_pairs s heavy)) → All P ps
each_found s heavy P holds [] all = All-nil P
each_found s heavy P holds (p ∷ ps) all = All-cons P p ps (holds p (is_found s heavy p (all p (inl refl)))) (each_found s heavy P holds ps (λ q m. all q (inr m)))

program_order : (s : Hlds) (heavy : List (Option ℕ)) → HasSites s → Ordered 0 (length (program_sites s)) (program_pairs s heavy)
program_order s heavy has = clauses_order s heavy 0 0 (length (program_sites s)) 0 s.procedures (omega arith) has

pub are_candidates : (s : Hlds) (heavy : List (Option ℕ)) (v : View) (least : ℕ) (tables : Static) → HasSitesOf s tables → AreHeavy v least (length tables.sites) heavy → AreCandidates s v least (program_pairs s heavy)
are_candidates s heavy v least tables has are = record {
  each = each_found s heavy (IsCandidate s v least) (λ pair found. candidate_of s heavy v least (length tables.sites) pair are found) (program_pairs s heavy) (λ q m. m);
  all = λ pair k. to_contains pair (program_pairs s heavy) (member_of s heavy v least (length tables.sites) pair has.named has.each are k);
  rise = (program_order s heavy has.named).rise;
}

-- ---- and valid

small_total : (heavy : List (Option ℕ)) (site total : ℕ) → All (λ t. IfSome t (λ n. n < 2 ^ 64)) heavy → get_or heavy site None ≡ Some total → total < 2 ^ 64
small_total heavy site total small e =
    subst (λ (t : Option ℕ). IfSome t (λ n. n < 2 ^ 64)) e (small site None (told_inside heavy site total e (cases_lt site (length heavy))))

costly_small : (s : Hlds) (heavy : List (Option ℕ)) (o n : ℕ) (p : HldsGoal) (b : ℕ × ℕ) → All (λ t. IfSome t (λ n. n < 2 ^ 64)) heavy → costly_call (reading s heavy o) n p ≡ Some b → b.1 < 2 ^ 64
costly_small s heavy o n (At l (SimpleGoal g)) b small e = absurd (cc)
costly_small s heavy o n (At l (CallGoal site q ys)) b small e =
    let both = chosen_true (calls_det s n) (call_at site (get_or heavy site None)) b e in
    let told = call_of site (get_or heavy site None) b both.1 in
    subst (λ (x : ℕ × ℕ). x.1 < 2 ^ 64) told.2 (small_total heavy site told.0 small told.1)
costly_small s heavy o n (At l (HoCallGoal site f ys)) b small e = absurd (cc)
costly_small s heavy o n (At l (ConjGoal ps)) b small e = absurd (cc)
costly_small s heavy o n (At l (DisjGoal ps)) b small e = absurd (cc)
costly_small s heavy o n (At l (IfGoal p t f)) b small e = absurd (cc)
costly_small s heavy o n (At l (NotGoal p)) b small e = absurd (cc)
costly_small s heavy o n (At l (SomeGoal vs p)) b small e = absurd (cc)

valid_pair : (s : Hlds) (heavy : List (Option ℕ)) (count : ℕ) (pair : Pair) → length s.procedures < 2 ^ 32 → count < 2 ^ 32 → All (λ t. IfSome t (λ n. n < 2 ^ 64)) heavy → IsFound s heavy pair → IsWithin 0 count pair
    → IsValidPair pair
valid_pair s heavy count pair procs sites small found w =
    let r = found.clause in
    let led = found.led in
    let proc : pair.proc ≡ r.q = ap (λ (x : Pair). x.proc) led.is ∙ zero_plus r.q in
    let there : r.q < length s.procedures = slice_get_within s.procedures r.q r.p r.at in
    record {
      proc = omega (arith, proc, there, procs);
      first = omega (arith, w.order, w.high, sites);
      second = omega (arith, w.high, sites);
      a = subst (λ (x : Pair). x.a < 2 ^ 64) (sym led.is) (costly_small s heavy (0 + r.q) led.g.number led.g.goal led.a small led.first_costs);
      b = subst (λ (x : Pair). x.b < 2 ^ 64) (sym led.is) (costly_small s heavy (0 + r.q) led.h.number led.h.goal led.b small led.second_costs);
      order = w.order;
    }

both_found : (s : Hlds) (heavy : List (Option ℕ)) (P Q : Pair → Type 0) → ((pair : Pair) → IsFound s heavy pair → Q pair → P pair) → (ps : List Pair) → ((pair : Pair) → Member pair ps → Member pair (program_pairs s heavy))
    → All Q ps → All P ps
both_found s heavy P Q holds [] all qs = All-nil P
both_found s heavy P Q holds (p ∷ ps) all qs =
    All-cons P p ps (holds p (is_found s heavy p (all p (inl refl))) (All-head Q p ps qs)) (both_found s heavy P Q holds ps (λ q m. all q (inr m)) (All-tail Q p ps qs))

pub are_valid : (s : Hlds) (heavy : List (Option ℕ)) (tables : Static) → HasSitesOf s tables → length s.procedures < 2 ^ 32 → length tables.sites < 2 ^ 32 → All (λ t. IfSome t (λ n. n < 2 ^ 64)) heavy
    → AreValidPairs (program_pairs s heavy)
are_valid s heavy tables has procs sites small =
    let order : Ordered 0 (length (program_sites s)) (program_pairs s heavy) = program_order s heavy has.named in
    record {
      each = both_found s heavy IsValidPair (IsWithin 0 (length (program_sites s)))
          (λ pair found w. valid_pair s heavy (length (program_sites s)) pair procs (omega (arith, sites, has.each)) small found w) (program_pairs s heavy) (λ q m. m) order.within;
      rise = order.rise;
    }

pub feedback_valid : (f : Feedback) (s : Hlds) (heavy : List (Option ℕ)) → IsLeast f.least → f.pairs ≡ program_pairs s heavy → AreValidPairs (program_pairs s heavy) → IsTrue (is_name f.module) → IsValid f
feedback_valid f s heavy least is valid name = record { least = least; name = name; pairs = subst AreValidPairs (sym is) valid }

pub length-procedures : (ps : List Pred) → length (procedures_of ps) ≡ length ps
length-procedures [] = refl
length-procedures (p ∷ ps) = ap suc (length-procedures ps)

-- as many sites as the site table has
pub sites_of_table : (s : Hlds) (tables : Static) (main : ℕ) → HasSites s → static.site_table tables main ≡ events.site_table s → HasSitesOf s tables
sites_of_table s tables main has same = record {
  named = has;
  each = sym (length-map tables.sites static.call_site) ∙ (ap (λ (t : SiteTable). length t.sites) same ∙ length-map (program_sites s) events.site_alone);
}
