-- Which parts of a conjunction depend on a call, and its partners among them.
use Rattle.std.proofs.Common.{◌≡◌, ◌⊎◌, inl, inr, refl, ap, ◌∙◌, sym, subst, arith, ℕ, suc, ◌<◌, ◌≤◌, Bool, true, false, ◌||◌, if◌then◌else◌, List, [], ◌∷◌, ◌++◌, append_assoc, length, length-append, Option, None, Some, slice_get}
use Rattle.std.proofs.lemmas.Bool.{cases_lt}
use Rattle.md_hlds.specs.HldsGoal.{Numbered}
use Rattle.md_hlds.specs.Hlds.{Hlds}
use Rattle.md_modes.specs.Classes.{binds_at}
use Rattle.md_modes.specs.Goals.{variables}
use Rattle.md_modes.specs.Notes.{program_notes}
use Rattle.md_feedback.specs.declared.pairs.Pair.{Pair}
use Rattle.md_feedback.specs.Candidates.{Takes, Depends, Directly, Through}
use Rattle.md_feedback.specs.Search.{Reading, costly_call, binds_in, mentions, is_among, pair_of, pair_with, partners, led_by}
use Rattle.md_feedback.proofs.Members.{Member, member_left, member_right, member_split, to_contains, from_contains, among_member, member_among, some_found, some_true, or_true, or_left, or_right, get_seam, no_more, some_is}
use Rattle.md_feedback.proofs.Parts.{among-append}

-- a part is the call itself, or depends on it
abbrev pub Reaches : Hlds → List Numbered → (i l : ℕ) → Type 0
Reaches s parts i l = (l ≡ i) ⊎ Depends s parts i l

-- the last step of a dependence
pub record LastStep (s : Hlds) (parts : List Numbered) (i j : ℕ) : Type 0 where
  pub l : ℕ
  pub g : Numbered
  pub h : Numbered
  pub reaches : Reaches s parts i l
  pub below : l < j
  pub at_l : slice_get parts l ≡ Some g
  pub at_j : slice_get parts j ≡ Some h
  pub takes : Takes s g h

reach_on : (s : Hlds) (parts : List Numbered) (i l k : ℕ) → Depends s parts i l → Reaches s parts l k → Reaches s parts i k
reach_on s parts i l k d (inl e) = inr (subst (λ (n : ℕ). Depends s parts i n) (sym e) d)
reach_on s parts i l k d (inr d2) = inr (Through d d2)

pub last_step : (s : Hlds) (parts : List Numbered) (i j : ℕ) → Depends s parts i j → LastStep s parts i j
last_step s parts i j (Directly g h lt at_i at_j takes) = record { l = i; g = g; h = h; reaches = inl refl; below = lt; at_l = at_i; at_j = at_j; takes = takes }
last_step s parts i j (Through {l = l} d e) =
    let step : LastStep s parts l j = last_step s parts l j e in
    record { l = step.l; g = step.g; h = step.h; reaches = reach_on s parts i l step.l d step.reaches; below = step.below; at_l = step.at_l; at_j = step.at_j; takes = step.takes }

pub depends_below : (s : Hlds) (parts : List Numbered) (i j : ℕ) → Depends s parts i j → i < j
depends_below s parts i j (Directly g h lt at_i at_j takes) = lt
depends_below s parts i j (Through {l = l} d e) = omega (arith, depends_below s parts i l d, depends_below s parts l j e)

-- a variable is bound by a part before place k that is the call, or depends on it
pub record Source (s : Hlds) (parts : List Numbered) (i k x : ℕ) : Type 0 where
  pub l : ℕ
  pub g : Numbered
  pub below : l < k
  pub reaches : Reaches s parts i l
  pub at_l : slice_get parts l ≡ Some g
  pub binds : Member x (binds_at (program_notes s) g.number)

-- the variables with a source
pub record Tainted (s : Hlds) (parts : List Numbered) (i k : ℕ) (bound : List ℕ) : Type 0 where
  pub source : (x : ℕ) → is_among bound x ≡ true → Source s parts i k x
  pub among : (x : ℕ) → Source s parts i k x → is_among bound x ≡ true

-- a part in which one of them occurs depends on the call
pub mention_depends : (s : Hlds) (parts : List Numbered) (i k : ℕ) (bound : List ℕ) (h : Numbered) → Tainted s parts i k bound → slice_get parts k ≡ Some h → mentions bound h.goal ≡ true
    → Depends s parts i k
mention_depends s parts i k bound h taint at_k yes' =
    let found : (x : ℕ) × Member x (variables h.goal) × (is_among bound x ≡ true) = some_found (is_among bound) (variables h.goal) yes' in
    let from' : Source s parts i k found.0 = taint.source found.0 found.2 in
    let takes : Takes s from'.g h = record { variable = found.0; bound = to_contains found.0 (binds_at (program_notes s) from'.g.number) from'.binds; occurs = to_contains found.0 (variables h.goal) found.1 } in
    let step : Depends s parts from'.l k = Directly from'.g h from'.below from'.at_l at_k takes in
    elim from'.reaches [ inl e ↦ subst (λ (n : ℕ). Depends s parts n k) e step | inr d ↦ Through d step ]

-- and no other
pub depends_mention : (s : Hlds) (parts : List Numbered) (i k : ℕ) (bound : List ℕ) (h : Numbered) → Tainted s parts i k bound → slice_get parts k ≡ Some h → Depends s parts i k
    → mentions bound h.goal ≡ true
depends_mention s parts i k bound h taint at_k d =
    let step : LastStep s parts i k = last_step s parts i k d in
    let same : step.h ≡ h = some_is step.h h (sym step.at_j ∙ at_k) in
    let x = step.takes.variable in
    let source : Source s parts i k x = record {
      l = step.l;
      g = step.g;
      below = step.below;
      reaches = step.reaches;
      at_l = step.at_l;
      binds = from_contains x (binds_at (program_notes s) step.g.number) step.takes.bound;
    } in
    let occurs : Member x (variables h.goal) = subst (λ (p : Numbered). Member x (variables p.goal)) same (from_contains x (variables step.h.goal) step.takes.occurs) in
    some_true (is_among bound) (variables h.goal) x occurs (taint.among x source)

later : (s : Hlds) (parts : List Numbered) (i k x : ℕ) → Source s parts i k x → Source s parts i (suc k) x
later s parts i k x f = record { l = f.l; g = f.g; below = omega (arith, f.below); reaches = f.reaches; at_l = f.at_l; binds = f.binds }

source_of : (s : Hlds) (parts : List Numbered) (i k : ℕ) (bound : List ℕ) (h : Numbered) → Tainted s parts i k bound → slice_get parts k ≡ Some h → Depends s parts i k → (x : ℕ)
    → (is_among bound x ≡ true) ⊎ (is_among (binds_at (program_notes s) h.number) x ≡ true) → Source s parts i (suc k) x
source_of s parts i k bound h taint at_k d x (inl old) = later s parts i k x (taint.source x old)
source_of s parts i k bound h taint at_k d x (inr new) =
    record { l = k; g = h; below = omega arith; reaches = inr d; at_l = at_k; binds = among_member x (binds_at (program_notes s) h.number) new }

among_of : (s : Hlds) (parts : List Numbered) (i k : ℕ) (bound : List ℕ) (h : Numbered) → Tainted s parts i k bound → slice_get parts k ≡ Some h → (x : ℕ) (f : Source s parts i (suc k) x)
    → (f.l < k) ⊎ (k ≤ f.l) → (is_among bound x || is_among (binds_at (program_notes s) h.number) x) ≡ true
among_of s parts i k bound h taint at_k x f (inl below) =
    or_left (is_among bound x) (is_among (binds_at (program_notes s) h.number) x)
    (taint.among x (record { l = f.l; g = f.g; below = below; reaches = f.reaches; at_l = f.at_l; binds = f.binds }))
among_of s parts i k bound h taint at_k x f (inr above) =
    let same : f.l ≡ k = omega (arith, above, f.below) in
    let goal : f.g ≡ h = some_is f.g h (sym f.at_l ∙ (ap (slice_get parts) same ∙ at_k)) in
    or_right (is_among bound x) (is_among (binds_at (program_notes s) h.number) x)
    (member_among x (binds_at (program_notes s) h.number) (subst (λ (p : Numbered). Member x (binds_at (program_notes s) p.number)) goal f.binds))

-- with what a part binds that depends on the call
pub taint_more : (s : Hlds) (parts : List Numbered) (i k : ℕ) (bound : List ℕ) (h : Numbered) → Tainted s parts i k bound → slice_get parts k ≡ Some h → Depends s parts i k
    → Tainted s parts i (suc k) (bound ++ binds_at (program_notes s) h.number)
taint_more s parts i k bound h taint at_k d = record {
  source = λ x yes'. source_of s parts i k bound h taint at_k d x
      (or_true (is_among bound x) (is_among (binds_at (program_notes s) h.number) x) (sym (among-append bound (binds_at (program_notes s) h.number) x) ∙ yes'));
  among = λ x f. among-append bound (binds_at (program_notes s) h.number) x ∙ among_of s parts i k bound h taint at_k x f (cases_lt f.l k);
}

source_before : (s : Hlds) (parts : List Numbered) (i k x : ℕ) → i < k → (Depends s parts i k → ⊥) → (f : Source s parts i (suc k) x) → (f.l < k) ⊎ (k ≤ f.l) → Source s parts i k x
source_before s parts i k x lt apart f (inl below) = record { l = f.l; g = f.g; below = below; reaches = f.reaches; at_l = f.at_l; binds = f.binds }
source_before s parts i k x lt apart f (inr above) =
    let same : f.l ≡ k = omega (arith, above, f.below) in
    elim f.reaches [ inl e ↦ absurd (omega (arith, e, same, lt)) | inr d ↦ absurd (apart (subst (λ (n : ℕ). Depends s parts i n) same d)) ]

-- a part that doesn't depend on the call adds none
pub taint_same : (s : Hlds) (parts : List Numbered) (i k : ℕ) (bound : List ℕ) → Tainted s parts i k bound → i < k → (Depends s parts i k → ⊥) → Tainted s parts i (suc k) bound
taint_same s parts i k bound taint lt apart = record {
  source = λ x yes'. later s parts i k x (taint.source x yes');
  among = λ x f. taint.among x (source_before s parts i k x lt apart f (cases_lt f.l k));
}

first_among : (s : Hlds) (parts : List Numbered) (i : ℕ) (g : Numbered) → slice_get parts i ≡ Some g → (x : ℕ) (f : Source s parts i (suc i) x) → is_among (binds_at (program_notes s) g.number) x ≡ true
first_among s parts i g at_i x f =
    let here : f.l ≡ i = elim f.reaches [ inl e ↦ e | inr d ↦ absurd (omega (arith, depends_below s parts i f.l d, f.below)) ] in
    let goal : f.g ≡ g = some_is f.g g (sym f.at_l ∙ (ap (slice_get parts) here ∙ at_i)) in
    member_among x (binds_at (program_notes s) g.number) (subst (λ (p : Numbered). Member x (binds_at (program_notes s) p.number)) goal f.binds)

-- at first they are those that the call binds
pub taint_first : (s : Hlds) (parts : List Numbered) (i : ℕ) (g : Numbered) → slice_get parts i ≡ Some g → Tainted s parts i (suc i) (binds_at (program_notes s) g.number)
taint_first s parts i g at_i = record {
  source = λ x yes'. record { l = i; g = g; below = omega arith; reaches = inl refl; at_l = at_i; binds = among_member x (binds_at (program_notes s) g.number) yes' };
  among = λ x f. first_among s parts i g at_i x f;
}

-- ---- the partners of a call

-- a pair of the call with a costly call from place k on that doesn't depend on it
pub record Partner (c : Reading) (a : ℕ × ℕ) (parts : List Numbered) (i k : ℕ) (pair : Pair) : Type 0 where
  pub j : ℕ
  pub h : Numbered
  pub from_k : k ≤ j
  pub at_j : slice_get parts j ≡ Some h
  pub b : ℕ × ℕ
  pub costs : costly_call c h.number h.goal ≡ Some b
  pub is : pair ≡ pair_of c.owner a b
  pub apart : Depends c.program parts i j → ⊥

here_pair : (owner : ℕ) (a : ℕ × ℕ) (o : Option (ℕ × ℕ)) (pair : Pair) → Member pair (pair_with owner a o) → (b : ℕ × ℕ) × (o ≡ Some b) × (pair ≡ pair_of owner a b)
here_pair owner a None pair m = absurd m
here_pair owner a (Some b) pair (inl e) = (b, refl, e)
here_pair owner a (Some b) pair (inr m) = absurd m

pair_here : (owner : ℕ) (a b : ℕ × ℕ) (o : Option (ℕ × ℕ)) → o ≡ Some b → Member (pair_of owner a b) (pair_with owner a o)
pair_here owner a b None e = absurd (cc)
pair_here owner a b (Some d) e = inl (ap (pair_of owner a) (sym (some_is d b e)))

seam : (pre : List Numbered) (g : Numbered) (suf parts : List Numbered) (k : ℕ) → parts ≡ pre ++ g ∷ suf → length pre ≡ k → slice_get parts k ≡ Some g
seam pre g suf parts k whole n = ap (λ (xs : List Numbered). slice_get xs k) whole ∙ (ap (slice_get (pre ++ g ∷ suf)) (sym n) ∙ get_seam pre g suf)

shift : (pre : List Numbered) (g : Numbered) (suf parts : List Numbered) → parts ≡ pre ++ g ∷ suf → parts ≡ (pre ++ g ∷ []) ++ suf
shift pre g suf parts whole = whole ∙ sym (append_assoc pre (g ∷ []) suf)

longer : (pre : List Numbered) (g : Numbered) (k : ℕ) → length pre ≡ k → length (pre ++ g ∷ []) ≡ suc k
longer pre g k n = omega (arith, n, length-append pre (g ∷ []))

partner_later : (c : Reading) (a : ℕ × ℕ) (parts : List Numbered) (i k : ℕ) (pair : Pair) → Partner c a parts i (suc k) pair → Partner c a parts i k pair
partner_later c a parts i k pair p = record { j = p.j; h = p.h; from_k = omega (arith, p.from_k); at_j = p.at_j; b = p.b; costs = p.costs; is = p.is; apart = p.apart }

partner_at : (c : Reading) (a : ℕ × ℕ) (parts : List Numbered) (i k : ℕ) (bound : List ℕ) (pre : List Numbered) (g : Numbered) (suf : List Numbered) (pair : Pair) → parts ≡ pre ++ g ∷ suf → length pre ≡ k → i < k
    → Tainted c.program parts i k bound → ((then' : List ℕ) → Tainted c.program parts i (suc k) then' → Member pair (partners c a then' suf) → Partner c a parts i (suc k) pair)
    → (found : Bool) → mentions bound g.goal ≡ found
    → Member pair (if found then partners c a (bound ++ binds_in c g.number) suf else pair_with c.owner a (costly_call c g.number g.goal) ++ partners c a bound suf) → Partner c a parts i k pair
partner_at c a parts i k bound pre g suf pair whole n lt taint again true e m =
    let at_k : slice_get parts k ≡ Some g = seam pre g suf parts k whole n in
    partner_later c a parts i k pair
    (again (bound ++ binds_in c g.number) (taint_more c.program parts i k bound g taint at_k (mention_depends c.program parts i k bound g taint at_k e)) m)
partner_at c a parts i k bound pre g suf pair whole n lt taint again false e m =
    let at_k : slice_get parts k ≡ Some g = seam pre g suf parts k whole n in
    let apart : Depends c.program parts i k → ⊥ = λ d. let t : mentions bound g.goal ≡ true = depends_mention c.program parts i k bound g taint at_k d in absurd (cc (t, e)) in
    elim (member_split pair (pair_with c.owner a (costly_call c g.number g.goal)) (partners c a bound suf) m) [
      | inl here ↦ (let p = here_pair c.owner a (costly_call c g.number g.goal) pair here in record { j = k; h = g; from_k = omega arith; at_j = at_k; b = p.0; costs = p.1; is = p.2; apart = apart })
      | inr rest ↦ partner_later c a parts i k pair (again bound (taint_same c.program parts i k bound taint lt apart) rest)
    ]

pub partners_sound : (c : Reading) (a : ℕ × ℕ) (parts : List Numbered) (i k : ℕ) (bound : List ℕ) (pre suf : List Numbered) (pair : Pair) → parts ≡ pre ++ suf → length pre ≡ k → i < k
    → Tainted c.program parts i k bound → Member pair (partners c a bound suf) → Partner c a parts i k pair
partners_sound c a parts i k bound pre [] pair whole n lt taint m = absurd m
partners_sound c a parts i k bound pre (g ∷ suf) pair whole n lt taint m =
    partner_at c a parts i k bound pre g suf pair whole n lt taint
    (λ then' more rest. partners_sound c a parts i (suc k) then' (pre ++ g ∷ []) suf pair (shift pre g suf parts whole) (longer pre g k n) (omega (arith, lt)) more rest)
    (mentions bound g.goal) refl m

member_here : (c : Reading) (a : ℕ × ℕ) (parts : List Numbered) (i k : ℕ) (bound : List ℕ) (pre : List Numbered) (g : Numbered) (suf : List Numbered) (pair : Pair) → parts ≡ pre ++ g ∷ suf → length pre ≡ k → i < k
    → Tainted c.program parts i k bound → ((then' : List ℕ) → Tainted c.program parts i (suc k) then' → Partner c a parts i (suc k) pair → Member pair (partners c a then' suf))
    → (p : Partner c a parts i k pair) → (found : Bool) → mentions bound g.goal ≡ found → (k < p.j) ⊎ (p.j ≤ k)
    → Member pair (if found then partners c a (bound ++ binds_in c g.number) suf else pair_with c.owner a (costly_call c g.number g.goal) ++ partners c a bound suf)
member_here c a parts i k bound pre g suf pair whole n lt taint again p true e (inl above) =
    let at_k : slice_get parts k ≡ Some g = seam pre g suf parts k whole n in
    again (bound ++ binds_in c g.number) (taint_more c.program parts i k bound g taint at_k (mention_depends c.program parts i k bound g taint at_k e))
    (record { j = p.j; h = p.h; from_k = omega (arith, above); at_j = p.at_j; b = p.b; costs = p.costs; is = p.is; apart = p.apart })
member_here c a parts i k bound pre g suf pair whole n lt taint again p true e (inr here) =
    let at_k : slice_get parts k ≡ Some g = seam pre g suf parts k whole n in
    let same : k ≡ p.j = omega (arith, here, p.from_k) in
    absurd (p.apart (subst (λ (m : ℕ). Depends c.program parts i m) same (mention_depends c.program parts i k bound g taint at_k e)))
member_here c a parts i k bound pre g suf pair whole n lt taint again p false e (inl above) =
    let at_k : slice_get parts k ≡ Some g = seam pre g suf parts k whole n in
    let apart : Depends c.program parts i k → ⊥ = λ d. let t : mentions bound g.goal ≡ true = depends_mention c.program parts i k bound g taint at_k d in absurd (cc (t, e)) in
    member_right pair (pair_with c.owner a (costly_call c g.number g.goal)) (partners c a bound suf)
    (again bound (taint_same c.program parts i k bound taint lt apart)
    (record { j = p.j; h = p.h; from_k = omega (arith, above); at_j = p.at_j; b = p.b; costs = p.costs; is = p.is; apart = p.apart }))
member_here c a parts i k bound pre g suf pair whole n lt taint again p false e (inr here) =
    let at_k : slice_get parts k ≡ Some g = seam pre g suf parts k whole n in
    let same : k ≡ p.j = omega (arith, here, p.from_k) in
    let goal : g ≡ p.h = some_is g p.h (sym at_k ∙ (ap (slice_get parts) same ∙ p.at_j)) in
    member_left pair (pair_with c.owner a (costly_call c g.number g.goal)) (partners c a bound suf)
    (subst (λ (q : Pair). Member q (pair_with c.owner a (costly_call c g.number g.goal))) (sym p.is)
    (pair_here c.owner a p.b (costly_call c g.number g.goal) (ap (λ (q : Numbered). costly_call c q.number q.goal) goal ∙ p.costs)))

pub partners_complete : (c : Reading) (a : ℕ × ℕ) (parts : List Numbered) (i k : ℕ) (bound : List ℕ) (pre suf : List Numbered) (pair : Pair) → parts ≡ pre ++ suf → length pre ≡ k → i < k
    → Tainted c.program parts i k bound → Partner c a parts i k pair → Member pair (partners c a bound suf)
partners_complete c a parts i k bound pre [] pair whole n lt taint p =
    absurd (no_more parts p.j p.h (omega (arith, p.from_k, n, ap length whole, length-append pre [])) p.at_j)
partners_complete c a parts i k bound pre (g ∷ suf) pair whole n lt taint p =
    member_here c a parts i k bound pre g suf pair whole n lt taint
    (λ then' more q. partners_complete c a parts i (suc k) then' (pre ++ g ∷ []) suf pair (shift pre g suf parts whole) (longer pre g k n) (omega (arith, lt)) more q)
    p (mentions bound g.goal) refl (cases_lt k p.j)

-- ---- the pairs of a conjunction

-- pairs whose first call is one of these parts
abbrev pub Led : Reading → List Numbered → Pair → Type 0
Led c [] pair = ⊥
Led c (g ∷ gs) pair = Member pair (led_by c (costly_call c g.number g.goal) (binds_in c g.number) gs) ⊎ Led c gs pair

-- two costly calls among these parts, the second behind the first and not depending on it
pub record IsLed (c : Reading) (parts : List Numbered) (from : ℕ) (pair : Pair) : Type 0 where
  pub i : ℕ
  pub j : ℕ
  pub g : Numbered
  pub h : Numbered
  pub from_i : from ≤ i
  pub order : i < j
  pub at_i : slice_get parts i ≡ Some g
  pub at_j : slice_get parts j ≡ Some h
  pub a : ℕ × ℕ
  pub b : ℕ × ℕ
  pub first_costs : costly_call c g.number g.goal ≡ Some a
  pub second_costs : costly_call c h.number h.goal ≡ Some b
  pub is : pair ≡ pair_of c.owner a b
  pub apart : Depends c.program parts i j → ⊥

led_at : (c : Reading) (o : Option (ℕ × ℕ)) (bound : List ℕ) (gs : List Numbered) (pair : Pair) → Member pair (led_by c o bound gs) → (a : ℕ × ℕ) × (o ≡ Some a) × Member pair (partners c a bound gs)
led_at c None bound gs pair m = absurd m
led_at c (Some a) bound gs pair m = (a, refl, m)

at_led : (c : Reading) (o : Option (ℕ × ℕ)) (a : ℕ × ℕ) (bound : List ℕ) (gs : List Numbered) (pair : Pair) → o ≡ Some a → Member pair (partners c a bound gs) → Member pair (led_by c o bound gs)
at_led c None a bound gs pair e m = absurd (cc)
at_led c (Some d) a bound gs pair e m = subst (λ (x : ℕ × ℕ). Member pair (partners c x bound gs)) (sym (some_is d a e)) m

pub led_sound : (c : Reading) (parts pre suf : List Numbered) (k : ℕ) (pair : Pair) → parts ≡ pre ++ suf → length pre ≡ k → Led c suf pair → IsLed c parts k pair
led_sound c parts pre [] k pair whole n m = absurd m
led_sound c parts pre (g ∷ suf) k pair whole n (inl m) =
    let at_k : slice_get parts k ≡ Some g = seam pre g suf parts k whole n in
    let first : (a : ℕ × ℕ) × (costly_call c g.number g.goal ≡ Some a) × Member pair (partners c a (binds_in c g.number) suf) = led_at c (costly_call c g.number g.goal) (binds_in c g.number) suf pair m in
    let p : Partner c first.0 parts k (suc k) pair
    = partners_sound c first.0 parts k (suc k) (binds_in c g.number) (pre ++ g ∷ []) suf pair (shift pre g suf parts whole) (longer pre g k n) (omega arith) (taint_first c.program parts k g at_k) first.2 in
    record { i = k; j = p.j; g = g; h = p.h; from_i = omega arith; order = omega (arith, p.from_k); at_i = at_k; at_j = p.at_j; a = first.0; b = p.b; first_costs = first.1; second_costs = p.costs; is = p.is; apart = p.apart }
led_sound c parts pre (g ∷ suf) k pair whole n (inr m) =
    let r : IsLed c parts (suc k) pair = led_sound c parts (pre ++ g ∷ []) suf (suc k) pair (shift pre g suf parts whole) (longer pre g k n) m in
    record { i = r.i; j = r.j; g = r.g; h = r.h; from_i = omega (arith, r.from_i); order = r.order; at_i = r.at_i; at_j = r.at_j; a = r.a; b = r.b; first_costs = r.first_costs; second_costs = r.second_costs; is = r.is; apart = r.apart }

led_here : (c : Reading) (parts pre : List Numbered) (g : Numbered) (suf : List Numbered) (k : ℕ) (pair : Pair) → parts ≡ pre ++ g ∷ suf → length pre ≡ k → (IsLed c parts (suc k) pair → Led c suf pair)
    → (r : IsLed c parts k pair) → (k < r.i) ⊎ (r.i ≤ k) → Member pair (led_by c (costly_call c g.number g.goal) (binds_in c g.number) suf) ⊎ Led c suf pair
led_here c parts pre g suf k pair whole n again r (inl above) =
    inr (again (record { i = r.i; j = r.j; g = r.g; h = r.h; from_i = omega (arith, above); order = r.order; at_i = r.at_i; at_j = r.at_j; a = r.a; b = r.b; first_costs = r.first_costs; second_costs = r.second_costs; is = r.is; apart = r.apart }))
led_here c parts pre g suf k pair whole n again r (inr here) =
    let at_k : slice_get parts k ≡ Some g = seam pre g suf parts k whole n in
    let same : r.i ≡ k = omega (arith, here, r.from_i) in
    let goal : g ≡ r.g = some_is g r.g (sym at_k ∙ (ap (slice_get parts) (sym same) ∙ r.at_i)) in
    inl (at_led c (costly_call c g.number g.goal) r.a (binds_in c g.number) suf pair (ap (λ (q : Numbered). costly_call c q.number q.goal) goal ∙ r.first_costs)
    (partners_complete c r.a parts k (suc k) (binds_in c g.number) (pre ++ g ∷ []) suf pair (shift pre g suf parts whole) (longer pre g k n) (omega arith) (taint_first c.program parts k g at_k)
    (record { j = r.j; h = r.h; from_k = omega (arith, r.order, same); at_j = r.at_j; b = r.b; costs = r.second_costs; is = r.is; apart = λ d. r.apart (subst (λ (m : ℕ). Depends c.program parts m r.j) (sym same) d) })))

pub led_complete : (c : Reading) (parts pre suf : List Numbered) (k : ℕ) (pair : Pair) → parts ≡ pre ++ suf → length pre ≡ k → IsLed c parts k pair → Led c suf pair
led_complete c parts pre [] k pair whole n r = no_more parts r.i r.g (omega (arith, r.from_i, n, ap length whole, length-append pre [])) r.at_i
led_complete c parts pre (g ∷ suf) k pair whole n r =
    led_here c parts pre g suf k pair whole n (λ more. led_complete c parts (pre ++ g ∷ []) suf (suc k) pair (shift pre g suf parts whole) (longer pre g k n) more) r (cases_lt k r.i)
