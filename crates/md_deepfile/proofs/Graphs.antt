-- What is kept beside contexts and links stays right as they grow.
use Rattle.std.proofs.Common.{◌≡◌, ℕ, suc, ◌+◌, ◌-◌, ◌<◌, ◌≤◌, Bool, true, false, cond, not, ◌&&◌, ◌||◌, ◌==◌, nat_lt, List, [], ◌∷◌, ◌++◌, length, get_or, set, Option, None, Some, IfSome, refl, sym, ap, subst, ◌∙◌, arith, inl, inr}
use Rattle.std.specs.Prelude.{slice_get}
use Rattle.std.specs.List.{All, list_any}
use Rattle.std.proofs.lemmas.Bool.{cases_lt, cases_eq, eq-eqb, ne_eqb, cond-true, cond-false, lt-ltb, le-ltb, and_left}
use Rattle.std.proofs.lemmas.List.{length-append, length-set, get_or_append_left, get_or_at, get_or-set_same, get_or-set_other}
use Rattle.std.proofs.lemmas.List.Elements.{All-push, All-nil, All-weaker, All-head, All-tail}
use Rattle.std.proofs.lemmas.List.Folds.{list_any-append, list_any_none}
use Rattle.std.proofs.lemmas.Option.{slice_get-get_or, get_or_from_slice_get, same_Some}
use Rattle.md_base.specs.declared.measure.Counts.{Counts}
use Rattle.md_dynamic.specs.declared.link.LinkRow.{LinkRow}
use Rattle.md_dynamic.specs.Valid.{is_below, leads_down}
use Rattle.md_deepfile.specs.Rules.{is_number, has_key, has_any_key, orphan_from}
use Rattle.md_deepfile.specs.Sets.{GraphRows, is_key, Seating, has_seated, AreGraph}

abbrev IsLed : ℕ → LinkRow → Type 0
IsLed n l = IfSome l.caller (λ v. l.callee < n)

or_nothing : (b : Bool) → (b || false) ≡ b
or_nothing true = refl
or_nothing false = refl

-- which callers, sites and procedures links have
abbrev pub KeysOf : Type 0
KeysOf = ℕ → ℕ → ℕ → Bool

pub empty_graph : (keys : KeysOf) → ((v s q : ℕ) → keys v s q ≡ false) → AreGraph [] [] keys []
empty_graph keys none = record { lead = All-nil (IsLed 0); keyed = none; each = refl; marked = λ u below. absurd (omega (arith, below)) }

-- where there is no link, none has a key
pub no_keys : (nodes : List ℕ) (links : List LinkRow) (keys : KeysOf) (reached : List Bool) → AreGraph nodes links keys reached → length links ≡ 0 → (v s q : ℕ) → keys v s q ≡ false
no_keys nodes links keys reached graph none v s q = graph.keyed v s q ∙ ap (list_any (has_key nodes v s q)) (length-zero links none)
  where
    length-zero : (ls : List LinkRow) → length ls ≡ 0 → ls ≡ []
    length-zero [] e = refl
    length-zero (l ∷ ls) e = absurd (omega (arith, e))

-- and none has one where seats were made
pub still_no_keys : (nodes : List ℕ) (links : List LinkRow) (keys now : KeysOf) (reached : List Bool) → AreGraph nodes links keys reached → length links ≡ 0 → ((v s q : ℕ) → now v s q ≡ false) → AreGraph nodes links now reached
still_no_keys nodes links keys now reached graph none empty =
    record { lead = graph.lead; keyed = λ v s q. empty v s q ∙ sym (no_keys nodes links keys reached graph none v s q) ∙ graph.keyed v s q; each = graph.each; marked = graph.marked }

led_more : (n : ℕ) (o : Option ℕ) (w : ℕ) → IfSome o (λ v. w < n) → IfSome o (λ v. w < n + 1)
led_more n None w h = tt
led_more n (Some v) w h = omega (arith, h)

get_front : {X : Type 0} (xs : List X) (x : X) (k : ℕ) → k < length xs → slice_get (xs ++ x ∷ []) k ≡ slice_get xs k
get_front {X} xs x k below =
    slice_get-get_or (xs ++ x ∷ []) k x (omega (arith, length-append xs (x ∷ []))) ∙ ap (λ (y : X). Some y) (get_or_append_left xs (x ∷ []) x k below) ∙ sym (slice_get-get_or xs k x below)

get_last : {X : Type 0} (xs : List X) (x : X) → slice_get (xs ++ x ∷ []) (length xs) ≡ Some x
get_last {X} xs x =
    slice_get-get_or (xs ++ x ∷ []) (length xs) x (omega (arith, length-append xs (x ∷ []))) ∙ ap (λ (y : X). Some y) (get_or_at xs x [] x (length xs) refl)

-- one context more changes no key of a link
same_key : (nodes : List ℕ) (p v s q : ℕ) (l : LinkRow) (caller : Option ℕ) → l.caller ≡ caller → IfSome caller (λ a. l.callee < length nodes) → has_key (nodes ++ p ∷ []) v s q l ≡ has_key nodes v s q l
same_key nodes p v s q l None is led =
    ap (λ (o : Option ℕ). (is_number o v && is_number l.site s) && is_number (slice_get (nodes ++ p ∷ []) l.callee) q) is
    ∙ sym (ap (λ (o : Option ℕ). (is_number o v && is_number l.site s) && is_number (slice_get nodes l.callee) q) is)
same_key nodes p v s q l (Some a) is led = ap (λ (o : Option ℕ). (is_number l.caller v && is_number l.site s) && is_number o q) (get_front nodes p l.callee led)

same_keys : (nodes : List ℕ) (p v s q : ℕ) (links : List LinkRow) → All (IsLed (length nodes)) links → list_any (has_key (nodes ++ p ∷ []) v s q) links ≡ list_any (has_key nodes v s q) links
same_keys nodes p v s q [] led = refl
same_keys nodes p v s q (l ∷ links) led =
    ap (λ (b : Bool). b || list_any (has_key (nodes ++ p ∷ []) v s q) links) (same_key nodes p v s q l l.caller refl (All-head (IsLed (length nodes)) l links led))
    ∙ ap (λ (b : Bool). has_key nodes v s q l || b) (same_keys nodes p v s q links (All-tail (IsLed (length nodes)) l links led))

-- no link leads to a context that isn't there yet
not_led : (n : ℕ) (l : LinkRow) (caller : Option ℕ) → l.caller ≡ caller → IfSome caller (λ a. l.callee < n) → leads_down n l ≡ false
not_led n l None is led = ap (λ (o : Option ℕ). (l.callee == n) && is_below o n) is ∙ no_right (l.callee == n)
  where
    no_right : (b : Bool) → (b && false) ≡ false
    no_right true = refl
    no_right false = refl
not_led n l (Some a) is led = and_left (l.callee == n) (is_below l.caller n) (ne_eqb l.callee n (λ same. absurd (omega (arith, led, same))))

pub context_added : (nodes : List ℕ) (links : List LinkRow) (keys : KeysOf) (reached more : List Bool) (all : List ℕ) (p : ℕ) → AreGraph nodes links keys reached → all ≡ nodes ++ p ∷ [] → more ≡ reached ++ false ∷ []
    → AreGraph all links keys more
context_added nodes links keys reached more all p old nodes_are marks_are =
    let size : length (nodes ++ p ∷ []) ≡ length nodes + 1 = length-append nodes (p ∷ []) in
    let lead : All (IsLed (length nodes + 1)) links = All-weaker (IsLed (length nodes)) (IsLed (length nodes + 1)) (λ l led. led_more (length nodes) l.caller l.callee led) links old.lead in
    let now : AreGraph (nodes ++ p ∷ []) links keys (reached ++ false ∷ []) = record {
      lead = subst (λ (n : ℕ). All (IsLed n) links) (sym size) lead;
      keyed = λ v s q. old.keyed v s q ∙ sym (same_keys nodes p v s q links old.lead);
      each = omega (arith, length-append reached (false ∷ []), size, old.each);
      marked = λ u below. elim (cases_lt u (length nodes)) [
        | inl before ↦ get_front reached false u (omega (arith, before, old.each)) ∙ old.marked u before
        | inr last ↦
            let e : u ≡ length nodes = omega (arith, last, below, size) in
            let at : slice_get (reached ++ false ∷ []) u ≡ Some false = ap (λ (k : ℕ). slice_get (reached ++ false ∷ []) k) (e ∙ sym old.each) ∙ get_last reached false in
            let none : list_any (leads_down u) links ≡ false = ap (λ (k : ℕ). list_any (leads_down k) links) e ∙ list_any_none (leads_down (length nodes)) links (λ k d within. not_led (length nodes) (get_or links k d) (get_or links k d).caller refl (old.lead k d within)) in
            at ∙ ap (λ (b : Bool). Some b) (sym none)
      ];
    } in
    let first : AreGraph (nodes ++ p ∷ []) links keys more = subst (λ (marks : List Bool). AreGraph (nodes ++ p ∷ []) links keys marks) (sym marks_are) now in
    subst (λ (ns : List ℕ). AreGraph ns links keys more) (sym nodes_are) first

nothing_led : (u : ℕ) (own : Counts) → leads_down u (record { caller = None; site = None; callee = 0; own = own }) ≡ false
nothing_led u own = no_right (0 == u)
  where
    no_right : (b : Bool) → (b && false) ≡ false
    no_right true = refl
    no_right false = refl

pub root_added : (nodes : List ℕ) (links all : List LinkRow) (keys : KeysOf) (reached : List Bool) (own : Counts) → AreGraph nodes links keys reached → all ≡ links ++ record { caller = None; site = None; callee = 0; own = own } ∷ []
    → AreGraph nodes all keys reached
root_added nodes links all keys reached own old are =
    let root : LinkRow = record { caller = None; site = None; callee = 0; own = own } in
    let now : AreGraph nodes (links ++ root ∷ []) keys reached = record {
      lead = All-push (IsLed (length nodes)) links root old.lead tt;
      keyed = λ v s q. old.keyed v s q ∙ sym (or_nothing (list_any (has_key nodes v s q) links)) ∙ sym (list_any-append (has_key nodes v s q) links (root ∷ []));
      each = old.each;
      marked = λ u below. old.marked u below ∙ ap (λ (b : Bool). Some b)
          (sym (list_any-append (leads_down u) links (root ∷ []) ∙ ap (λ (b : Bool). list_any (leads_down u) links || (b || false)) (nothing_led u own) ∙ or_nothing (list_any (leads_down u) links)));
    } in
    subst (λ (ls : List LinkRow). AreGraph nodes ls keys reached) (sym are) now

link_key_is : (nodes : List ℕ) (v s w q a b c : ℕ) (own : Counts) → slice_get nodes w ≡ Some q → is_key a b c (v, s, q) ≡ has_key nodes a b c (record { caller = Some v; site = Some s; callee = w; own = own })
link_key_is nodes v s w q a b c own at = ap (λ (o : Option ℕ). ((a == v) && (b == s)) && is_number o c) (sym at)

-- a mark is set where a link leads down
pub marked_as : ℕ → ℕ → List Bool → List Bool
marked_as v w reached = cond (nat_lt v w) (set reached w true) reached

or_is_true : (b : Bool) → (b || true) ≡ true
or_is_true true = refl
or_is_true false = refl

set_mark : (reached : List Bool) (w u : ℕ) (was : Bool) → u < length reached → w < length reached → slice_get reached u ≡ Some was → slice_get (set reached w true) u ≡ Some (was || (w == u))
set_mark reached w u was below there at = elim (cases_eq u w) [
  | inl same ↦
      slice_get-get_or (set reached w true) u false (omega (arith, length-set reached w true, below))
      ∙ ap (λ (k : ℕ). Some (get_or (set reached w true) k false)) same
      ∙ ap (λ (b : Bool). Some b) (get_or-set_same reached w true false there)
      ∙ ap (λ (b : Bool). Some b) (sym (or_is_true was) ∙ ap (λ (b : Bool). was || b) (sym (eq-eqb w u (sym same))))
  | inr other ↦
      slice_get-get_or (set reached w true) u false (omega (arith, length-set reached w true, below))
      ∙ ap (λ (b : Bool). Some b) (get_or-set_other reached w u true false other ∙ get_or_from_slice_get reached u was false at)
      ∙ ap (λ (b : Bool). Some b) (sym (or_nothing was) ∙ ap (λ (b : Bool). was || b) (sym (ne_eqb w u (λ same. other (sym same)))))
]

mark_at : (reached : List Bool) (v w u : ℕ) (was down : Bool) → u < length reached → w < length reached → nat_lt v w ≡ down → slice_get reached u ≡ Some was
    → slice_get (cond down (set reached w true) reached) u ≡ Some (was || ((w == u) && down))
mark_at reached v w u was true below there is at = set_mark reached w u was below there at ∙ ap (λ (b : Bool). Some (was || b)) (sym (and_true (w == u)))
  where
    and_true : (b : Bool) → (b && true) ≡ b
    and_true true = refl
    and_true false = refl
mark_at reached v w u was false below there is at = at ∙ ap (λ (b : Bool). Some b) (sym (or_nothing was)) ∙ ap (λ (b : Bool). Some (was || b)) (sym (and_false (w == u)))
  where
    and_false : (b : Bool) → (b && false) ≡ false
    and_false true = refl
    and_false false = refl

mark_size : (reached : List Bool) (w : ℕ) (down : Bool) → length (cond down (set reached w true) reached) ≡ length reached
mark_size reached w true = length-set reached w true
mark_size reached w false = refl

-- the callee decides whether a link leads down to it
below_same : (v w u : ℕ) → ((w == u) && nat_lt v w) ≡ ((w == u) && nat_lt v u)
below_same v w u = elim (cases_eq w u) [
  | inl same ↦ ap (λ (k : ℕ). (w == u) && nat_lt v k) same
  | inr other ↦ ap (λ (b : Bool). b && nat_lt v w) (ne_eqb w u other) ∙ sym (ap (λ (b : Bool). b && nat_lt v u) (ne_eqb w u other))
]

pub same_graph : (nodes : List ℕ) (links all : List LinkRow) (keys now : Seating) (reached : List Bool) → AreGraph nodes links (has_seated keys) reached → all ≡ links → now ≡ keys → AreGraph nodes all (has_seated now) reached
same_graph nodes links all keys now reached graph same is =
    subst (λ (ls : List LinkRow). AreGraph nodes ls (has_seated now) reached) (sym same) (subst (λ (ks : Seating). AreGraph nodes links (has_seated ks) reached) (sym is) graph)

pub link_added : (nodes : List ℕ) (links all : List LinkRow) (keys now : KeysOf) (reached marks : List Bool) (v s w q : ℕ) (own : Counts) → AreGraph nodes links keys reached → w < length nodes → slice_get nodes w ≡ Some q
    → all ≡ links ++ record { caller = Some v; site = Some s; callee = w; own = own } ∷ [] → ((a b c : ℕ) → now a b c ≡ (keys a b c || is_key a b c (v, s, q))) → marks ≡ marked_as v w reached → AreGraph nodes all now marks
unfolding marked_as
link_added nodes links all keys now reached marks v s w q own old there at all_are now_are marks_are =
    let l : LinkRow = record { caller = Some v; site = Some s; callee = w; own = own } in
    let down : Bool = nat_lt v w in
    let grown : AreGraph nodes (links ++ l ∷ []) now (marked_as v w reached) = record {
      lead = All-push (IsLed (length nodes)) links l old.lead there;
      keyed = λ a b c.
          now_are a b c
          ∙ ap (λ (t : Bool). t || is_key a b c (v, s, q)) (old.keyed a b c)
          ∙ ap (λ (t : Bool). list_any (has_key nodes a b c) links || t) (sym (or_nothing (is_key a b c (v, s, q))))
          ∙ ap (λ (t : Bool). list_any (has_key nodes a b c) links || (t || false)) (link_key_is nodes v s w q a b c own at)
          ∙ sym (list_any-append (has_key nodes a b c) links (l ∷ []));
      each = mark_size reached w down ∙ old.each;
      marked = λ u below.
          mark_at reached v w u (list_any (leads_down u) links) down (omega (arith, below, old.each)) (omega (arith, there, old.each)) refl (old.marked u below)
          ∙ ap (λ (t : Bool). Some (list_any (leads_down u) links || t)) (below_same v w u ∙ sym (or_nothing ((w == u) && nat_lt v u)))
          ∙ ap (λ (t : Bool). Some t) (sym (list_any-append (leads_down u) links (l ∷ [])));
    } in
    let one : AreGraph nodes (links ++ l ∷ []) now marks = subst (λ (m : List Bool). AreGraph nodes (links ++ l ∷ []) now m) (sym marks_are) grown in
    subst (λ (ls : List LinkRow). AreGraph nodes ls now marks) (sym all_are) one

-- the answer of the set of keys is whether no link has the key
pub fresh_is : (nodes : List ℕ) (links : List LinkRow) (keys : KeysOf) (reached : List Bool) (v s w q : ℕ) (fresh answer : Bool) (seen : GraphRows) → AreGraph nodes links keys reached → slice_get nodes w ≡ Some q
    → record { nodes = nodes; links = links } ≡ seen → fresh ≡ answer → fresh ≡ not (keys v s q) → answer ≡ not (has_any_key seen.nodes seen.links v s (slice_get seen.nodes w))
fresh_is nodes links keys reached v s w q fresh answer seen old at are is told =
    sym is ∙ told ∙ ap not (old.keyed v s q) ∙ sym (ap (λ (o : Option ℕ). not (has_any_key nodes links v s o)) at)
    ∙ ap (λ (g : GraphRows). not (has_any_key g.nodes g.links v s (slice_get g.nodes w))) are

pub marked_down : (v w : ℕ) (reached : List Bool) → v < w → set reached w true ≡ marked_as v w reached
unfolding marked_as
marked_down v w reached lt = sym (cond-true (nat_lt v w) (set reached w true) reached (lt-ltb v w lt))

pub not_marked : (v w : ℕ) (reached : List Bool) → w ≤ v → reached ≡ marked_as v w reached
unfolding marked_as
not_marked v w reached le = sym (cond-false (nat_lt v w) (set reached w true) reached (le-ltb v w le))

-- a context that is reached is no orphan
pub orphan_on : (nodes : List ℕ) (links : List LinkRow) (keys : KeysOf) (reached : List Bool) (v : ℕ) (mark : Bool) (seen : GraphRows) → AreGraph nodes links keys reached → record { nodes = nodes; links = links } ≡ seen → v < length reached → slice_get reached v ≡ Some mark → mark ≡ true
    → orphan_from seen.links v (length seen.nodes - v) ≡ orphan_from seen.links (v + 1) (length seen.nodes - (v + 1))
orphan_on nodes links keys reached v mark seen old are below at is =
    subst (λ (g : GraphRows). orphan_from g.links v (length g.nodes - v) ≡ orphan_from g.links (v + 1) (length g.nodes - (v + 1))) are
    (let within : v < length nodes = omega (arith, below, old.each) in
    let count : length nodes - v ≡ suc (length nodes - (v + 1)) = omega (arith, within) in
    let one : suc v ≡ v + 1 = omega arith in
    let reached_is : list_any (leads_down v) links ≡ true = same_Some _ _ (sym (old.marked v within) ∙ at) ∙ is in
    ap (orphan_from links v) count
    ∙ cond-true (list_any (leads_down v) links) (orphan_from links (suc v) (length nodes - (v + 1))) (Some v) reached_is
    ∙ ap (λ (u : ℕ). orphan_from links u (length nodes - (v + 1))) one)
