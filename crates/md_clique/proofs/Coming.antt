-- Each activation that may be called comes well: by its known link, back to its chain, or to a new context.
use Rattle.std.proofs.Common.{◌≡◌, ℕ, ◌+◌, ◌<◌, true, false, eqb, List, [], ◌∷◌, ◌++◌, length, find, Option, Some, None, unwrap_or, refl, sym, ap, ◌∙◌, subst, inl, inr, arith}
use Rattle.std.specs.Option.{option_map}
use Rattle.std.proofs.lemmas.Bool.{cases_Bool, eq-eqb, ne_eqb, or_left, or_right}
use Rattle.std.proofs.lemmas.List.{length_push}
use Rattle.md_trace.specs.Reaches.{Reaches}
use Rattle.md_trace.specs.declared.event.Event.{Event}
use Rattle.md_trace.specs.declared.event.Event.TheVariants.{Call, Exit, Redo, Fail, Excp, Alloc}
use Rattle.md_trace.specs.Activation.{Activation, activations, numbered}
use Rattle.md_trace.specs.PortHistory.{SiteTable, IsPortHistory, MayCall, current}
use Rattle.md_trace.specs.Context.{Link, Placed, chain, contexts, context_at, context_of, link_of, place, placed, same_link, has_link, has_procedure}
use Rattle.md_trace.specs.Links.{Leading, links, root_link, is_among}
use Rattle.md_trace.specs.Cliques.{edges}
use Rattle.md_trace.proofs.Numbered.{numbered-there}
use Rattle.md_trace.proofs.Chains.{IsBelow}
use Rattle.md_trace.proofs.Histories.{orderly}
use Rattle.md_trace.proofs.Placing.{length-placed}
use Rattle.md_clique.proofs.Growth.{grown_root, grown_leaf, grown_back, Grows, HasEdge, one_step, edge_old, edge_new}
use Rattle.md_clique.proofs.Growing.{IsWell, MayCome, AllBelow, AllReach, AreLinked, linked_more, chain_head, well_none, well_more, same_parts, find_passes, find_below, find_stepped, find_reach, numbered_below_all, reach_more, reach_on, same_link_eq, same_link_refl, among_push, edges_push, called_push}

below_chain : (n : ℕ) (ps : List Placed) (o : Option ℕ) → AllBelow n ps → AllBelow n (chain ps o)
below_chain n [] o h = tt
below_chain n (x ∷ xs) None h = tt
below_chain n (x ∷ xs) (Some a) h = elim (cases_Bool (eqb a (length xs))) [
  | inl new ↦ rw new (h.0, below_chain n xs x.parent h.1)
  | inr old ↦ rw old (below_chain n xs (Some a) h.1)
]

module _ (m : ℕ) (ps : List Placed) (is : IsWell m ps) (x : Placed) (b : ℕ) (z : Placed) (at_b : numbered ps b ≡ Some z) (parent : x.parent ≡ Some b) (caller : x.link.caller ≡ Some z.context) where
  from_z : (c : ℕ) → x.link.caller ≡ Some c → c ≡ z.context
  from_z c e = let q : Some c ≡ Some z.context = sym e ∙ caller in cc

  z_below : z.context < length (contexts m ps)
  z_below = numbered_below_all (length (contexts m ps)) ps b z at_b is.below

  -- the chain reaches the new activation's context, which its caller's reaches
  chain_reaches : (fs : List (ℕ × ℕ)) → Grows (edges (links m ps)) fs → HasEdge fs z.context x.context → AllReach fs x.context (chain ps x.parent)
  chain_reaches fs g edge = rw parent (reach_on fs z.context x.context (chain ps (Some b)) (one_step fs edge.0 z.context x.context edge.1) (reach_more (edges (links m ps)) fs z.context (chain ps (Some b)) g (is.chains b z at_b)))

  links_on : (fs : List (ℕ × ℕ)) → Grows (edges (links m ps)) fs → HasEdge fs z.context x.context → AreLinked fs (x ∷ chain ps x.parent)
  links_on fs g edge =
      let head = chain_head ps b z at_b in
      let on : AreLinked fs (z ∷ head.0) = rw head.1 at (linked_more (edges (links m ps)) fs (chain ps (Some b)) g (is.linked b z at_b)) in
      rw (parent, head.1) (edge, on)

  pub may_known : (y : Placed) → find (has_link x.link) ps ≡ Some y → x.context ≡ y.context → MayCome m x ps
  may_known y found same =
      let among = is.among x.link y found in
      let low : y.context < length (contexts m ps) = find_below (has_link x.link) (length (contexts m ps)) ps y found is.below in
      let old : eqb x.context (length (contexts m ps)) ≡ false = ne_eqb x.context (length (contexts m ps)) (λ e. absurd (omega arith)) in
      let link : x.link ≡ y.link = same_link_eq x.link y.link (find_passes (has_link x.link) ps y found) in
      let step : HasEdge (edges (links m ps)) z.context x.context = rw same (find_stepped (has_link x.link) (edges (links m ps)) ps y found is.stepped z.context (rw (← link) caller)) in
      record {
        grown = rw (old, among) is.grown;
        grows = rw among (λ a c r. r);
        linked = rw among (links_on (edges (links m ps)) (λ a c r. r) step);
        more_contexts = rw old (omega arith);
        below = rw (old, same) low;
        steps = λ c e. rw (among, from_z c e) step;
        chains = rw among (chain_reaches (edges (links m ps)) (λ a c r. r) step);
        among = rw among among;
        among_old = λ l h. rw among h;
        absent = λ l h other. rw among h;
        rooted = rw among is.rooted;
      }

  abbrev leading : Leading
  leading = record { link = x.link; to = x.context }

  module _ (none : find (has_link x.link) ps ≡ None) where
    absent : is_among x.link (links m ps) ≡ false
    absent = is.absent x.link z.context caller none

    edges_are : edges (links m ps ++ leading ∷ []) ≡ edges (links m ps) ++ (z.context, x.context) ∷ []
    edges_are = edges_push (links m ps) leading z.context caller

    step : HasEdge (edges (links m ps) ++ (z.context, x.context) ∷ []) z.context x.context
    step = (length (edges (links m ps)), edge_new (edges (links m ps)) (z.context, x.context))

    longer : Grows (edges (links m ps)) (edges (links m ps) ++ (z.context, x.context) ∷ [])
    longer = edge_old (edges (links m ps)) (z.context, x.context)

    among_new : is_among x.link (links m ps ++ leading ∷ []) ≡ true
    among_new = among_push x.link (links m ps) leading ∙ or_right (is_among x.link (links m ps)) (same_link x.link x.link) (same_link_refl x.link)

    among_still : (l : Link) → is_among l (links m ps) ≡ true → is_among l (links m ps ++ leading ∷ []) ≡ true
    among_still l h = among_push l (links m ps) leading ∙ or_left (is_among l (links m ps)) (same_link l x.link) h

    absent_still : (l : Link) → is_among l (links m ps) ≡ false → same_link l x.link ≡ false → is_among l (links m ps ++ leading ∷ []) ≡ false
    absent_still l h other = among_push l (links m ps) leading ∙ (rw (h, other) refl)

    pub may_back : (y : Placed) → find (has_procedure x.link.procedure) (chain ps (Some b)) ≡ Some y → x.context ≡ y.context → MayCome m x ps
    may_back y found same =
        let low : y.context < length (contexts m ps) = find_below (has_procedure x.link.procedure) (length (contexts m ps)) (chain ps (Some b)) y found (below_chain (length (contexts m ps)) ps (Some b) is.below) in
        let old : eqb x.context (length (contexts m ps)) ≡ false = ne_eqb x.context (length (contexts m ps)) (λ e. absurd (omega arith)) in
        let round : Reaches (edges (links m ps)) x.context z.context = rw same (find_reach (has_procedure x.link.procedure) (edges (links m ps)) z.context (chain ps (Some b)) y found (is.chains b z at_b)) in
        let new = absent in
        let es = edges_are in
        record {
          grown = rw (old, new, es) (grown_back (length (contexts m ps)) (edges (links m ps)) is.grown z.context x.context z_below (rw same low) round);
          grows = rw (new, es) longer;
          linked = rw (new, es) (links_on (edges (links m ps) ++ (z.context, x.context) ∷ []) longer step);
          more_contexts = rw old (omega arith);
          below = rw (old, same) low;
          steps = λ c e. rw (new, es, from_z c e) step;
          chains = rw (new, es) (chain_reaches (edges (links m ps) ++ (z.context, x.context) ∷ []) longer step);
          among = rw new among_new;
          among_old = λ l h. rw new (among_still l h);
          absent = λ l h other. rw new (absent_still l h other);
          rooted = rw new (is.rooted.0 ++ leading ∷ [], rw (is.rooted.1) refl, called_push is.rooted.0 leading z.context caller is.rooted.2);
        }

    pub may_leaf : x.context ≡ length (contexts m ps) → MayCome m x ps
    may_leaf top =
        let fresh : eqb x.context (length (contexts m ps)) ≡ true = eq-eqb x.context (length (contexts m ps)) top in
        let more : length (contexts m ps ++ x.link.procedure ∷ []) ≡ length (contexts m ps) + 1 = length_push (contexts m ps) x.link.procedure in
        let new = absent in
        let es = edges_are in
        record {
          grown = rw (fresh, more, new, es, top) (grown_leaf (length (contexts m ps)) (edges (links m ps)) is.grown z.context z_below);
          grows = rw (new, es) longer;
          linked = rw (new, es) (links_on (edges (links m ps) ++ (z.context, x.context) ∷ []) longer step);
          more_contexts = rw (fresh, more) (omega arith);
          below = rw (fresh, more) (omega arith);
          steps = λ c e. rw (new, es, from_z c e) step;
          chains = rw (new, es) (chain_reaches (edges (links m ps) ++ (z.context, x.context) ∷ []) longer step);
          among = rw new among_new;
          among_old = λ l h. rw new (among_still l h);
          absent = λ l h other. rw new (absent_still l h other);
          rooted = rw new (is.rooted.0 ++ leading ∷ [], rw (is.rooted.1) refl, called_push is.rooted.0 leading z.context caller is.rooted.2);
        }

  -- by the three rules
  by_procedure : (o : Option Placed) → find (has_link x.link) ps ≡ None → find (has_procedure x.link.procedure) (chain ps (Some b)) ≡ o → x.context ≡ unwrap_or (option_map (λ (y : Placed). y.context) o) (length (contexts m ps)) → MayCome m x ps
  by_procedure None none e at = may_leaf none at
  by_procedure (Some y) none e at = may_back none y e at

  pub by_rules : (o : Option Placed) → find (has_link x.link) ps ≡ o → x.context ≡ unwrap_or (option_map (λ (y : Placed). y.context) o) (unwrap_or (option_map (λ (y : Placed). y.context) (find (has_procedure x.link.procedure) (chain ps (Some b)))) (length (contexts m ps))) → MayCome m x ps
  by_rules None e at = by_procedure (find (has_procedure x.link.procedure) (chain ps (Some b))) e refl at
  by_rules (Some y) e at = may_known y e at

-- activation 0 is main's, and each other was called by an earlier one
abbrev pub IsCalled : ℕ → List Activation → Type 0
IsCalled m [] = Unit {0}
IsCalled m (x ∷ []) = (x.parent ≡ None) × (x.site ≡ None) × (x.procedure ≡ m)
IsCalled m (x ∷ y ∷ ys) = IsCalled m (y ∷ ys) × ((b : ℕ) × (x.parent ≡ Some b) × (b < length (y ∷ ys)))

called_later : (m : ℕ) (x : Activation) (b : ℕ) (xs : List Activation) → IsCalled m xs → x.parent ≡ Some b → b < length xs → IsCalled m (x ∷ xs)
called_later m x b [] h e lt = absurd (omega arith)
called_later m x b (y ∷ ys) h e lt = (h, (b, e, lt))

called_by : (t : SiteTable) (h : List Event) (a : ℕ) (p s : Option ℕ) (q : ℕ) → IsPortHistory t h → IsCalled t.main (activations h) → p ≡ current h → MayCall t h p s q → IsCalled t.main (activations (Call a p s q ∷ h))
called_by t h a None None q is before now may = let e : activations h ≡ [] = ap activations may.0 in rw e (refl, refl, may.1)
called_by t h a (Some p) (Some s) q is before now may =
    let order = orderly t t.main h is in
    let below = subst (λ (o : Option ℕ). IsBelow o (length (activations h))) (sym now) order.now in
    called_later t.main (record { parent = Some p; site = Some s; procedure = q }) p (activations h) before refl below
called_by t h a None (Some s) q is before now may = absurd may
called_by t h a (Some p) None q is before now may = absurd may

pub called : (t : SiteTable) (h : List Event) → IsPortHistory t h → IsCalled t.main (activations h)
called t [] is = tt
called t (Call a p s q ∷ h) is = called_by t h a p s q is.0 (called t h is.0) is.1.2 is.1.3
called t (Exit a ∷ h) is = called t h is.0
called t (Redo a ∷ h) is = called t h is.0
called t (Fail a ∷ h) is = called t h is.0
called t (Excp a ∷ h) is = called t h is.0
called t (Alloc a w ∷ h) is = called t h is.0

-- the context of an activation that was called
context_is : (m : ℕ) (ps : List Placed) (o : Option ℕ) (b : ℕ) (l : Link) → o ≡ Some b → context_at m ps o l ≡ unwrap_or (option_map (λ (w : Placed). w.context) (find (has_link l) ps)) (unwrap_or (option_map (λ (w : Placed). w.context) (find (has_procedure l.procedure) (chain ps (Some b)))) (length (contexts m ps)))
context_is m ps None b l e = cc
context_is m ps (Some a) b l e = let same : a ≡ b = cc in rw same refl

-- the first activation has the root link and context 0
may_first : (m : ℕ) (x : Placed) → x.link ≡ root_link m → x.context ≡ 0 → MayCome m x []
may_first m x link first =
    let root : Leading = record { link = root_link m; to = 0 } in
    let same : same_link x.link (root_link m) ≡ true = rw link (same_link_refl (root_link m)) in
    let among : is_among x.link (root ∷ []) ≡ true = rw same refl in
    let old : eqb x.context 1 ≡ false = rw first refl in
    record {
      grown = rw (old, same) grown_root;
      grows = rw same (λ a c r. r);
      more_contexts = rw old (omega arith);
      below = rw old (omega arith);
      steps = λ c e. (let q : None ≡ Some c = sym (ap (λ (l : Link). l.caller) link) ∙ e in cc);
      chains = tt;
      linked = first;
      among = rw same among;
      among_old = λ l h. rw same h;
      absent = λ l h other. rw same h;
      rooted = rw same ([], refl, tt);
    }

pub well : (m : ℕ) (xs : List Activation) → IsCalled m xs → IsWell m (placed m xs)
well m [] h = well_none m
well m (x ∷ []) h =
    let new : Placed = place m [] x.parent (link_of [] x) in
    let caller : context_of [] x.parent ≡ None = rw h.0 refl in
    let link : new.link ≡ root_link m = same_parts (context_of [] x.parent) None x.site None x.procedure m caller h.1 h.2 in
    let first : new.context ≡ 0 = rw h.0 refl in
    well_more m new [] (well_none m) (may_first m new link first)
well m (x ∷ y ∷ ys) h =
    let ps = placed m (y ∷ ys) in
    let is = well m (y ∷ ys) h.0 in
    let b = h.1.0 in
    let lt : b < length (y ∷ ys) = h.1.2 in
    let len = length-placed m (y ∷ ys) in
    let there = numbered-there (placed m (y ∷ ys)) b (omega (arith, len)) in
    let new : Placed = place m ps x.parent (link_of ps x) in
    let caller : new.link.caller ≡ Some there.0.context = rw (h.1.1, there.1) refl in
    let context : new.context ≡ unwrap_or (option_map (λ (w : Placed). w.context) (find (has_link new.link) ps)) (unwrap_or (option_map (λ (w : Placed). w.context) (find (has_procedure new.link.procedure) (chain ps (Some b)))) (length (contexts m ps))) = context_is m ps x.parent b (link_of ps x) h.1.1 in
    well_more m new ps is (by_rules m ps is new b there.0 there.1 h.1.1 caller (find (has_link new.link) ps) refl context)
