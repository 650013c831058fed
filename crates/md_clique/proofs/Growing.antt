-- The links of every port history grow by leaves and by links back to a context that reaches the caller: each call has
-- a known link, or leads back to a context of the caller's chain, or to a new context.
use Rattle.std.proofs.Common.{◌≡◌, ℕ, ◌<◌, ◌≤◌, Bool, true, false, ◌&&◌, ◌||◌, eqb, List, [], ◌∷◌, ◌++◌, length, find, Option, Some, None, refl, ap, ◌∙◌, inl, inr, arith}
use Rattle.std.proofs.lemmas.Bool.{cases_Bool, eq-eqb, eqb-true, and_parts}
use Rattle.md_trace.specs.Reaches.{Reaches, here}
use Rattle.md_trace.specs.Activation.{numbered}
use Rattle.md_trace.specs.Context.{Link, Placed, chain, contexts, same_link, same_option, has_link}
use Rattle.md_trace.specs.Links.{Leading, links, root_link, is_among}
use Rattle.md_trace.specs.Cliques.{edges, with_edge}
use Rattle.md_trace.proofs.Numbered.{numbered-either, numbered-below}
use Rattle.md_trace.proofs.Chains.{chain-new, chain-more}
use Rattle.md_clique.proofs.Walks.{walk_on}
use Rattle.md_clique.proofs.Growth.{Grows, HasEdge, walk_grows, IsGrown, grown_root}

-- a test that finds an element passes it
pub find_passes : {A : Type 0} (p : A → Bool) (xs : List A) (y : A) → find p xs ≡ Some y → p y ≡ true
find_passes p [] y is = cc
find_passes p (x ∷ xs) y is = elim (cases_Bool (p x)) [
  | inl holds ↦ (let q : Some x ≡ Some y = rw holds at is in let e : x ≡ y = cc in rw (← e) holds)
  | inr fails ↦ find_passes p xs y (rw fails at is)
]

-- what is said of each activation, by recursion over the list
abbrev pub AllBelow : ℕ → List Placed → Type 0
AllBelow n [] = Unit {0}
AllBelow n (y ∷ ys) = (y.context < n) × AllBelow n ys

abbrev pub AllStepped : List (ℕ × ℕ) → List Placed → Type 0
AllStepped es [] = Unit {0}
AllStepped es (y ∷ ys) = ((c : ℕ) → y.link.caller ≡ Some c → HasEdge es c y.context) × AllStepped es ys

abbrev pub AllReach : List (ℕ × ℕ) → ℕ → List Placed → Type 0
AllReach es c [] = Unit {0}
AllReach es c (y ∷ ys) = Reaches es y.context c × AllReach es c ys

abbrev pub AllCalled : List Leading → Type 0
AllCalled [] = Unit {0}
AllCalled (x ∷ xs) = ((c : ℕ) × (x.link.caller ≡ Some c)) × AllCalled xs

-- each activation of a chain was called from the context of the next, and the last one is in context 0
abbrev pub AreLinked : List (ℕ × ℕ) → List Placed → Type 0
AreLinked es [] = Unit {0}
AreLinked es (x ∷ []) = x.context ≡ 0
AreLinked es (x ∷ y ∷ ys) = HasEdge es y.context x.context × AreLinked es (y ∷ ys)

pub linked_more : (es fs : List (ℕ × ℕ)) (ys : List Placed) → Grows es fs → AreLinked es ys → AreLinked fs ys
linked_more es fs [] g h = tt
linked_more es fs (x ∷ []) g h = h
linked_more es fs (x ∷ y ∷ ys) g h = ((h.0.0, g h.0.0 (y.context, x.context) h.0.1), linked_more es fs (y ∷ ys) g h.1)

-- a chain begins with its activation
pub chain_head : (ps : List Placed) (a : ℕ) (z : Placed) → numbered ps a ≡ Some z → (rest : List Placed) × (chain ps (Some a) ≡ z ∷ rest)
chain_head [] a z is = cc
chain_head (x ∷ xs) a z is = elim (numbered-either x xs a z is) as (λ _. (rest : List Placed) × (chain (x ∷ xs) (Some a) ≡ z ∷ rest)) [
  | inl new ↦ (chain xs x.parent, rw (new.0, new.1) (chain-new x xs))
  | inr old ↦ (let r = chain_head xs a z old in (r.0, chain-more x xs (Some a) (numbered-below xs a z old) ∙ r.1))
]

pub below_more : (m n : ℕ) (ys : List Placed) → m ≤ n → AllBelow m ys → AllBelow n ys
below_more m n [] le h = tt
below_more m n (y ∷ ys) le h = let first = h.0 in (omega arith, below_more m n ys le h.1)

pub stepped_more : (es fs : List (ℕ × ℕ)) (ys : List Placed) → Grows es fs → AllStepped es ys → AllStepped fs ys
stepped_more es fs [] g h = tt
stepped_more es fs (y ∷ ys) g h = ((λ c e. ((h.0 c e).0, g (h.0 c e).0 (c, y.context) (h.0 c e).1)), stepped_more es fs ys g h.1)

pub reach_more : (es fs : List (ℕ × ℕ)) (c : ℕ) (ys : List Placed) → Grows es fs → AllReach es c ys → AllReach fs c ys
reach_more es fs c [] g h = tt
reach_more es fs c (y ∷ ys) g h = (walk_grows es fs g y.context c h.0, reach_more es fs c ys g h.1)

pub reach_on : (es : List (ℕ × ℕ)) (c d : ℕ) (ys : List Placed) → Reaches es c d → AllReach es c ys → AllReach es d ys
reach_on es c d [] r h = tt
reach_on es c d (y ∷ ys) r h = (walk_on es y.context c d h.0 r, reach_on es c d ys r h.1)

pub find_below : (p : Placed → Bool) (n : ℕ) (ys : List Placed) (y : Placed) → find p ys ≡ Some y → AllBelow n ys → y.context < n
find_below p n [] y is h = cc
find_below p n (x ∷ xs) y is h = elim (cases_Bool (p x)) [
  | inl holds ↦ (let q : Some x ≡ Some y = rw holds at is in let e : x ≡ y = cc in rw (← e) h.0)
  | inr fails ↦ find_below p n xs y (rw fails at is) h.1
]

pub find_stepped : (p : Placed → Bool) (es : List (ℕ × ℕ)) (ys : List Placed) (y : Placed) → find p ys ≡ Some y → AllStepped es ys → (c : ℕ) → y.link.caller ≡ Some c → HasEdge es c y.context
find_stepped p es [] y is h c called = cc
find_stepped p es (x ∷ xs) y is h c called = elim (cases_Bool (p x)) [
  | inl holds ↦ (let q : Some x ≡ Some y = rw holds at is in let e : x ≡ y = cc in rw (← e) (h.0 c (rw e called)))
  | inr fails ↦ find_stepped p es xs y (rw fails at is) h.1 c called
]

pub find_reach : (p : Placed → Bool) (es : List (ℕ × ℕ)) (d : ℕ) (ys : List Placed) (y : Placed) → find p ys ≡ Some y → AllReach es d ys → Reaches es y.context d
find_reach p es d [] y is h = cc
find_reach p es d (x ∷ xs) y is h = elim (cases_Bool (p x)) [
  | inl holds ↦ (let q : Some x ≡ Some y = rw holds at is in let e : x ≡ y = cc in rw (← e) h.0)
  | inr fails ↦ find_reach p es d xs y (rw fails at is) h.1
]

pub numbered_below_all : (n : ℕ) (ys : List Placed) (a : ℕ) (y : Placed) → numbered ys a ≡ Some y → AllBelow n ys → y.context < n
numbered_below_all n [] a y is h = cc
numbered_below_all n (x ∷ xs) a y is h = elim (numbered-either x xs a y is) [
  | inl new ↦ rw new.1 h.0
  | inr old ↦ numbered_below_all n xs a y old h.1
]

-- links are the same where the test says so
same_option_eq : (a b : Option ℕ) → same_option a b ≡ true → a ≡ b
same_option_eq None None e = refl
same_option_eq None (Some b) e = cc
same_option_eq (Some a) None e = cc
same_option_eq (Some a) (Some b) e = ap Some (eqb-true a b e)

pub same_parts : (c d s r : Option ℕ) (p q : ℕ) → c ≡ d → s ≡ r → p ≡ q → let a : Link = record { caller = c; site = s; procedure = p } in let b : Link = record { caller = d; site = r; procedure = q } in a ≡ b
same_parts c d s r p q e f g = cc

pub same_link_eq : (a b : Link) → same_link a b ≡ true → a ≡ b
same_link_eq a b e =
    let p = and_parts (same_option a.caller b.caller && same_option a.site b.site) (eqb a.procedure b.procedure) e in
    let q = and_parts (same_option a.caller b.caller) (same_option a.site b.site) p.0 in
    same_parts a.caller b.caller a.site b.site a.procedure b.procedure (same_option_eq a.caller b.caller q.0) (same_option_eq a.site b.site q.1) (eqb-true a.procedure b.procedure p.1)

same_option_refl : (a : Option ℕ) → same_option a a ≡ true
same_option_refl None = refl
same_option_refl (Some a) = eq-eqb a a refl

pub same_link_refl : (a : Link) → same_link a a ≡ true
same_link_refl a = rw (same_option_refl a.caller, same_option_refl a.site, eq-eqb a.procedure a.procedure refl) refl

-- one more link at the end
pub among_push : (l : Link) (ls : List Leading) (y : Leading) → is_among l (ls ++ y ∷ []) ≡ (is_among l ls || same_link l y.link)
among_push l [] y = elim (cases_Bool (same_link l y.link)) [ inl h ↦ rw h refl | inr h ↦ rw h refl ]
among_push l (x ∷ xs) y = elim (cases_Bool (same_link l x.link)) [ inl h ↦ rw h refl | inr h ↦ rw h (among_push l xs y) ]

pub edges_push : (ls : List Leading) (y : Leading) (c : ℕ) → y.link.caller ≡ Some c → edges (ls ++ y ∷ []) ≡ edges ls ++ (c, y.to) ∷ []
edges_push [] y c e = rw e refl
edges_push (x ∷ xs) y c e = let rest = edges_push xs y c e in go x.link.caller rest
  where
    go : (o : Option ℕ) → edges (xs ++ y ∷ []) ≡ edges xs ++ (c, y.to) ∷ [] → with_edge o x.to (edges (xs ++ y ∷ [])) ≡ with_edge o x.to (edges xs) ++ (c, y.to) ∷ []
    go None r = r
    go (Some f) r = ap (λ es. (f, x.to) ∷ es) r

pub called_push : (ls : List Leading) (y : Leading) (c : ℕ) → y.link.caller ≡ Some c → AllCalled ls → AllCalled (ls ++ y ∷ [])
called_push [] y c e h = ((c, e), tt)
called_push (x ∷ xs) y c e h = (h.0, called_push xs y c e h.1)

-- what holds of activations in their contexts
pub record IsWell (m : ℕ) (ps : List Placed) : Type 0 where
  pub grown : IsGrown (length (contexts m ps)) (edges (links m ps))
  pub below : AllBelow (length (contexts m ps)) ps
  pub stepped : AllStepped (edges (links m ps)) ps
  pub among : (l : Link) (y : Placed) → find (has_link l) ps ≡ Some y → is_among l (links m ps) ≡ true
  pub absent : (l : Link) (c : ℕ) → l.caller ≡ Some c → find (has_link l) ps ≡ None → is_among l (links m ps) ≡ false
  pub chains : (a : ℕ) (z : Placed) → numbered ps a ≡ Some z → AllReach (edges (links m ps)) z.context (chain ps (Some a))
  pub linked : (a : ℕ) (z : Placed) → numbered ps a ≡ Some z → AreLinked (edges (links m ps)) (chain ps (Some a))
  pub rooted : (rest : List Leading) × (links m ps ≡ record { link = root_link m; to = 0 } ∷ rest) × AllCalled rest

pub well_none : (m : ℕ) → IsWell m []
well_none m = record {
  grown = grown_root;
  below = tt;
  stepped = tt;
  among = λ l y is. cc;
  absent = λ l c e is. rw e refl;
  chains = λ a z is. cc;
  linked = λ a z is. cc;
  rooted = ([], refl, tt);
}

-- what one more activation has to show
pub record MayCome (m : ℕ) (x : Placed) (ps : List Placed) : Type 0 where
  pub grown : IsGrown (length (contexts m (x ∷ ps))) (edges (links m (x ∷ ps)))
  pub grows : Grows (edges (links m ps)) (edges (links m (x ∷ ps)))
  pub more_contexts : length (contexts m ps) ≤ length (contexts m (x ∷ ps))
  pub below : x.context < length (contexts m (x ∷ ps))
  pub steps : (c : ℕ) → x.link.caller ≡ Some c → HasEdge (edges (links m (x ∷ ps))) c x.context
  pub chains : AllReach (edges (links m (x ∷ ps))) x.context (chain ps x.parent)
  pub linked : AreLinked (edges (links m (x ∷ ps))) (x ∷ chain ps x.parent)
  pub among : is_among x.link (links m (x ∷ ps)) ≡ true
  pub among_old : (l : Link) → is_among l (links m ps) ≡ true → is_among l (links m (x ∷ ps)) ≡ true
  pub absent : (l : Link) → is_among l (links m ps) ≡ false → same_link l x.link ≡ false → is_among l (links m (x ∷ ps)) ≡ false
  pub rooted : (rest : List Leading) × (links m (x ∷ ps) ≡ record { link = root_link m; to = 0 } ∷ rest) × AllCalled rest

pub well_more : (m : ℕ) (x : Placed) (ps : List Placed) → IsWell m ps → MayCome m x ps → IsWell m (x ∷ ps)
well_more m x ps is may = record {
  grown = may.grown;
  below = (may.below, below_more (length (contexts m ps)) (length (contexts m (x ∷ ps))) ps may.more_contexts is.below);
  stepped = (may.steps, stepped_more (edges (links m ps)) (edges (links m (x ∷ ps))) ps may.grows is.stepped);
  among = λ l y found. elim (cases_Bool (same_link l x.link)) [
    | inl same ↦ (let e = same_link_eq l x.link same in rw e may.among)
    | inr other ↦ may.among_old l (is.among l y (rw other at found))
  ];
  absent = λ l c called none. elim (cases_Bool (same_link l x.link)) [
    | inl same ↦ (let q : Some x ≡ None = rw same at none in cc)
    | inr other ↦ may.absent l (is.absent l c called (rw other at none)) other
  ];
  chains = λ a z at_a. elim (numbered-either x ps a z at_a) [
    | inl new ↦ rw (new.0, new.1, chain-new x ps) (here x.context, may.chains)
    | inr old ↦ rw (chain-more x ps (Some a) (numbered-below ps a z old)) (reach_more (edges (links m ps)) (edges (links m (x ∷ ps))) z.context (chain ps (Some a)) may.grows (is.chains a z old))
  ];
  linked = λ a z at_a. elim (numbered-either x ps a z at_a) [
    | inl new ↦ rw (new.0, chain-new x ps) may.linked
    | inr old ↦ rw (chain-more x ps (Some a) (numbered-below ps a z old)) (linked_more (edges (links m ps)) (edges (links m (x ∷ ps))) (chain ps (Some a)) may.grows (is.linked a z old))
  ];
  rooted = may.rooted;
}
