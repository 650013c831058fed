-- How the links of a run grow: a link leads to a new context, or to one that reaches its caller already. By induction
-- over this, contexts that reach one context are in line, and no clique is entered twice.
use Rattle.std.proofs.Common.{◌≡◌, ℕ, zero, suc, ◌+◌, ◌<◌, ◌⊎◌, List, [], ◌∷◌, ◌++◌, length, Some, refl, sym, ap, ◌∙◌, inl, inr, arith}
use Rattle.std.specs.List.{slice_get}
use Rattle.std.proofs.lemmas.Bool.{cases_lt}
use Rattle.md_trace.specs.Reaches.{Reaches, here, more}
use Rattle.md_clique.proofs.Walks.{walk_on}

-- an edge of a list with one more at its end
pub edge_old : (es : List (ℕ × ℕ)) (e : ℕ × ℕ) (k : ℕ) (x : ℕ × ℕ) → slice_get es k ≡ Some x → slice_get (es ++ e ∷ []) k ≡ Some x
edge_old [] e k x is = cc
edge_old (y ∷ ys) e zero x is = is
edge_old (y ∷ ys) e (suc k) x is = edge_old ys e k x is

pub edge_new : (es : List (ℕ × ℕ)) (e : ℕ × ℕ) → slice_get (es ++ e ∷ []) (length es) ≡ Some e
edge_new [] e = refl
edge_new (y ∷ ys) e = edge_new ys e

pub edge_cases : (es : List (ℕ × ℕ)) (e : ℕ × ℕ) (k : ℕ) (x : ℕ × ℕ) → slice_get (es ++ e ∷ []) k ≡ Some x → (slice_get es k ≡ Some x) ⊎ ((k ≡ length es) × (x ≡ e))
edge_cases [] e zero x is = let q : e ≡ x = cc in inr (refl, sym q)
edge_cases [] e (suc k) x is = cc
edge_cases (y ∷ ys) e zero x is = inl is
edge_cases (y ∷ ys) e (suc k) x is = elim (edge_cases ys e k x is) [
  | inl old ↦ inl old
  | inr new ↦ inr (ap suc new.0, new.1)
]

pub walk_old : (es : List (ℕ × ℕ)) (e : ℕ × ℕ) (a b : ℕ) → Reaches es a b → Reaches (es ++ e ∷ []) a b
walk_old es e a b (here x) = here x
walk_old es e a b (more k x y z is rest) = more k x y z (edge_old es e k (x, y) is) (walk_old es e y z rest)

-- one list of edges begins with the other
abbrev pub Grows : List (ℕ × ℕ) → List (ℕ × ℕ) → Type 0
Grows es fs = (k : ℕ) (x : ℕ × ℕ) → slice_get es k ≡ Some x → slice_get fs k ≡ Some x

pub walk_grows : (es fs : List (ℕ × ℕ)) → Grows es fs → (a b : ℕ) → Reaches es a b → Reaches fs a b
walk_grows es fs g a b (here x) = here x
walk_grows es fs g a b (more k x y z is rest) = more k x y z (g k (x, y) is) (walk_grows es fs g y z rest)

-- an edge leads from the one to the other
abbrev pub HasEdge : List (ℕ × ℕ) → ℕ → ℕ → Type 0
HasEdge es a b = (k : ℕ) × (slice_get es k ≡ Some (a, b))

pub one_step : (es : List (ℕ × ℕ)) (k a b : ℕ) → slice_get es k ≡ Some (a, b) → Reaches es a b
one_step es k a b is = more k a b b is (here b)

-- a walk with one more link (u, x) doesn't take it, or goes to u and on from x
pub walk_cases : (es : List (ℕ × ℕ)) (u x a b : ℕ) → Reaches (es ++ (u, x) ∷ []) a b → Reaches es a b ⊎ (Reaches es a u × Reaches es x b)
walk_cases es u x a b (here c) = inl (here c)
walk_cases es u x a b (more k c y z is rest) = elim (walk_cases es u x y z rest) as (λ _. Reaches es c z ⊎ (Reaches es c u × Reaches es x z)) [
  | inl old ↦ elim (edge_cases es (u, x) k (c, y) is) as (λ _. Reaches es c z ⊎ (Reaches es c u × Reaches es x z)) [
    | inl edge ↦ inl (more k c y z edge old)
    | inr new ↦ (let f : c ≡ u = ap (λ (p : ℕ × ℕ). p.0) new.1 in let g : y ≡ x = ap (λ (p : ℕ × ℕ). p.1) new.1 in
        inr (rw f (here u), rw g at old))
  ]
  | inr two ↦ elim (edge_cases es (u, x) k (c, y) is) as (λ _. Reaches es c z ⊎ (Reaches es c u × Reaches es x z)) [
    | inl edge ↦ inr (more k c y u edge two.0, two.1)
    | inr new ↦ (let f : c ≡ u = ap (λ (p : ℕ × ℕ). p.0) new.1 in inr (rw f (here u), two.1))
  ]
]

-- edge k leads from a to b, and there is no way back
pub record Leaves (es : List (ℕ × ℕ)) (k a b : ℕ) : Type 0 where
  pub edge : slice_get es k ≡ Some (a, b)
  pub no_return : Reaches es b a → ⊥

-- what holds of the links between n contexts
pub record IsGrown (n : ℕ) (es : List (ℕ × ℕ)) : Type 0 where
  pub some : 0 < n
  pub within : (k a b : ℕ) → slice_get es k ≡ Some (a, b) → (a < n) × (b < n)
  pub reached : (v : ℕ) → v < n → Reaches es 0 v
  -- contexts that reach one context are in line
  pub in_line : (a b u : ℕ) → Reaches es a u → Reaches es b u → Reaches es a b ⊎ Reaches es b a
  -- who reaches the end of a leaving link reaches it through the link, or from within its clique
  pub by_entry : (k a b w : ℕ) → Leaves es k a b → Reaches es w b → Reaches es b w ⊎ Reaches es w a
  -- no two leaving links end in one clique
  pub one : (k a b l c d : ℕ) → Leaves es k a b → Leaves es l c d → Reaches es b d → Reaches es d b → k ≡ l

no_walk : (a b : ℕ) → Reaches [] a b → a ≡ b
no_walk a b (here x) = refl
no_walk a b (more k x y z is rest) = cc

pub grown_root : IsGrown 1 []
grown_root = record {
  some = omega arith;
  within = λ k a b is. cc;
  reached = λ v h. let e : v ≡ 0 = omega arith in rw e (here 0);
  in_line = λ a b u ra rb. let ea = no_walk a u ra in let eb = no_walk b u rb in rw (ea, eb) (inl (here u));
  by_entry = λ k a b w leaves. let e = leaves.edge in cc;
  one = λ k a b l c d leaves. let e = leaves.edge in cc;
}

module _ (n : ℕ) (es : List (ℕ × ℕ)) (grown : IsGrown n es) (p : ℕ) (there : p < n) where
  -- no walk leads from or to the new context before
  from_new : (b : ℕ) (m : ℕ) → m ≡ n → Reaches es m b → b ≡ m
  from_new b m e (here x) = refl
  from_new b m e (more k x y z is rest) = let w = (grown.within k x y is).0 in absurd (omega arith)

  to_new : (a : ℕ) (m : ℕ) → m ≡ n → Reaches es a m → a ≡ m
  to_new a m e (here x) = refl
  to_new a m e (more k x y z is rest) = let r : y ≡ z = to_new y z e rest in let w = (grown.within k x y is).1 in absurd (omega arith)

  abbrev es' : List (ℕ × ℕ)
  es' = es ++ (p, n) ∷ []

  stays : (a b : ℕ) → Reaches es a b → Reaches es' a b
  stays a b r = walk_old es (p, n) a b r

  arrives : (a : ℕ) → Reaches es a p → Reaches es' a n
  arrives a r = walk_on es' a p n (stays a p r) (one_step es' (length es) p n (edge_new es (p, n)))

  -- a new walk is an old one, or goes to the new context through its caller
  cases : (a b : ℕ) → Reaches es' a b → Reaches es a b ⊎ ((b ≡ n) × Reaches es a p)
  cases a b r = elim (walk_cases es p n a b r) as (λ _. Reaches es a b ⊎ ((b ≡ n) × Reaches es a p)) [
    | inl old ↦ inl old
    | inr two ↦ inr (from_new b n refl two.1, two.0)
  ]

  -- between old contexts
  was : (a b : ℕ) → b < n → Reaches es' a b → Reaches es a b
  was a b lt r = elim (cases a b r) [ inl old ↦ old | inr new ↦ (let e : b ≡ n = new.0 in absurd (omega arith)) ]

  leaves_old : (k a b : ℕ) → slice_get es k ≡ Some (a, b) → (Reaches es' b a → ⊥) → Leaves es k a b
  leaves_old k a b edge no_return = record { edge = edge; no_return = λ r. no_return (stays b a r) }

  pub grown_leaf : IsGrown (n + 1) es'
  grown_leaf = record {
    some = omega arith;
    within = λ k a b is. elim (edge_cases es (p, n) k (a, b) is) [
      | inl old ↦ (let w = grown.within k a b old in let wa : a < n = w.0 in let wb : b < n = w.1 in (omega arith, omega arith))
      | inr new ↦ (let f : a ≡ p = ap (λ (q : ℕ × ℕ). q.0) new.1 in let g : b ≡ n = ap (λ (q : ℕ × ℕ). q.1) new.1 in (omega arith, omega arith))
    ];
    reached = λ v h. elim (cases_lt v n) [
      | inl old ↦ stays 0 v (grown.reached v old)
      | inr top ↦ (let e : v ≡ n = omega arith in rw e (arrives 0 (grown.reached p there)))
    ];
    in_line = λ a b u ra rb. elim (cases a u ra) as (λ _. Reaches es' a b ⊎ Reaches es' b a) [
      | inl oa ↦ elim (cases b u rb) as (λ _. Reaches es' a b ⊎ Reaches es' b a) [
        | inl ob ↦ elim (grown.in_line a b u oa ob) as (λ _. Reaches es' a b ⊎ Reaches es' b a) [ inl x ↦ inl (stays a b x) | inr y ↦ inr (stays b a y) ]
        | inr nb ↦ (let e : a ≡ u = to_new a u nb.0 oa in inr (rw e rb))
      ]
      | inr na ↦ elim (cases b u rb) as (λ _. Reaches es' a b ⊎ Reaches es' b a) [
        | inl ob ↦ (let e : b ≡ u = to_new b u na.0 ob in inl (rw e ra))
        | inr nb ↦ elim (grown.in_line a b p na.1 nb.1) as (λ _. Reaches es' a b ⊎ Reaches es' b a) [ inl x ↦ inl (stays a b x) | inr y ↦ inr (stays b a y) ]
      ]
    ];
    by_entry = λ k a b w leaves r. elim (edge_cases es (p, n) k (a, b) leaves.edge) as (λ _. Reaches es' b w ⊎ Reaches es' w a) [
      | inl old ↦ (let lt = (grown.within k a b old).1 in
          elim (grown.by_entry k a b w (leaves_old k a b old leaves.no_return) (was w b lt r)) as (λ _. Reaches es' b w ⊎ Reaches es' w a) [ inl x ↦ inl (stays b w x) | inr y ↦ inr (stays w a y) ])
      | inr new ↦ (let f : a ≡ p = ap (λ (q : ℕ × ℕ). q.0) new.1 in let g : b ≡ n = ap (λ (q : ℕ × ℕ). q.1) new.1 in
          elim (cases w b r) as (λ _. Reaches es' b w ⊎ Reaches es' w a) [
            | inl o ↦ (let e : w ≡ b = to_new w b g o in inl (rw e (here b)))
            | inr two ↦ inr (rw f (stays w p two.1))
          ])
    ];
    one = λ k a b l c d lk ll forth back. elim (edge_cases es (p, n) k (a, b) lk.edge) [
      | inl old_k ↦ elim (edge_cases es (p, n) l (c, d) ll.edge) [
        | inl old_l ↦ grown.one k a b l c d (leaves_old k a b old_k lk.no_return) (leaves_old l c d old_l ll.no_return) (was b d (grown.within l c d old_l).1 forth) (was d b (grown.within k a b old_k).1 back)
        | inr new_l ↦ (let g : d ≡ n = ap (λ (q : ℕ × ℕ). q.1) new_l.1 in let lt = (grown.within k a b old_k).1 in
            let e : b ≡ d = from_new b d g (was d b lt back) in absurd (omega arith))
      ]
      | inr new_k ↦ elim (edge_cases es (p, n) l (c, d) ll.edge) [
        | inl old_l ↦ (let g : b ≡ n = ap (λ (q : ℕ × ℕ). q.1) new_k.1 in let lt = (grown.within l c d old_l).1 in
            let e : d ≡ b = from_new d b g (was b d lt forth) in absurd (omega arith))
        | inr new_l ↦ new_k.0 ∙ sym new_l.0
      ]
    ];
  }

module _ (n : ℕ) (es : List (ℕ × ℕ)) (grown : IsGrown n es) (u x : ℕ) (there_u : u < n) (there_x : x < n) (round : Reaches es x u) where
  abbrev es_back : List (ℕ × ℕ)
  es_back = es ++ (u, x) ∷ []

  holds : (a b : ℕ) → Reaches es a b → Reaches es_back a b
  holds a b r = walk_old es (u, x) a b r

  -- to u, over the new link, and on from x
  jumps : (a b : ℕ) → Reaches es a u → Reaches es x b → Reaches es_back a b
  jumps a b ra rb = walk_on es_back a u b (holds a u ra) (walk_on es_back u x b (one_step es_back (length es) u x (edge_new es (u, x))) (holds x b rb))

  -- the new link doesn't leave
  old_edge : (k a b : ℕ) → Leaves es_back k a b → Leaves es k a b
  old_edge k a b leaves = elim (edge_cases es (u, x) k (a, b) leaves.edge) [
    | inl old ↦ record { edge = old; no_return = λ r. leaves.no_return (holds b a r) }
    | inr new ↦ (let f : a ≡ u = ap (λ (q : ℕ × ℕ). q.0) new.1 in let g : b ≡ x = ap (λ (q : ℕ × ℕ). q.1) new.1 in
        absurd (leaves.no_return (rw (f, g) (holds x u round))))
  ]

  -- one of the two was reached from the other before
  one_was : (k a b l c d : ℕ) → Leaves es_back k a b → Leaves es_back l c d → Reaches es b d → Reaches es_back d b → k ≡ l
  one_was k a b l c d lk ll forth back = elim (grown.by_entry l c d b (old_edge l c d ll) forth) [
    | inl r ↦ grown.one k a b l c d (old_edge k a b lk) (old_edge l c d ll) forth r
    | inr r ↦ absurd (ll.no_return (walk_on es_back d b c back (holds b c r)))
  ]

  pub grown_back : IsGrown n es_back
  grown_back = record {
    some = grown.some;
    within = λ k a b is. elim (edge_cases es (u, x) k (a, b) is) [
      | inl old ↦ grown.within k a b old
      | inr new ↦ (let f : a ≡ u = ap (λ (q : ℕ × ℕ). q.0) new.1 in let g : b ≡ x = ap (λ (q : ℕ × ℕ). q.1) new.1 in (rw f there_u, rw g there_x))
    ];
    reached = λ v h. holds 0 v (grown.reached v h);
    in_line = λ a b w ra rb. elim (walk_cases es u x a w ra) as (λ _. Reaches es_back a b ⊎ Reaches es_back b a) [
      | inl oa ↦ elim (walk_cases es u x b w rb) as (λ _. Reaches es_back a b ⊎ Reaches es_back b a) [
        | inl ob ↦ elim (grown.in_line a b w oa ob) as (λ _. Reaches es_back a b ⊎ Reaches es_back b a) [ inl r ↦ inl (holds a b r) | inr s ↦ inr (holds b a s) ]
        | inr nb ↦ elim (grown.in_line a x w oa nb.1) as (λ _. Reaches es_back a b ⊎ Reaches es_back b a) [
          | inl r ↦ elim (grown.in_line a b u (walk_on es a x u r round) nb.0) as (λ _. Reaches es_back a b ⊎ Reaches es_back b a) [ inl r2 ↦ inl (holds a b r2) | inr s ↦ inr (holds b a s) ]
          | inr s ↦ inr (jumps b a nb.0 s)
        ]
      ]
      | inr na ↦ elim (walk_cases es u x b w rb) as (λ _. Reaches es_back a b ⊎ Reaches es_back b a) [
        | inl ob ↦ elim (grown.in_line b x w ob na.1) as (λ _. Reaches es_back a b ⊎ Reaches es_back b a) [
          | inl r ↦ elim (grown.in_line a b u na.0 (walk_on es b x u r round)) as (λ _. Reaches es_back a b ⊎ Reaches es_back b a) [ inl r2 ↦ inl (holds a b r2) | inr s ↦ inr (holds b a s) ]
          | inr s ↦ inl (jumps a b na.0 s)
        ]
        | inr nb ↦ elim (grown.in_line a b u na.0 nb.0) as (λ _. Reaches es_back a b ⊎ Reaches es_back b a) [ inl r ↦ inl (holds a b r) | inr s ↦ inr (holds b a s) ]
      ]
    ];
    by_entry = λ k a b w leaves r. let old = old_edge k a b leaves in
        elim (walk_cases es u x w b r) as (λ _. Reaches es_back b w ⊎ Reaches es_back w a) [
          | inl o ↦ elim (grown.by_entry k a b w old o) as (λ _. Reaches es_back b w ⊎ Reaches es_back w a) [ inl s ↦ inl (holds b w s) | inr s ↦ inr (holds w a s) ]
          | inr two ↦ elim (grown.by_entry k a b x old two.1) as (λ _. Reaches es_back b w ⊎ Reaches es_back w a) [
            | inl s ↦ elim (grown.in_line b w u (walk_on es b x u s round) two.0) as (λ _. Reaches es_back b w ⊎ Reaches es_back w a) [
              | inl q ↦ inl (holds b w q)
              | inr q ↦ elim (grown.by_entry k a b w old q) as (λ _. Reaches es_back b w ⊎ Reaches es_back w a) [ inl z ↦ inl (holds b w z) | inr z ↦ inr (holds w a z) ]
            ]
            | inr s ↦ inr (jumps w a two.0 s)
          ]
        ];
    one = λ k a b l c d lk ll forth back. elim (walk_cases es u x b d forth) [
      | inl of ↦ one_was k a b l c d lk ll of back
      | inr nf ↦ elim (walk_cases es u x d b back) [
        | inl ob ↦ sym (one_was l c d k a b ll lk ob forth)
        | inr nb ↦ elim (grown.in_line b d u nf.0 nb.0) [
          | inl r ↦ one_was k a b l c d lk ll r back
          | inr s ↦ sym (one_was l c d k a b ll lk s forth)
        ]
      ]
    ];
  }
