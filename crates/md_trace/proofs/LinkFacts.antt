-- What the three rules of contexts give: each link has one number and one end, and each context one procedure.
use Rattle.std.proofs.Common.{ℕ, zero, suc, ◌≡◌, ◌<◌, ◌≤◌, ◌⊎◌, inl, inr, true, false, eqb, List, [], ◌∷◌, ◌++◌, length, find, MatchOption, IsSomeAnd, Option, Some, None, unwrap_or, slice_get, refl, sym, ap, ◌∙◌, subst, arith}
use Rattle.std.specs.Option.{option_map}
use Rattle.std.proofs.lemmas.List.{length-append}
use Rattle.std.proofs.lemmas.Bool.{false≢true, cases_Bool, eq-eqb, eqb-true}
use Rattle.std.proofs.lemmas.Bool.Decides.{eqb_tells}
use Rattle.md_trace.specs.declared.event.Event.{Event}
use Rattle.md_trace.specs.declared.event.Event.TheVariants.{Call, Exit, Redo, Fail, Excp, Alloc}
use Rattle.md_trace.specs.Activation.{Activation, activations, numbered, procedure_of}
use Rattle.md_trace.specs.PortHistory.{SiteTable, CallSite, MayCallAt, current, MayCall, IsPortHistory}
use Rattle.md_trace.specs.Context.{Link, Placed, chain, context_at, contexts, has_link, has_procedure, same_link, link_of, place, placed, placed_of}
use Rattle.md_trace.specs.Links.{Leading, root_link, is_among, links}
use Rattle.md_trace.proofs.Chains.{IsBelow}
use Rattle.md_trace.proofs.Finds.{find-passes, find-there, find-none, chain-there, same-link-true, same-link-refl}
use Rattle.md_trace.proofs.Histories.{orderly}
use Rattle.md_trace.proofs.Lists.{get-push-old, get-push-new, get-push-either, get-within}
use Rattle.md_trace.proofs.Numbered.{numbered-new, numbered-more, numbered-below, numbered-either, numbered-there}
use Rattle.md_trace.proofs.Placing.{length-placed, numbered-placed}

-- an activation is that of main, before all others, or is called by an earlier one at a site
abbrev pub IsCall : ℕ → List Activation → Option ℕ → Option ℕ → ℕ → Type 0
IsCall m xs None None q = (xs ≡ []) × (q ≡ m)
IsCall m xs (Some p) (Some s) q = p < length xs
IsCall m xs None (Some s) q = ⊥
IsCall m xs (Some p) None q = ⊥

abbrev pub AreCalls : ℕ → List Activation → Type 0
AreCalls m [] = Unit {0}
AreCalls m (x ∷ xs) = IsCall m xs x.parent x.site x.procedure × AreCalls m xs

call-from : (t : SiteTable) (h : List Event) (p s : Option ℕ) (q : ℕ) → IsBelow (current h) (length (activations h)) → p ≡ current h → MayCall t h p s q → IsCall t.main (activations h) p s q
call-from t h None None q below is may = (ap activations may.0, may.1)
call-from t h (Some p) (Some s) q below is may = let P : Option ℕ → Type 0 = λ o. IsBelow o (length (activations h)) in subst P (sym is) below
call-from t h None (Some s) q below is may = may
call-from t h (Some p) None q below is may = may

pub are-calls : (t : SiteTable) (h : List Event) → IsPortHistory t h → AreCalls t.main (activations h)
are-calls t [] is = tt
are-calls t (Call a p s q ∷ h) is = (call-from t h p s q (orderly t t.main h is.0).now is.1.2 is.1.3, are-calls t h is.0)
are-calls t (Exit a ∷ h) is = are-calls t h is.0
are-calls t (Redo a ∷ h) is = are-calls t h is.0
are-calls t (Fail a ∷ h) is = are-calls t h is.0
are-calls t (Excp a ∷ h) is = are-calls t h is.0
are-calls t (Alloc a w ∷ h) is = are-calls t h is.0

-- by which of the three rules an activation has its context
abbrev pub ByLink : List Placed → Link → ℕ → Type 0
ByLink before l c = (y : Placed) × (find (has_link l) before ≡ Some y) × (c ≡ y.context)

abbrev pub ByChain : List Placed → Option ℕ → Link → ℕ → Type 0
ByChain before o l c = (y : Placed) × (find (has_link l) before ≡ None) × (find (has_procedure l.procedure) (chain before o) ≡ Some y) × (c ≡ y.context)

abbrev pub Anew : ℕ → List Placed → Option ℕ → Link → ℕ → Type 0
Anew m before o l c = (find (has_link l) before ≡ None) × (find (has_procedure l.procedure) (chain before o) ≡ None) × (c ≡ length (contexts m before))

rule-of : (m a : ℕ) (before : List Placed) (l : Link) (f g : Option Placed) → find (has_link l) before ≡ f → find (has_procedure l.procedure) (chain before (Some a)) ≡ g →
    (c : ℕ) → c ≡ unwrap_or (option_map (λ x. x.context) f) (unwrap_or (option_map (λ x. x.context) g) (length (contexts m before))) →
    ByLink before l c ⊎ (ByChain before (Some a) l c ⊎ Anew m before (Some a) l c)
rule-of m a before l (Some y) g f_is g_is c is = inl (y, f_is, is)
rule-of m a before l None (Some y) f_is g_is c is = inr (inl (y, f_is, g_is, is))
rule-of m a before l None None f_is g_is c is = inr (inr (f_is, g_is, is))

pub rule : (m a : ℕ) (before : List Placed) (l : Link) → ByLink before l (context_at m before (Some a) l) ⊎ (ByChain before (Some a) l (context_at m before (Some a) l) ⊎ Anew m before (Some a) l (context_at m before (Some a) l))
rule m a before l =
    rule-of m a before l (find (has_link l) before) (find (has_procedure l.procedure) (chain before (Some a))) refl refl (context_at m before (Some a) l) refl

-- one more activation takes no context away
pub contexts-more : (m : ℕ) (x : Placed) (xs : List Placed) (c p : ℕ) → slice_get (contexts m xs) c ≡ Some p → slice_get (contexts m (x ∷ xs)) c ≡ Some p
contexts-more m x xs c p is =
    elim (eqb_tells x.context (length (contexts m xs))) [
      | inl e ↦ rw e.0 (get-push-old (contexts m xs) x.link.procedure c (get-within (contexts m xs) c p is) ∙ is)
      | inr e ↦ rw e.0 is
    ]

-- nor a link
pub links-more : (m : ℕ) (x : Placed) (xs : List Placed) (j : ℕ) (y : Leading) → slice_get (links m xs) j ≡ Some y → slice_get (links m (x ∷ xs)) j ≡ Some y
links-more m x xs j y is =
    elim (cases_Bool (is_among x.link (links m xs))) [
      | inl e ↦ rw e is
      | inr e ↦ rw e (get-push-old (links m xs) (record { link = x.link; to = x.context }) j (get-within (links m xs) j y is) ∙ is)
    ]

-- a link is among others where one of them is it
pub among-there : (l : Link) (ls : List Leading) → is_among l ls ≡ true → (j : ℕ) × (x : Leading) × (slice_get ls j ≡ Some x) × (x.link ≡ l)
among-there l [] is = absurd (false≢true is)
among-there l (x ∷ xs) is =
    elim (cases_Bool (same_link l x.link)) [
      | inl good ↦ (0, x, refl, sym (same-link-true l x.link good))
      | inr bad ↦ let rest = among-there l xs (rw bad at is) in (suc rest.0, rest.1, rest.2, rest.3)
    ]

pub there-among : (l : Link) (ls : List Leading) (j : ℕ) (x : Leading) → slice_get ls j ≡ Some x → x.link ≡ l → is_among l ls ≡ true
there-among l [] j x is same = absurd (cc)
there-among l (y ∷ ys) zero x is same =
    let e : y ≡ x = cc in
    let P : Link → Type 0 = λ z. same_link l z ≡ true in
    let here : same_link l y.link ≡ true = subst P (sym (ap (λ (z : Leading). z.link) e ∙ same)) (same-link-refl l) in
    rw here
there-among l (y ∷ ys) (suc j) x is same =
    let rest = there-among l ys j x is same in
    elim (cases_Bool (same_link l y.link)) [ inl good ↦ rw good | inr bad ↦ rw bad rest ]

-- a link with its end
abbrev pub leading : Link → ℕ → Leading
leading l c = record { link = l; to = c }

-- each activation's link has a number and leads to its context, which is one of its procedure; each link is the root
-- link or that of an activation; and what calls is a context
pub record AreRight (m : ℕ) (xs : List Placed) : Type 0 where
  pub linked : (a : ℕ) (y : Placed) → numbered xs a ≡ Some y → (j : ℕ) × (slice_get (links m xs) j ≡ Some (leading y.link y.context))
  pub used : (j : ℕ) (x : Leading) → slice_get (links m xs) j ≡ Some x → (x ≡ leading (root_link m) 0) ⊎ ((a : ℕ) × (y : Placed) × (numbered xs a ≡ Some y) × (x ≡ leading y.link y.context))
  pub in_contexts : (a : ℕ) (y : Placed) → numbered xs a ≡ Some y → slice_get (contexts m xs) y.context ≡ Some y.link.procedure
  pub callers : (a : ℕ) (y : Placed) (v : ℕ) → numbered xs a ≡ Some y → y.link.caller ≡ Some v → v < length (contexts m xs)

only-root : (m j : ℕ) (x : Leading) → slice_get (links m []) j ≡ Some x → x ≡ leading (root_link m) 0
only-root m zero x is = cc
only-root m (suc j) x is = absurd (cc)

contexts-longer : (m : ℕ) (x : Placed) (xs : List Placed) → length (contexts m xs) ≤ length (contexts m (x ∷ xs))
contexts-longer m x xs =
    elim (eqb_tells x.context (length (contexts m xs))) [
      | inl e ↦ rw e.0 (omega (arith, length-append (contexts m xs) (x.link.procedure ∷ [])))
      | inr e ↦ rw e.0 (omega arith)
    ]

used-before : (m : ℕ) (x : Placed) (xs : List Placed) (j : ℕ) (y : Leading) → AreRight m xs → slice_get (links m xs) j ≡ Some y →
    (y ≡ leading (root_link m) 0) ⊎ ((a : ℕ) × (z : Placed) × (numbered (x ∷ xs) a ≡ Some z) × (y ≡ leading z.link z.context))
used-before m x xs j y r is =
    elim (r.used j y is) [
      | inl root ↦ inl root
      | inr old ↦ inr (old.0, old.1, numbered-more x xs old.0 (numbered-below xs old.0 old.1 old.2) ∙ old.2, old.3)
    ]

-- a link of a longer list is one of before, or that of the new activation
used-more : (m : ℕ) (x : Placed) (xs : List Placed) (j : ℕ) (y : Leading) → AreRight m xs → slice_get (links m (x ∷ xs)) j ≡ Some y →
    (y ≡ leading (root_link m) 0) ⊎ ((a : ℕ) × (z : Placed) × (numbered (x ∷ xs) a ≡ Some z) × (y ≡ leading z.link z.context))
used-more m x xs j y r is =
    elim (cases_Bool (is_among x.link (links m xs))) [
      | inl e ↦ used-before m x xs j y r (rw e at is)
      | inr e ↦ elim (get-push-either (links m xs) (leading x.link x.context) y j (rw e at is)) [
        | inl new ↦ inr (length xs, x, numbered-new x xs, new.1)
        | inr old ↦ used-before m x xs j y r old
      ]
    ]

right-none : (m : ℕ) → AreRight m []
right-none m = record {
  linked = λ a y is. absurd (cc);
  used = λ j x is. inl (only-root m j x is);
  in_contexts = λ a y is. absurd (cc);
  callers = λ a y v is c. absurd (cc);
}

-- what holds of the new activation and of the older ones holds of all
right-step : (m : ℕ) (x : Placed) (xs : List Placed) → AreRight m xs →
    (j : ℕ) × (slice_get (links m (x ∷ xs)) j ≡ Some (leading x.link x.context)) →
    slice_get (contexts m (x ∷ xs)) x.context ≡ Some x.link.procedure →
    ((v : ℕ) → x.link.caller ≡ Some v → v < length (contexts m xs)) → AreRight m (x ∷ xs)
right-step m x xs r new_linked new_context new_caller =
    let more : length (contexts m xs) ≤ length (contexts m (x ∷ xs)) = contexts-longer m x xs in
    record {
      linked = λ a y is. elim (numbered-either x xs a y is) [
        | inl new ↦ let P : Placed → Type 0 = λ z. (j : ℕ) × (slice_get (links m (x ∷ xs)) j ≡ Some (leading z.link z.context)) in subst P (sym new.1) new_linked
        | inr old ↦ let k = r.linked a y old in (k.0, links-more m x xs k.0 (leading y.link y.context) k.1)
      ];
      used = λ j y is. used-more m x xs j y r is;
      in_contexts = λ a y is. elim (numbered-either x xs a y is) [
        | inl new ↦ let P : Placed → Type 0 = λ z. slice_get (contexts m (x ∷ xs)) z.context ≡ Some z.link.procedure in subst P (sym new.1) new_context
        | inr old ↦ contexts-more m x xs y.context y.link.procedure (r.in_contexts a y old)
      ];
      callers = λ a y v is c. elim (numbered-either x xs a y is) [
        | inl new ↦ omega (arith, more, new_caller v (ap (λ (z : Placed). z.link.caller) (sym new.1) ∙ c))
        | inr old ↦ omega (arith, more, r.callers a y v old c)
      ];
    }

-- main's activation
right-first : (m : ℕ) → AreRight m (record { parent = None; link = root_link m; context = 0 } ∷ [])
right-first m =
    let x : Placed = record { parent = None; link = root_link m; context = 0 } in
    right-step m x [] (right-none m) (0, links-more m x [] 0 (leading (root_link m) 0) refl) (contexts-more m x [] 0 m refl) (λ v is. absurd (cc))

-- a link that no activation has, and that a context calls, is not among the links
pub not-among : (m : ℕ) (xs : List Placed) (l : Link) (v : ℕ) → AreRight m xs → l.caller ≡ Some v → find (has_link l) xs ≡ None → is_among l (links m xs) ≡ false
not-among m xs l v r caller miss =
    elim (cases_Bool (is_among l (links m xs))) [
      | inl good ↦
          let there = among-there l (links m xs) good in
          absurd (elim (r.used there.0 there.1 there.2) [
            | inl root ↦ let e : None ≡ Some v = ap (λ (z : Leading). z.link.caller) (sym root) ∙ ap (λ (z : Link). z.caller) there.3 ∙ caller in cc
            | inr old ↦
                let e : old.1.link ≡ l = ap (λ (z : Leading). z.link) (sym old.3) ∙ there.3 in
                let P : Link → Type 0 = λ z. same_link l z ≡ true in
                false≢true (sym (find-none (has_link l) xs old.0 old.1 miss old.2) ∙ subst P (sym e) (same-link-refl l))
          ])
      | inr bad ↦ bad
    ]

-- a later activation, by each rule
right-later : (m a v : ℕ) (xs : List Placed) (l : Link) → AreRight m xs → l.caller ≡ Some v → v < length (contexts m xs) → AreRight m (place m xs (Some a) l ∷ xs)
right-later m a v xs l r caller there =
    let x = place m xs (Some a) l in
    let calls : (w : ℕ) → l.caller ≡ Some w → w < length (contexts m xs) = λ w is. let e : v ≡ w = cc in omega (arith, e) in
    elim (rule m a xs l) [
      | inl known ↦
          let y = known.0 in
          let same : y.link ≡ l = sym (same-link-true l y.link (find-passes (has_link l) xs y known.1)) in
          let at = find-there (has_link l) xs y known.1 in
          let j = r.linked at.0 y at.1 in
          let e : leading y.link y.context ≡ leading l x.context = ap (λ z. leading z y.context) same ∙ ap (leading l) (sym known.2) in
          let c : slice_get (contexts m (x ∷ xs)) y.context ≡ Some y.link.procedure = contexts-more m x xs y.context y.link.procedure (r.in_contexts at.0 y at.1) in
          right-step m x xs r (j.0, links-more m x xs j.0 (leading y.link y.context) j.1 ∙ ap Some e)
          (ap (slice_get (contexts m (x ∷ xs))) known.2 ∙ c ∙ ap (λ (z : Link). Some z.procedure) same) calls
      | inr other ↦
          let miss : find (has_link l) xs ≡ None = elim other [ inl chained ↦ chained.1 | inr new ↦ new.0 ] in
          let fresh = not-among m xs l v r caller miss in
          let linked : slice_get (links m (x ∷ xs)) (length (links m xs)) ≡ Some (leading l x.context) = rw fresh (get-push-new (links m xs) (leading l x.context)) in
          elim other [
            | inl chained ↦
                let y = chained.0 in
                let at = chain-there (has_procedure l.procedure) xs (Some a) y chained.2 in
                let same : l.procedure ≡ y.link.procedure = eqb-true l.procedure y.link.procedure (find-passes (has_procedure l.procedure) (chain xs (Some a)) y chained.2) in
                let c : slice_get (contexts m (x ∷ xs)) y.context ≡ Some y.link.procedure = contexts-more m x xs y.context y.link.procedure (r.in_contexts at.0 y at.1) in
                right-step m x xs r (length (links m xs), linked) (ap (slice_get (contexts m (x ∷ xs))) chained.3 ∙ c ∙ ap Some (sym same)) calls
            | inr new ↦
                let test : eqb x.context (length (contexts m xs)) ≡ true = eq-eqb x.context (length (contexts m xs)) new.2 in
                let grown : contexts m (x ∷ xs) ≡ contexts m xs ++ l.procedure ∷ [] = rw test in
                right-step m x xs r (length (links m xs), linked)
                (ap (slice_get (contexts m (x ∷ xs))) new.2 ∙ ap (λ cs. slice_get cs (length (contexts m xs))) grown ∙ get-push-new (contexts m xs) l.procedure) calls
          ]
    ]

right-more : (m : ℕ) (xs : List Activation) (p s : Option ℕ) (q : ℕ) → AreRight m (placed m xs) → IsCall m xs p s q →
    AreRight m (place m (placed m xs) p (link_of (placed m xs) (record { parent = p; site = s; procedure = q })) ∷ placed m xs)
right-more m xs None None q r call =
    let P : List Activation → Type 0 = λ ys. AreRight m (place m (placed m ys) None (link_of (placed m ys) (record { parent = None; site = None; procedure = q })) ∷ placed m ys) in
    let Q : ℕ → Type 0 = λ n. AreRight m (record { parent = None; link = root_link n; context = 0 } ∷ []) in
    subst P (sym call.0) (subst Q (sym call.1) (right-first m))
right-more m xs (Some p) (Some s) q r call =
    let at = numbered-there (placed m xs) p (omega (arith, length-placed m xs)) in
    let l = link_of (placed m xs) (record { parent = Some p; site = Some s; procedure = q }) in
    let caller : l.caller ≡ Some at.0.context = ap (option_map (λ (x : Placed). x.context)) at.1 in
    right-later m p at.0.context (placed m xs) l r caller (get-within (contexts m (placed m xs)) at.0.context at.0.link.procedure (r.in_contexts p at.0 at.1))
right-more m xs None (Some s) q r call = absurd call
right-more m xs (Some p) None q r call = absurd call

pub are-right : (m : ℕ) (xs : List Activation) → AreCalls m xs → AreRight m (placed m xs)
are-right m [] calls = right-none m
are-right m (x ∷ xs) calls = right-more m xs x.parent x.site x.procedure (are-right m xs calls.1) calls.0

-- two numbers of one link are one
pub links-distinct : (m : ℕ) (xs : List Placed) (j k : ℕ) (x y : Leading) → slice_get (links m xs) j ≡ Some x → slice_get (links m xs) k ≡ Some y → x.link ≡ y.link → j ≡ k
links-distinct m [] zero zero x y a b same = refl
links-distinct m [] zero (suc k) x y a b same = absurd (cc)
links-distinct m [] (suc j) k x y a b same = absurd (cc)
links-distinct m (z ∷ zs) j k x y a b same =
    elim (cases_Bool (is_among z.link (links m zs))) [
      | inl e ↦ links-distinct m zs j k x y (rw e at a) (rw e at b) same
      | inr e ↦
          let ls = links m zs in
          let new = leading z.link z.context in
          let other : (i : ℕ) (w : Leading) → slice_get ls i ≡ Some w → w.link ≡ z.link → ⊥ = λ i w is mine. false≢true (sym e ∙ there-among z.link ls i w is mine) in
          elim (get-push-either ls new x j (rw e at a)) [
            | inl first ↦ elim (get-push-either ls new y k (rw e at b)) [
              | inl second ↦ first.0 ∙ sym second.0
              | inr old ↦ absurd (other k y old (sym same ∙ ap (λ (w : Leading). w.link) first.1))
            ]
            | inr first ↦ elim (get-push-either ls new y k (rw e at b)) [
              | inl second ↦ absurd (other j x first (same ∙ ap (λ (w : Leading). w.link) second.1))
              | inr old ↦ links-distinct m zs j k x y first old same
            ]
          ]
    ]

-- no more links than activations, and the root link
pub links-few : (m : ℕ) (xs : List Placed) → length (links m xs) ≤ suc (length xs)
links-few m [] = omega arith
links-few m (x ∷ xs) =
    let rest = links-few m xs in
    elim (cases_Bool (is_among x.link (links m xs))) [
      | inl e ↦ rw e (omega (arith, rest))
      | inr e ↦ rw e (omega (arith, rest, length-append (links m xs) (leading x.link x.context ∷ [])))
    ]

-- what a site says of the procedure that is called there
abbrev pub SitedAs : SiteTable → Option ℕ → ℕ → Type 0
SitedAs t s q = (n : ℕ) (x : CallSite) → s ≡ Some n → slice_get t.sites n ≡ Some x → MatchOption x.callee (q < t.procedures) (λ c. q ≡ c)

sited-at : (t : SiteTable) (h : List Event) (p n q : ℕ) (o : Option CallSite) → slice_get t.sites n ≡ o → IsSomeAnd o (MayCallAt t (procedure_of (activations h) p) q) → SitedAs t (Some n) q
sited-at t h p n q None is may = absurd may
sited-at t h p n q (Some z) is may = λ k x s there.
    let e : n ≡ k = cc in
    let same : z ≡ x = cc (sym is ∙ ap (slice_get t.sites) e ∙ there) in
    let P : CallSite → Type 0 = λ w. MatchOption w.callee (q < t.procedures) (λ c. q ≡ c) in
    subst P same may.callee

sited-call : (t : SiteTable) (h : List Event) (p s : Option ℕ) (q : ℕ) → MayCall t h p s q → SitedAs t s q
sited-call t h None None q may = λ n x s there. absurd (cc)
sited-call t h (Some p) (Some n) q may = sited-at t h p n q (slice_get t.sites n) refl may
sited-call t h None (Some n) q may = absurd may
sited-call t h (Some p) None q may = absurd may

-- the site of each activation fits its procedure
pub sited-activation : (t : SiteTable) (h : List Event) (a : ℕ) (x : Activation) → IsPortHistory t h → numbered (activations h) a ≡ Some x → SitedAs t x.site x.procedure
sited-activation t [] a x is at = absurd (cc)
sited-activation t (Call b p s q ∷ h) a x is at =
    elim (numbered-either (record { parent = p; site = s; procedure = q }) (activations h) a x at) [
      | inl new ↦ let P : Activation → Type 0 = λ z. SitedAs t z.site z.procedure in subst P (sym new.1) (sited-call t h p s q is.1.3)
      | inr old ↦ sited-activation t h a x is.0 old
    ]
sited-activation t (Exit b ∷ h) a x is at = sited-activation t h a x is.0 at
sited-activation t (Redo b ∷ h) a x is at = sited-activation t h a x is.0 at
sited-activation t (Fail b ∷ h) a x is at = sited-activation t h a x is.0 at
sited-activation t (Excp b ∷ h) a x is at = sited-activation t h a x is.0 at
sited-activation t (Alloc b w ∷ h) a x is at = sited-activation t h a x is.0 at

-- so does the site of each link
pub sited-link : (t : SiteTable) (h : List Event) (j : ℕ) (x : Leading) → IsPortHistory t h → slice_get (links t.main (placed_of t.main h)) j ≡ Some x → SitedAs t x.link.site x.link.procedure
sited-link t h j x is at =
    let m = t.main in
    elim ((are-right m (activations h) (are-calls t h is)).used j x at) [
      | inl root ↦ λ n z s there. absurd (let e : None ≡ Some n = ap (λ (w : Leading). w.link.site) (sym root) ∙ s in cc)
      | inr old ↦
          let below = numbered-below (placed_of m h) old.0 old.1 old.2 in
          let act = numbered-there (activations h) old.0 (omega (arith, length-placed m (activations h))) in
          let both = numbered-placed m (activations h) old.0 act.0 act.1 in
          let same : both.0 ≡ old.1 = cc (both.1, old.2) in
          let y : x.link ≡ old.1.link = ap (λ (w : Leading). w.link) old.3 in
          let site : x.link.site ≡ act.0.site = ap (λ (l : Link). l.site) y ∙ ap (λ (w : Placed). w.link.site) (sym same) ∙ both.2.site in
          let procedure : x.link.procedure ≡ act.0.procedure = ap (λ (l : Link). l.procedure) y ∙ ap (λ (w : Placed). w.link.procedure) (sym same) ∙ both.2.procedure in
          let P : Option ℕ → Type 0 = λ s. SitedAs t s act.0.procedure in
          let Q : ℕ → Type 0 = λ q. SitedAs t x.link.site q in
          subst Q (sym procedure) (subst P (sym site) (sited-activation t h old.0 act.0 is act.1))
    ]
