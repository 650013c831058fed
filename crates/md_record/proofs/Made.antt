-- Which activation made a context, and what the call site of an activation says of its link.
use Rattle.std.proofs.Common.{ℕ, zero, suc, ◌≡◌, ◌<◌, ◌≤◌, ◌⊎◌, inl, inr, List, [], ◌∷◌, length, MatchOption, IsSomeAnd, Option, Some, None, slice_get, refl, sym, ap, ◌∙◌, subst, arith}
use Rattle.std.specs.Option.{option_map}
use Rattle.std.proofs.lemmas.Bool.Decides.{eqb_tells}
use Rattle.std.proofs.lemmas.List.{length-append}
use Rattle.md_trace.specs.declared.event.Event.{Event}
use Rattle.md_trace.specs.declared.event.Event.TheVariants.{Call, Exit, Redo, Fail, Excp, Alloc}
use Rattle.md_trace.specs.Activation.{Activation, activations, numbered, procedure_of}
use Rattle.md_trace.specs.PortHistory.{SiteTable, CallSite, MayCallAt, MayCall, current, IsPortHistory}
use Rattle.md_trace.specs.Context.{Link, Placed, contexts, link_of, place, placed, placed_of}
use Rattle.md_trace.specs.Links.{root_link}
use Rattle.md_trace.proofs.Chains.{IsBelow}
use Rattle.md_trace.proofs.Histories.{orderly}
use Rattle.md_trace.proofs.LinkFacts.{AreRight, AreCalls, IsCall, are-calls, are-right, contexts-more}
use Rattle.md_trace.proofs.Lists.{get-within, get-push-either}
use Rattle.md_trace.proofs.Numbered.{numbered-new, numbered-more, numbered-below, numbered-either, numbered-there}
use Rattle.md_trace.proofs.Placing.{length-placed, procedure_of-placed}
use Rattle.md_trace.proofs.Setwise.{newest}
use Rattle.md_record.proofs.LinkRows.{first-context}

-- an activation of procedure p, called by a context of a lower number, made context v
pub record Made (xs : List Placed) (v p : ℕ) : Type 0 where
  pub number : ℕ
  pub activation : Placed
  pub there : numbered xs number ≡ Some activation
  pub context_is : activation.context ≡ v
  pub procedure_is : activation.link.procedure ≡ p
  pub caller : ℕ
  pub caller_is : activation.link.caller ≡ Some caller
  pub below : caller < v

made-more : (x : Placed) (xs : List Placed) (v p : ℕ) → Made xs v p → Made (x ∷ xs) v p
made-more x xs v p old =
    record {
      number = old.number;
      activation = old.activation;
      there = numbered-more x xs old.number (numbered-below xs old.number old.activation old.there) ∙ old.there;
      context_is = old.context_is;
      procedure_is = old.procedure_is;
      caller = old.caller;
      caller_is = old.caller_is;
      below = old.below;
    }

-- the activation with these, in its context
abbrev placing : ℕ → List Activation → Option ℕ → Option ℕ → ℕ → Placed
placing m xs p s q = place m (placed m xs) p (link_of (placed m xs) (record { parent = p; site = s; procedure = q }))

-- a new context is made by a call from one that was there
made-new : (m v : ℕ) (xs : List Activation) (p s : Option ℕ) (q : ℕ) → AreRight m (placed m xs) → IsCall m xs p s q → (placing m xs p s q).context ≡ length (contexts m (placed m xs)) → v ≡ length (contexts m (placed m xs)) →
    Made (placing m xs p s q ∷ placed m xs) v q
made-new m v xs None None q r call new number = absurd (let some = get-within (contexts m (placed m xs)) 0 m (first-context m (placed m xs)) in omega (arith, new, some))
made-new m v xs (Some a) (Some s) q r call new number =
    let at = numbered-there (placed m xs) a (omega (arith, call, length-placed m xs)) in
    let x = placing m xs (Some a) (Some s) q in
    record {
      number = length (placed m xs);
      activation = x;
      there = numbered-new x (placed m xs);
      context_is = new ∙ sym number;
      procedure_is = refl;
      caller = at.0.context;
      caller_is = ap (option_map (λ (y : Placed). y.context)) at.1;
      below = (let within = get-within (contexts m (placed m xs)) at.0.context at.0.link.procedure (r.in_contexts a at.0 at.1) in omega (arith, within, number));
    }
made-new m v xs None (Some s) q r call new number = absurd call
made-new m v xs (Some a) None q r call new number = absurd call

-- each context is main's, or was made
pub made-by : (m v p : ℕ) (xs : List Activation) → AreCalls m xs → slice_get (contexts m (placed m xs)) v ≡ Some p → ((v ≡ 0) × (p ≡ m)) ⊎ Made (placed m xs) v p
made-by m zero p [] calls is = inl (refl, cc)
made-by m (suc v) p [] calls is = absurd (cc)
made-by m v p (x ∷ xs) calls is =
    let before = placed m xs in
    let y = placing m xs x.parent x.site x.procedure in
    let older : slice_get (contexts m before) v ≡ Some p → ((v ≡ 0) × (p ≡ m)) ⊎ Made (y ∷ before) v p =
    λ old. elim (made-by m v p xs calls.1 old) [ inl first ↦ inl first | inr made ↦ inr (made-more y before v p made) ] in
    elim (eqb_tells y.context (length (contexts m before))) [
      | inl e ↦ elim (get-push-either (contexts m before) y.link.procedure p v (rw e.0 at is)) [
        | inl new ↦
            let M : ℕ → Type 0 = λ q. Made (y ∷ before) v q in
            inr (subst M (sym new.1) (made-new m v xs x.parent x.site x.procedure (are-right m xs calls.1) calls.0 e.1 new.0))
        | inr old ↦ older old
      ]
      | inr e ↦ older (rw e.0 at is)
    ]

-- the call site of an activation y is one of its caller's procedure, and may call its procedure
pub record Sited (t : SiteTable) (xs : List Placed) (y : Placed) : Type 0 where
  pub caller : ℕ
  pub caller_is : y.link.caller ≡ Some caller
  pub site : ℕ
  pub site_is : y.link.site ≡ Some site
  pub row : CallSite
  pub row_is : slice_get t.sites site ≡ Some row
  pub owner : slice_get (contexts t.main xs) caller ≡ Some row.owner
  pub callee : MatchOption row.callee (y.link.procedure < t.procedures) (λ c. y.link.procedure ≡ c)

sited-more : (t : SiteTable) (x : Placed) (xs : List Placed) (y : Placed) → Sited t xs y → Sited t (x ∷ xs) y
sited-more t x xs y old =
    record {
      caller = old.caller;
      caller_is = old.caller_is;
      site = old.site;
      site_is = old.site_is;
      row = old.row;
      row_is = old.row_is;
      owner = contexts-more t.main x xs old.caller old.row.owner old.owner;
      callee = old.callee;
    }

site-row : (t : SiteTable) (P : CallSite → Type 0) (o : Option CallSite) → IsSomeAnd o P → (x : CallSite) × (o ≡ Some x) × P x
site-row t P None may = absurd may
site-row t P (Some x) may = (x, refl, may)

sited-new : (t : SiteTable) (h : List Event) (p s : Option ℕ) (q : ℕ) → IsPortHistory t h → p ≡ current h → MayCall t h p s q → ((newest t.main h p s q).link ≡ root_link t.main) ⊎ Sited t (placed_of t.main h) (newest t.main h p s q)
sited-new t h None None q is now may = let made : ℕ → Link = λ r. record { caller = None; site = None; procedure = r } in inl (ap made may.1)
sited-new t h (Some a) (Some s) q is now may =
    let m = t.main in
    let xs = placed_of m h in
    let O : Option ℕ → Type 0 = λ o. IsBelow o (length (activations h)) in
    let below : a < length (activations h) = subst O (sym now) (orderly t m h is).now in
    let at = numbered-there xs a (omega (arith, below, length-placed m (activations h))) in
    let x = site-row t (MayCallAt t (procedure_of (activations h) a) q) (slice_get t.sites s) may in
    let r = are-right m (activations h) (are-calls t h is) in
    let proc : procedure_of (activations h) a ≡ Some at.0.link.procedure = procedure_of-placed m (activations h) a at.0 at.1 in
    inr (record {
      caller = at.0.context;
      caller_is = ap (option_map (λ (y : Placed). y.context)) at.1;
      site = s;
      site_is = refl;
      row = x.0;
      row_is = x.1;
      owner = r.in_contexts a at.0 at.1 ∙ sym proc ∙ x.2.owned;
      callee = x.2.callee;
    })
sited-new t h None (Some s) q is now may = absurd may
sited-new t h (Some a) None q is now may = absurd may

-- each activation is main's, or is called at a site that may call it
pub sited-by : (t : SiteTable) (h : List Event) (b : ℕ) (y : Placed) → IsPortHistory t h → numbered (placed_of t.main h) b ≡ Some y → (y.link ≡ root_link t.main) ⊎ Sited t (placed_of t.main h) y
sited-by t [] b y is at = absurd (cc)
sited-by t (Call a p s q ∷ h) b y is at =
    let m = t.main in
    let x = newest m h p s q in
    elim (numbered-either x (placed_of m h) b y at) [
      | inl new ↦
          let P : Placed → Type 0 = λ z. (z.link ≡ root_link m) ⊎ Sited t (x ∷ placed_of m h) z in
          subst P (sym new.1) (elim (sited-new t h p s q is.0 is.1.2 is.1.3) [ inl root ↦ inl root | inr good ↦ inr (sited-more t x (placed_of m h) x good) ])
      | inr old ↦ elim (sited-by t h b y is.0 old) [ inl root ↦ inl root | inr good ↦ inr (sited-more t x (placed_of m h) y good) ]
    ]
sited-by t (Exit a ∷ h) b y is at = sited-by t h b y is.0 at
sited-by t (Redo a ∷ h) b y is at = sited-by t h b y is.0 at
sited-by t (Fail a ∷ h) b y is at = sited-by t h b y is.0 at
sited-by t (Excp a ∷ h) b y is at = sited-by t h b y is.0 at
sited-by t (Alloc a w ∷ h) b y is at = sited-by t h b y is.0 at

-- a history has at most 4,294,967,294 calls
pub few-calls : (t : SiteTable) (h : List Event) → IsPortHistory t h → length (activations h) ≤ 4294967294
few-calls t [] is = omega arith
few-calls t (Call a p s q ∷ h) is = omega (arith, is.1.1)
few-calls t (Exit a ∷ h) is = few-calls t h is.0
few-calls t (Redo a ∷ h) is = few-calls t h is.0
few-calls t (Fail a ∷ h) is = few-calls t h is.0
few-calls t (Excp a ∷ h) is = few-calls t h is.0
few-calls t (Alloc a w ∷ h) is = few-calls t h is.0

-- no more contexts than activations, and main's
pub contexts-few : (m : ℕ) (xs : List Placed) → length (contexts m xs) ≤ suc (length xs)
contexts-few m [] = omega arith
contexts-few m (x ∷ xs) =
    let rest = contexts-few m xs in
    elim (eqb_tells x.context (length (contexts m xs))) [
      | inl e ↦ rw e.0 (omega (arith, rest, length-append (contexts m xs) (x.link.procedure ∷ [])))
      | inr e ↦ rw e.0 (omega (arith, rest))
    ]
