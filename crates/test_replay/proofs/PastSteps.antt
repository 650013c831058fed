-- What the rows of the events so far tell of the next event, and the rows after it.
use Rattle.std.proofs.Common.{ℕ, ◌≡◌, ◌<◌, ◌↔◌, inl, inr, Bool, false, if◌then◌else◌, ◌==◌, List, [], ◌∷◌, ◌++◌, length, map, set, All, IfSome, IsSomeAnd, MatchOption, Option, Some, None, slice_get, refl, sym, ap, ◌∙◌, subst, arith}
use Rattle.std.specs.Prelude.{IsTrue}
use Rattle.std.specs.Option.{option_map, option_and_then}
use Rattle.std.proofs.lemmas.Bool.{eq-eqb, ne_eqb}
use Rattle.std.proofs.lemmas.Bool.Decides.{eqb_tells}
use Rattle.std.proofs.lemmas.List.{length-append, length-map, length-set}
use Rattle.std.proofs.lemmas.Option.{slice_get-map, get_or_from_slice_get}
use Rattle.md_static.specs.declared.entry.Site.{Site}
use Rattle.md_static.specs.Sound.{IsSound}
use Rattle.md_static.specs.Tables.{Static, call_site, callee_of, site_table}
use Rattle.md_trace.specs.declared.event.Event.{Event}
use Rattle.md_trace.specs.declared.event.Event.TheVariants.{Call, Exit, Redo, Fail, Excp, Alloc}
use Rattle.md_trace.specs.Activation.{Activation, activations, numbered, parent_of, procedure_of}
use Rattle.md_trace.specs.Laws.{procedure-below}
use Rattle.md_trace.specs.PortHistory.{CallSite, SiteTable, IsSiteTable, MayCallAt, MayCall, MayFollow, current, has_exited, IsPortHistory}
use Rattle.md_trace.proofs.Lists.{get-within, get-there, get-set-same, get-set-other, get-push-old, get-push-new}
use Rattle.md_trace.proofs.Numbered.{numbered-below, numbered-either, numbered-there}
use Rattle.test_replay.specs.declared.history.Row.{Row}
use Rattle.test_replay.specs.Past.{IsPast, Sited}
use Rattle.test_replay.proofs.Handing.{running, returned}

abbrev pub row_of : Option ℕ → ℕ → Bool → Row
row_of p q b = record { parent = p; procedure = q; exited = b }

-- what a row tells of its activation
pub record RowTells (h : List Event) (a : ℕ) (row : Row) : Type 0 where
  pub parent : parent_of (activations h) a ≡ row.parent
  pub procedure : procedure_of (activations h) a ≡ Some row.procedure
  pub exited : has_exited h a ≡ row.exited

pub row-tells : (rows : List Row) (now : Option ℕ) (h : List Event) (a : ℕ) (row : Row) → IsPast rows now h → slice_get rows a ≡ Some row → RowTells h a row
row-tells rows now h a row past is =
    let x = numbered-there (activations h) a (let below = get-within rows a row is in omega (arith, below, past.each)) in
    let e : Some (row_of x.0.parent x.0.procedure (has_exited h a)) ≡ Some row = sym (past.right a x.0 x.1) ∙ is in
    let same : row_of x.0.parent x.0.procedure (has_exited h a) ≡ row = cc in
    record {
      parent = ap (option_and_then (λ (y : Activation). y.parent)) x.1 ∙ ap (λ (r : Row). r.parent) same;
      procedure = ap (option_map (λ (y : Activation). y.procedure)) x.1 ∙ ap (λ (r : Row). Some r.procedure) same;
      exited = ap (λ (r : Row). r.exited) same;
    }

-- an activation without a row was not called
pub no-row : (rows : List Row) (now : Option ℕ) (h : List Event) (a : ℕ) → IsPast rows now h → slice_get rows a ≡ None → a < length (activations h) → ⊥
no-row rows now h a past is below = let x = get-there rows a (omega (arith, below, past.each)) in let e : None ≡ Some x.0 = sym is ∙ x.1 in absurd (cc)

-- a history without calls is empty
pub no-calls : (t : SiteTable) (h : List Event) → IsPortHistory t h → length (activations h) ≡ 0 → h ≡ []
no-calls t [] is none = refl
no-calls t (Call a p s q ∷ h) is none = absurd (omega (arith, none))
no-calls t (Exit a ∷ h) is none = absurd (let below = running t h a is.0 is.1 in omega (arith, below, none))
no-calls t (Redo a ∷ h) is none = absurd (let below = returned t h a is.0 is.1.0 in omega (arith, below, none))
no-calls t (Fail a ∷ h) is none = absurd (let below = running t h a is.0 is.1 in omega (arith, below, none))
no-calls t (Excp a ∷ h) is none = absurd (let below = running t h a is.0 is.1 in omega (arith, below, none))
no-calls t (Alloc a w ∷ h) is none = absurd (let below = running t h a is.0 is.1 in omega (arith, below, none))

-- the first call
pub begins : (t : SiteTable) (rows : List Row) (now : Option ℕ) (h : List Event) (q : ℕ) (b : Bool) → IsPortHistory t h → IsPast rows now h → (IsTrue b ↔ ((length rows ≡ 0) × (q ≡ t.main))) → IsTrue b ↔ MayCall t h None None q
begins t rows now h q b is past told = (
  λ yes. (no-calls t h is (sym past.each ∙ (told.0 yes).0), (told.0 yes).1),
  λ may. told.1 (past.each ∙ ap (λ z. length (activations z)) may.0, may.1),
)

-- a call site of the tables is that of the site table
site-by : (t : SiteTable) (s q owner : ℕ) (procs : ℕ) (proc : Option ℕ) (o : Option Site) → t.procedures ≡ procs → proc ≡ Some owner →
    IsSomeAnd o (λ x. (owner ≡ x.owner) × MatchOption (callee_of x.kind) (q < procs) (λ c. q ≡ c)) ↔ IsSomeAnd (option_map call_site o) (MayCallAt t proc q)
site-by t s q owner procs proc None same is = (λ may. may, λ may. may)
site-by t s q owner procs proc (Some x) same is =
    let P : ℕ → Type 0 = λ n. MatchOption (callee_of x.kind) (q < n) (λ c. q ≡ c) in (
      λ may. record { owned = is ∙ ap Some may.0; callee = subst P (sym same) may.1 },
      λ may. ((let e : Some owner ≡ Some x.owner = sym is ∙ may.owned in cc), subst P same may.callee),
    )

pub calls-at : (statics : Static) (m : ℕ) (h : List Event) (p s q owner : ℕ) (b : Bool) → procedure_of (activations h) p ≡ Some owner → (IsTrue b ↔ Sited statics owner s q) → IsTrue b ↔ MayCall (site_table statics m) h (Some p) (Some s) q
calls-at statics m h p s q owner b proc told =
    let t = site_table statics m in
    let both = site-by t s q owner (length statics.procs) (procedure_of (activations h) p) (slice_get statics.sites s) refl proc in
    let P : Option CallSite → Type 0 = λ o. IsSomeAnd o (MayCallAt t (procedure_of (activations h) p) q) in
    let e = slice_get-map call_site statics.sites s in
    (λ yes. subst P (sym e) (both.0 (told.0 yes)), λ may. told.1 (both.1 (subst P e may)))

-- who calls was called
some-owner : (t : SiteTable) (h : List Event) (p q : ℕ) (o : Option CallSite) → IsSomeAnd o (MayCallAt t (procedure_of (activations h) p) q) → p < length (activations h)
some-owner t h p q None may = absurd may
some-owner t h p q (Some x) may = procedure-below (activations h) p x.owner may.owned

pub caller-called : (t : SiteTable) (h : List Event) (p s q : ℕ) → MayCall t h (Some p) (Some s) q → p < length (activations h)
caller-called t h p s q may = some-owner t h p q (slice_get t.sites s) may

-- a call at these
pub at-both : (t : SiteTable) (h : List Event) (p s p2 s2 : Option ℕ) (q : ℕ) (b : Bool) → p ≡ p2 → s ≡ s2 → (IsTrue b ↔ MayCall t h p2 s2 q) → IsTrue b ↔ MayCall t h p s q
at-both t h p s p2 s2 q b parent site told =
    let P : Option ℕ → Type 0 = λ o. IsTrue b ↔ MayCall t h o s q in
    let Q : Option ℕ → Type 0 = λ o. IsTrue b ↔ MayCall t h p2 o q in
    subst P (sym parent) (subst Q (sym site) told)

-- the rows after a call
pub past-call : (t : SiteTable) (rows more : List Row) (now : Option ℕ) (h : List Event) (a : ℕ) (p s : Option ℕ) (q : ℕ) → IsPast rows now h → MayFollow t h (Call a p s q) → more ≡ rows ++ row_of p q false ∷ [] → IsPast more (Some a) (Call a p s q ∷ h)
past-call t rows more now h a p s q past may is =
    let new = row_of p q false in
    record {
      each = omega (arith, ap length is, length-append rows (new ∷ []), past.each);
      right = λ b x at. elim (numbered-either (record { parent = p; site = s; procedure = q }) (activations h) b x at) [
        | inl last ↦
            let read : slice_get more b ≡ Some new = ap (λ rs. slice_get rs b) is ∙ ap (slice_get (rows ++ new ∷ [])) (last.0 ∙ sym past.each) ∙ get-push-new rows new in
            let out : has_exited (Call a p s q ∷ h) b ≡ false = rw (eq-eqb b a (last.0 ∙ sym may.0)) in
            read ∙ ap (λ (y : Activation). Some (row_of y.parent y.procedure false)) (sym last.1) ∙ ap (λ e. Some (row_of x.parent x.procedure e)) (sym out)
        | inr old ↦
            let below = numbered-below (activations h) b x old in
            let out : has_exited (Call a p s q ∷ h) b ≡ has_exited h b = rw (ne_eqb b a (λ e. absurd (omega (arith, e, below, may.0)))) in
            ap (λ rs. slice_get rs b) is ∙ get-push-old rows new b (omega (arith, below, past.each)) ∙ past.right b x old ∙ ap (λ e. Some (row_of x.parent x.procedure e)) (sym out)
      ];
      now_is = refl;
    }

-- the rows after an event of one activation that is no call
pub past-set : (rows more : List Row) (now : Option ℕ) (h : List Event) (e : Event) (a : ℕ) (b : Bool) (row : Row) (next : Option ℕ) → IsPast rows now h → slice_get rows a ≡ Some row → more ≡ set rows a (record row { exited = b }) →
    activations (e ∷ h) ≡ activations h → ((x : ℕ) → has_exited (e ∷ h) x ≡ (if x == a then b else has_exited h x)) → next ≡ current (e ∷ h) → IsPast more next (e ∷ h)
past-set rows more now h e a b row next past there is same out next_is =
    let new : Row = record row { exited = b } in
    record {
      each = ap length is ∙ length-set rows a new ∙ past.each ∙ ap length (sym same);
      right = λ c x at.
          let old : slice_get rows c ≡ Some (row_of x.parent x.procedure (has_exited h c)) = past.right c x (ap (λ xs. numbered xs c) (sym same) ∙ at) in
          elim (eqb_tells c a) [
            | inl here ↦
                let exited : has_exited (e ∷ h) c ≡ b = out c ∙ (rw here.0) in
                let both : Some row ≡ Some (row_of x.parent x.procedure (has_exited h c)) = sym there ∙ ap (slice_get rows) (sym here.1) ∙ old in
                let row_is : row ≡ row_of x.parent x.procedure (has_exited h c) = cc in
                ap (λ rs. slice_get rs c) is ∙ ap (slice_get (set rows a new)) here.1 ∙ get-set-same rows a new (get-within rows a row there)
                ∙ ap (λ (r : Row). Some (row_of r.parent r.procedure b)) row_is ∙ ap (λ z. Some (row_of x.parent x.procedure z)) (sym exited)
            | inr other ↦
                let exited : has_exited (e ∷ h) c ≡ has_exited h c = out c ∙ (rw other.0) in
                ap (λ rs. slice_get rs c) is ∙ get-set-other rows a c new other.1 ∙ old ∙ ap (λ z. Some (row_of x.parent x.procedure z)) (sym exited)
          ];
      now_is = next_is;
    }

-- the site table of sound tables
all-sites : (P : CallSite → Type 0) (xs : List Site) → All (λ x. P (call_site x)) xs → All P (map call_site xs)
all-sites P xs all = λ k d below.
    let x = get-there xs k (omega (arith, length-map xs call_site)) in
    let at : slice_get (map call_site xs) k ≡ Some (call_site x.0) = slice_get-map call_site xs k ∙ ap (option_map call_site) x.1 in
    let good = subst (λ z. P (call_site z)) (get_or_from_slice_get xs k x.0 x.0 x.1) (all k x.0 (get-within xs k x.0 x.1)) in
    subst P (sym (get_or_from_slice_get (map call_site xs) k (call_site x.0) d at)) good

pub sound-table : (s : Static) (m : ℕ) → IsSound s → m < length s.procs → IsSiteTable (site_table s m)
sound-table s m sound main =
    record {
      main_is_one = main;
      owners_are = all-sites (λ (x : CallSite). x.owner < length s.procs) s.sites sound.owners_there;
      callees_are = all-sites (λ (x : CallSite). IfSome x.callee (λ q. q < length s.procs)) s.sites sound.callees_there;
    }
