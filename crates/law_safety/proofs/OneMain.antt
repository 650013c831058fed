-- The predicate that is called `main` is the one that the mode rules ask for.
use Rattle.std.proofs.Common.{◌≡◌, refl, sym, ap, ◌∙◌, subst, ℕ, suc, Bool, true, false, ◌&&◌, ◌||◌, cond, List, [], ◌∷◌, ◌++◌, map, Option, Some, None, codes, is_none}
use Rattle.std.proofs.lemmas.Bool.{and_parts, false≢true, true≢false}
use Rattle.std.proofs.lemmas.Slice.Eq.{bytes_eq-Decides}
use Rattle.std.specs.Str.{bytes_eq}
use Rattle.md_hlds.specs.Hlds.{Procedure, Hlds, same_qualifier, is_called, find_procedure, procedure_called}
use Rattle.md_hlds.specs.Run.{main_name}
use Rattle.md_reader.specs.Duplicates as second
use Rattle.md_reader.specs.Duplicates.{same_declared, is_among, first_second, declared_procedure, earlier, second_procedure, duplicate}
use Rattle.md_modes.specs.Modes.{are_main_args, is_main, has_main}
use Rattle.md_inst.specs.HldsTypes.{same_det}
use Rattle.md_hlds.specs.declared.types.Det.TheVariants as det
use Rattle.law_safety.proofs.SameTypes.{same_bytes_are}

yet_none : (a b : Option ℕ) → earlier a b ≡ None → b ≡ None
yet_none None b h = h
yet_none (Some x) None h = absurd (cc h)
yet_none (Some x) (Some y) h = absurd (cc h)

no_second : (l : Hlds) → duplicate l ≡ None → first_second [] (map declared_procedure l.procedures) ≡ None
unfolding duplicate second_procedure
no_second l h = yet_none _ _ (yet_none _ _ h)

pub seen_not : (b : Bool) (n : ℕ) (o : Option ℕ) → cond b (Some n) o ≡ None → (b ≡ false) × (o ≡ None)
seen_not true n o h = absurd (cc h)
seen_not false n o h = (refl, h)

among_not : (a b : Bool) → cond a true b ≡ false → (a ≡ false) × (b ≡ false)
among_not true b h = absurd (true≢false h)
among_not false b h = (refl, h)

pub not_before : (d e : second.Declared) (es : List second.Declared) → is_among d (es ++ e ∷ []) ≡ false → (is_among d es ≡ false) × (same_declared d e ≡ false)
not_before d e [] h = (refl, (among_not (same_declared d e) false h).0)
not_before d e (f ∷ es) h =
    let both = among_not (same_declared d f) (is_among d (es ++ e ∷ [])) h in
    let rest = not_before d e es both.1 in
    (ap (λ (b : Bool). cond b true (is_among d es)) both.0 ∙ rest.0, rest.1)

unqualified : (q : Option (List ℕ)) → same_qualifier None q ≡ true → q ≡ None
unqualified None h = refl
unqualified (Some m) h = absurd (false≢true h)

called_main : (p : Procedure) → is_called main_name p ≡ true → (p.qualifier ≡ None) × (p.name ≡ codes "main")
called_main p h =
    let both = and_parts (same_qualifier None p.qualifier) (bytes_eq (codes "main") p.name) h in
    (unqualified p.qualifier both.0, sym (same_bytes_are (codes "main") p.name both.1))

none_is : (q : Option (List ℕ)) → is_none q ≡ true → q ≡ None
none_is None h = refl
none_is (Some m) h = absurd (false≢true h)

main_called : (p : Procedure) → is_main p ≡ true → (p.qualifier ≡ None) × (p.name ≡ codes "main")
main_called p h =
    let a = and_parts (is_none p.qualifier && bytes_eq p.name (codes "main")) (are_main_args p.args && same_det p.det det.Det) h in
    let b = and_parts (is_none p.qualifier) (bytes_eq p.name (codes "main")) a.0 in
    (none_is p.qualifier b.0, same_bytes_are p.name (codes "main") b.1)

same_when : (a b : List ℕ) → a ≡ b → bytes_eq a b ≡ true
same_when a b e = (bytes_eq-Decides a b).1 e

both_main : (p q : Procedure) → (p.qualifier ≡ None) × (p.name ≡ codes "main") → (q.qualifier ≡ None) × (q.name ≡ codes "main") → same_declared (declared_procedure p) (declared_procedure q) ≡ true
both_main p q a b = rw (a.0, b.0, same_when p.name q.name (a.1 ∙ sym b.1)) refl

-- a list that has main's declaration
abbrev HasMain : List second.Declared → Type 0
HasMain seen = (q : Procedure) → (q.qualifier ≡ None) × (q.name ≡ codes "main") → is_among (declared_procedure q) seen ≡ true

by_main : (b c : Bool) → (b || c) ≡ true → (b ≡ true → ⊥) → (c ≡ true → ⊥) → ⊥
by_main true c h f g = f refl
by_main false c h f g = g h

among_first : (a b : Bool) → a ≡ true → cond a true b ≡ true
among_first a b h = rw h refl

among_other : (a b : Bool) → b ≡ true → cond a true b ≡ true
among_other true b h = refl
among_other false b h = h

among_left : (d : second.Declared) (es fs : List second.Declared) → is_among d es ≡ true → is_among d (es ++ fs) ≡ true
among_left d [] fs h = absurd (false≢true h)
among_left d (e ∷ es) fs h = step (same_declared d e) (is_among d es) (is_among d (es ++ fs)) h (λ g. among_left d es fs g)
  where
    step : (a b c : Bool) → cond a true b ≡ true → (b ≡ true → c ≡ true) → cond a true c ≡ true
    step true b c h f = refl
    step false b c h f = f h

pub among_end : (d e : second.Declared) (es : List second.Declared) → same_declared d e ≡ true → is_among d (es ++ e ∷ []) ≡ true
among_end d e [] h = among_first (same_declared d e) false h
among_end d e (f ∷ es) h = among_other (same_declared d f) (is_among d (es ++ e ∷ [])) (among_end d e es h)

-- after one that is called main no other is
none_later : (seen : List second.Declared) (ps : List Procedure) → HasMain seen → first_second seen (map declared_procedure ps) ≡ None → has_main ps ≡ true → ⊥
none_later seen [] among once h = false≢true h
none_later seen (q ∷ ps) among once h =
    let o = seen_not (is_among (declared_procedure q) seen) q.line _ once in
    by_main (is_main q) (has_main ps) h
    (λ m. false≢true (sym o.0 ∙ among q (main_called q m)))
    (λ g. none_later (seen ++ declared_procedure q ∷ []) ps (λ r is. among_left (declared_procedure r) seen (declared_procedure q ∷ []) (among r is)) o.1 g)

main_or : (b c : Bool) → (b || c) ≡ true → (c ≡ true → ⊥) → b ≡ true
main_or true c h g = refl
main_or false c h g = absurd (g h)

main_step : (n : ℕ) (p : Procedure) (m : ℕ × Procedure) (b : Bool) (o : Option (ℕ × Procedure)) → (b ≡ true → is_main p ≡ true) → (b ≡ false → o ≡ Some m → is_main m.1 ≡ true)
    → cond b (Some (n, p)) o ≡ Some m → is_main m.1 ≡ true
main_step n p m true o f g h =
    let is : ◌≡◌ {A = ℕ × Procedure} (n, p) m = cc h in
    subst (λ (z : ℕ × Procedure). is_main z.1 ≡ true) is (f refl)
main_step n p m false o f g h = g refl h

later_main : (p : Procedure) (ps : List Procedure) → is_called main_name p ≡ false → has_main (p ∷ ps) ≡ true → has_main ps ≡ true
later_main p ps not_called h = main_other (is_main p) (has_main ps) h (λ m. false≢true (sym not_called ∙ called p (main_called p m)))
  where
    main_other : (b c : Bool) → (b || c) ≡ true → (b ≡ true → ⊥) → c ≡ true
    main_other true c h g = absurd (g refl)
    main_other false c h g = h

    called : (p : Procedure) → (p.qualifier ≡ None) × (p.name ≡ codes "main") → is_called main_name p ≡ true
    called p a = rw (a.0, same_when (codes "main") p.name (sym a.1)) refl

found_main : (n : ℕ) (seen : List second.Declared) (ps : List Procedure) (m : ℕ × Procedure) → first_second seen (map declared_procedure ps) ≡ None → has_main ps ≡ true
    → find_procedure main_name n ps ≡ Some m → is_main m.1 ≡ true
found_main n seen [] m once h found = absurd (cc found)
found_main n seen (p ∷ ps) m once h found =
    let o = seen_not (is_among (declared_procedure p) seen) p.line _ once in
    main_step n p m (is_called main_name p) (find_procedure main_name (suc n) ps)
    (λ called. main_or (is_main p) (has_main ps) h
    (λ g. none_later (seen ++ declared_procedure p ∷ []) ps (λ r is. among_end (declared_procedure r) (declared_procedure p) seen (both_main r p is (called_main p called))) o.1 g))
    (λ other found. found_main (suc n) (seen ++ declared_procedure p ∷ []) ps m o.1 (later_main p ps other h) found)
    found

pub one_main : (s : Hlds) (m : ℕ × Procedure) → duplicate s ≡ None → has_main s.procedures ≡ true → procedure_called s main_name ≡ Some m → is_main m.1 ≡ true
one_main s m once h found = found_main 0 [] s.procedures m (no_second s once) h found

find_step : (n : ℕ) (p : Procedure) (b : Bool) (o : Option (ℕ × Procedure)) → (b ≡ false → (m : ℕ × Procedure) × (o ≡ Some m)) → (m : ℕ × Procedure) × (cond b (Some (n, p)) o ≡ Some m)
find_step n p true o h = ((n, p), refl)
find_step n p false o h = h refl

find_main : (n : ℕ) (ps : List Procedure) → has_main ps ≡ true → (m : ℕ × Procedure) × (find_procedure main_name n ps ≡ Some m)
find_main n [] h = absurd (false≢true h)
find_main n (p ∷ ps) h = find_step n p (is_called main_name p) (find_procedure main_name (suc n) ps) (λ other. find_main (suc n) ps (later_main p ps other h))

-- a program with a main has a procedure of that name
pub main_there : (s : Hlds) → has_main s.procedures ≡ true → (m : ℕ × Procedure) × (procedure_called s main_name ≡ Some m)
main_there s h = find_main 0 s.procedures h
