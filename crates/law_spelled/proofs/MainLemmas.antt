-- The predicate that is called `main` in an accepted program is the one with the io states, since its name is declared once.
use Rattle.std.proofs.Common.{◌≡◌, refl, sym, ℕ, suc, ◌<◌, Bool, true, false, cond, ◌&&◌, ◌||◌, List, [], ◌∷◌, ◌++◌, length, map, Option, Some, None, Ok, Err, arith}
use Rattle.std.specs.Prelude.{codes, is_none}
use Rattle.std.specs.Str.{bytes_eq}
use Rattle.std.proofs.lemmas.Slice.Eq.{bytes_eq-Decides}
use Rattle.md_hlds.specs.declared.types.Mode.{Mode}
use Rattle.md_hlds.specs.Hlds.{Hlds, HldsType, Procedure, same_qualifier, is_called, find_procedure, procedure_called}
use Rattle.md_hlds.specs.Run.{main_name}
use Rattle.md_inst.specs.declared.fault.ModeFault.{ModeFault}
use Rattle.md_inst.specs.Verdict.{Verdict, ◌>>◌, fault_unless}
use Rattle.md_modes.specs.Declarations as declarations
use Rattle.md_modes.specs.Modes.{are_main_args, is_main, has_main, clauses, fault_of, mode_fault}
use Rattle.md_reader.specs.Duplicates.{Declared, same_declared, is_among, first_second, declared_procedure, earlier, second_procedure, duplicate}

-- ---- no fault of modes, and nothing declared twice

later : (v w : Verdict (Unit {0})) → fault_of (v >> w) ≡ None → fault_of w ≡ None
later (Ok u) w h = h
later (Err e) w h = absurd (cc)

no_fault : (b : Bool) (e : ModeFault) → fault_of (fault_unless b e) ≡ None → b ≡ true
no_fault true e h = refl
no_fault false e h = absurd (cc)

has_main_accepted : (s : Hlds) → mode_fault s ≡ None → has_main s.procedures ≡ true
unfolding mode_fault
has_main_accepted s h =
    no_fault (has_main s.procedures) _
    (later (declarations.families s.types s.types >> declarations.procedures s.types s.procedures >> clauses s s.procedures) _ h)

second_none : (a b : Option ℕ) → earlier a b ≡ None → b ≡ None
second_none None b is = is
second_none (Some a) None is = refl
second_none (Some a) (Some b) is = absurd (cc)

procedures_once : (s : Hlds) → duplicate s ≡ None → first_second [] (map declared_procedure s.procedures) ≡ None
unfolding duplicate second_procedure
procedures_once s once = second_none _ _ (second_none _ _ once)

-- ---- names

both : (a b : Bool) → (a && b) ≡ true → (a ≡ true) × (b ≡ true)
both true b is = (refl, is)
both false b is = absurd (cc)

no_qualifier : (q : Option (List ℕ)) → is_none q ≡ true → q ≡ None
no_qualifier None is = refl
no_qualifier (Some m) is = absurd (cc)

same_as_none : (q : Option (List ℕ)) → same_qualifier None q ≡ true → q ≡ None
same_as_none None is = refl
same_as_none (Some m) is = absurd (cc)

-- the predicate's name is `main`
pub record IsNamedMain (p : Procedure) : Type 0 where
  pub qualifier : p.qualifier ≡ None
  pub name : p.name ≡ codes "main"

named_by_call : (p : Procedure) → is_called main_name p ≡ true → IsNamedMain p
named_by_call p is =
    let b = both (same_qualifier None p.qualifier) (bytes_eq main_name.name p.name) is in
    record { qualifier = same_as_none p.qualifier b.0; name = sym ((bytes_eq-Decides main_name.name p.name).0 b.1) }

pub named_by_main : (p : Procedure) → is_main p ≡ true → IsNamedMain p
named_by_main p is =
    let b = both (is_none p.qualifier && bytes_eq p.name (codes "main")) _ is in
    let c = both (is_none p.qualifier) (bytes_eq p.name (codes "main")) b.0 in
    record { qualifier = no_qualifier p.qualifier c.0; name = (bytes_eq-Decides p.name (codes "main")).0 c.1 }

pub called_by_name : (p : Procedure) → IsNamedMain p → is_called main_name p ≡ true
called_by_name p n = rw (n.qualifier, n.name) refl

args_by_main : (p : Procedure) → is_main p ≡ true → are_main_args p.args ≡ true
args_by_main p is =
    let b = both (is_none p.qualifier && bytes_eq p.name (codes "main")) _ is in
    (both (are_main_args p.args) _ b.1).0

some_args : (args : List (HldsType × Mode)) → are_main_args args ≡ true → 0 < length args
some_args [] is = absurd (cc)
some_args (a ∷ args) is = omega arith

pub main_has_args : (p : Procedure) → is_main p ≡ true → 0 < length p.args
main_has_args p is = some_args p.args (args_by_main p is)

same_mains : (p q : Procedure) → IsNamedMain p → IsNamedMain q → same_declared (declared_procedure q) (declared_procedure p) ≡ true
same_mains p q a b = rw (a.qualifier, a.name, b.qualifier, b.name) refl

-- ---- one declaration of a name

among_end : (d e : Declared) (seen : List Declared) → same_declared d e ≡ true → is_among d (seen ++ e ∷ []) ≡ true
among_end d e [] same = rw same refl
among_end d e (x ∷ seen) same = by (same_declared d x) (among_end d e seen same)
  where
    by : (b : Bool) → is_among d (seen ++ e ∷ []) ≡ true → cond b true (is_among d (seen ++ e ∷ [])) ≡ true
    by true more = refl
    by false more = more

among_more : (d e : Declared) (seen : List Declared) → is_among d seen ≡ true → is_among d (seen ++ e ∷ []) ≡ true
among_more d e [] is = absurd (cc)
among_more d e (x ∷ seen) is = by (same_declared d x) is (λ more. among_more d e seen more)
  where
    by : (b : Bool) → cond b true (is_among d seen) ≡ true → (is_among d seen ≡ true → is_among d (seen ++ e ∷ []) ≡ true) → cond b true (is_among d (seen ++ e ∷ [])) ≡ true
    by true is more = refl
    by false is more = more is

first_choice : (b : Bool) (line : ℕ) (rest : Option ℕ) → cond b (Some line) rest ≡ None → (b ≡ false) × (rest ≡ None)
first_choice true line rest is = absurd (cc)
first_choice false line rest is = (refl, is)

-- a main that was declared before is not declared again
no_second_main : (seen : List Declared) (ps : List Procedure) → first_second seen (map declared_procedure ps) ≡ None
    → ((p : Procedure) → IsNamedMain p → is_among (declared_procedure p) seen ≡ true) → has_main ps ≡ true → ⊥
no_second_main seen [] once before is = absurd (cc)
no_second_main seen (p ∷ ps) once before is =
    let c = first_choice (is_among (declared_procedure p) seen) p.line _ once in
    by (is_main p) refl is (λ main. let there = before p (named_by_main p main) in let not_there = c.0 in absurd (cc))
    (λ rest. no_second_main (seen ++ declared_procedure p ∷ []) ps c.1 (λ q named. among_more (declared_procedure q) (declared_procedure p) seen (before q named)) rest)
  where
    by : (b : Bool) → is_main p ≡ b → (b || has_main ps) ≡ true → (is_main p ≡ true → ⊥) → (has_main ps ≡ true → ⊥) → ⊥
    by true main is here rest = here main
    by false main is here rest = rest is

-- ---- the predicate that is called main

-- the predicate that a search finds, which is a main
record FindsMain (n : ℕ) (ps : List Procedure) : Type 0 where
  found : ℕ × Procedure
  is : find_procedure main_name n ps ≡ Some found
  main : is_main found.1 ≡ true

finds_main : (n : ℕ) (seen : List Declared) (ps : List Procedure) → first_second seen (map declared_procedure ps) ≡ None → has_main ps ≡ true → FindsMain n ps
finds_main n seen [] once is = absurd (cc)
finds_main n seen (p ∷ ps) once is =
    let c = first_choice (is_among (declared_procedure p) seen) p.line _ once in
    by (is_called main_name p) (is_main p) refl refl is
    (λ named rest. no_second_main (seen ++ declared_procedure p ∷ []) ps c.1 (λ q also. among_end (declared_procedure q) (declared_procedure p) seen (same_mains p q named also)) rest)
    (λ rest. finds_main (suc n) (seen ++ declared_procedure p ∷ []) ps c.1 rest)
  where
    by : (called main : Bool) → is_called main_name p ≡ called → is_main p ≡ main → (main || has_main ps) ≡ true
        → (IsNamedMain p → has_main ps ≡ true → ⊥) → (has_main ps ≡ true → FindsMain (suc n) ps) → FindsMain n (p ∷ ps)
    by true true called main is second later = record { found = (n, p); is = rw called refl; main = main }
    by true false called main is second later = absurd (second (named_by_call p called) is)
    by false true called main is second later = absurd (let other = called_by_name p (named_by_main p main) in cc)
    by false false called main is second later = let f = later is in record { found = f.found; is = rw called f.is; main = f.main }

-- in a program without faults of modes, in which nothing is declared twice, main is called by its name
pub main_called : (s : Hlds) → duplicate s ≡ None → mode_fault s ≡ None → (m : ℕ × Procedure) × (procedure_called s main_name ≡ Some m) × (is_main m.1 ≡ true)
main_called s once modes = let f = finds_main 0 [] s.procedures (procedures_once s once) (has_main_accepted s modes) in (f.found, f.is, f.main)
