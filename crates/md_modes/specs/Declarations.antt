-- The checks of declarations: of types, and of predicates.
use Rattle.std.specs.Prelude.{ℕ, Bool, true, false, not, ◌&&◌, List, [], ◌∷◌}
use Rattle.md_hlds.specs.declared.types.Mode.{Mode}
use Rattle.md_hlds.specs.declared.types.Mode.TheVariants.{In, Out, Di, Uo}
use Rattle.md_hlds.specs.Hlds.{HldsType, HldsTypes, world, named, closure, no_types, also_type, HldsFunctor, HldsTypeDef, Procedure}
use Rattle.md_inst.specs.declared.fault.ModeFault.TheVariants.{UnknownName, TypeClash}
use Rattle.md_inst.specs.Verdict.{Verdict, ◌>>◌, fine, fault_unless}
use Rattle.md_names.specs.Named.{is_type}

-- a type that is named is declared
abbrev pub is_declared : List HldsTypeDef → HldsType → Bool
is_declared ts (named name) = is_type name ts
is_declared ts t = true

abbrev pub are_declared : List HldsTypeDef → HldsTypes → Bool
are_declared ts no_types = true
are_declared ts (also_type u us) = is_declared ts u && are_declared ts us

-- so are those below a higher-order type
abbrev pub is_known : List HldsTypeDef → HldsType → Bool
is_known ts (closure us ms d) = are_declared ts us
is_known ts t = is_declared ts t

-- the modes of the io state are `di` and `uo`, those of any other type `in` and `out`
abbrev pub is_of_world : Mode → Bool
is_of_world In = false
is_of_world Out = false
is_of_world Di = true
is_of_world Uo = true

-- a type of no higher order, with a mode of its own
abbrev pub is_plain_pair : HldsType → Mode → Bool
is_plain_pair world m = is_of_world m
is_plain_pair (closure ts ms d) m = false
is_plain_pair t m = not (is_of_world m)

-- as many types as modes, and each type with a mode of its own
abbrev pub are_pairs : HldsTypes → List Mode → Bool
are_pairs no_types [] = true
are_pairs (also_type t ts) (m ∷ ms) = is_plain_pair t m && are_pairs ts ms
are_pairs ts ms = false

-- a type with a mode of its own; the types within a higher-order type have theirs beside them
abbrev pub is_pair : HldsType → Mode → Bool
is_pair (closure ts ms d) m = are_pairs ts ms && not (is_of_world m)
is_pair t m = is_plain_pair t m

-- an argument of a predicate
abbrev pub argument : List HldsTypeDef → ℕ → HldsType × Mode → Verdict (Unit {0})
argument ts l a = fault_unless (is_known ts a.0) (UnknownName l) >> fault_unless (is_pair a.0 a.1) (TypeClash l)

abbrev pub arguments : List HldsTypeDef → ℕ → List (HldsType × Mode) → Verdict (Unit {0})
arguments ts l [] = fine
arguments ts l (a ∷ args) = argument ts l a >> arguments ts l args

-- an argument of a functor is no io state and of no higher order
abbrev pub part : List HldsTypeDef → ℕ → HldsType → Verdict (Unit {0})
part ts l t = fault_unless (is_known ts t) (UnknownName l) >> fault_unless (is_plain_pair t In) (TypeClash l)

abbrev pub parts : List HldsTypeDef → ℕ → List HldsType → Verdict (Unit {0})
parts ts l [] = fine
parts ts l (t ∷ us) = part ts l t >> parts ts l us

abbrev pub functors : List HldsTypeDef → ℕ → List HldsFunctor → Verdict (Unit {0})
functors ts l [] = fine
functors ts l (f ∷ fs) = parts ts l f.args >> functors ts l fs

-- the declarations of these types, where all of `ts` are declared
abbrev pub families : List HldsTypeDef → List HldsTypeDef → Verdict (Unit {0})
families ts [] = fine
families ts (u ∷ us) = functors ts u.line u.functors >> families ts us

-- the declarations of these predicates
abbrev pub procedures : List HldsTypeDef → List Procedure → Verdict (Unit {0})
procedures ts [] = fine
procedures ts (p ∷ ps) = arguments ts p.line p.args >> procedures ts ps
