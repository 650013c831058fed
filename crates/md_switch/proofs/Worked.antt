-- The shape of a switch as it is read off the numbers of goals, computed on small programs: the words of the theorem were
-- worked out by hand from the rules of the language, and `refl` says that the definitions give them.
use Rattle.std.proofs.Common.{◌≡◌, refl, ℕ, pos, List, [], ◌∷◌, Option, Some, None, map}
use Rattle.std.specs.Prelude.{codes}
use Rattle.md_hlds.specs.declared.types.Det.TheVariants.{Det as One}
use Rattle.md_hlds.specs.HldsGoal.{HldsGoal, gathered}
use Rattle.md_hlds.specs.Hlds.{Hlds}
use Rattle.md_hlds.specs.Switch.{Key, IntKey, TextKey, FunctorKey}
use Rattle.md_hlds.proofs.Worked.{conj, disj, made, is_int, is_text, same, procedure, program, main, succeed, colour_type}
use Rattle.md_switch.specs.Reading.{read_shape}

abbrev pub red : HldsGoal
red = made 2 (codes "red") []

abbrev pub green : HldsGoal
green = made 2 (codes "green") []

-- main(IO0, IO) :- ( .. ).   q :- true.   The disjunction has the number 0, and its first arm 1.
abbrev pub with_arms : List HldsGoal → Hlds
with_arms ps = program (colour_type ∷ []) (main 6 (disj ps) ∷ procedure (codes "q") One 0 0 succeed ∷ [])

abbrev pub shape : List HldsGoal → Option (ℕ × List Key)
unfolding read_shape
shape ps = read_shape (with_arms ps) 1 (gathered ps)

abbrev pub functor_key : List ℕ → Key
functor_key name = FunctorKey name 0

-- The first goal of an arm decides: a functor, an integer or a string. The second arm of the second one has the number 4, and
-- the goals 2 and 3 have no name.
shapes :
    map shape ((conj (red ∷ is_int 3 1 ∷ []) ∷ green ∷ conj (made 2 (codes "blue") [] ∷ []) ∷ [])
    ∷ (conj (is_int 2 1 ∷ is_int 3 1 ∷ []) ∷ red ∷ is_text 2 (codes "a") ∷ [])
    ∷ [])
    ≡ (Some (2, functor_key (codes "red") ∷ functor_key (codes "green") ∷ functor_key (codes "blue") ∷ [])
    ∷ Some (2, IntKey (pos 1) ∷ functor_key (codes "red") ∷ TextKey (codes "a") ∷ [])
    ∷ [])
unfolding shape read_shape
shapes = refl

-- a key twice; two variables; a predicate's name; a name that stands for nothing; two variables that are made the same; a
-- goal that is no unification before the one that is; a conjunction within a conjunction; no arm
no_shapes :
    map shape ((red ∷ green ∷ red ∷ [])
    ∷ (red ∷ is_int 3 1 ∷ [])
    ∷ (red ∷ made 2 (codes "q") [] ∷ [])
    ∷ (red ∷ made 2 (codes "green") (3 ∷ []) ∷ [])
    ∷ (red ∷ same 2 3 ∷ [])
    ∷ (red ∷ conj (succeed ∷ green ∷ []) ∷ [])
    ∷ (conj (conj (red ∷ []) ∷ []) ∷ green ∷ [])
    ∷ []
    ∷ [])
    ≡ (None ∷ None ∷ None ∷ None ∷ None ∷ None ∷ None ∷ None ∷ [])
unfolding shape read_shape
no_shapes = refl
