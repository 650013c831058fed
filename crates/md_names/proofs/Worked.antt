-- What the names in goals stand for, computed on a small program: the words of the theorem were worked out by hand from the
-- rules of the language, and `refl` says that the definitions give them.
use Rattle.std.proofs.Common.{◌≡◌, refl, ℕ, List, [], ◌∷◌, Some, None, map}
use Rattle.std.specs.Prelude.{codes}
use Rattle.md_hlds.specs.declared.types.Det.TheVariants.{Det as One}
use Rattle.md_hlds.specs.declared.goal.PredName.{PredName}
use Rattle.md_hlds.specs.declared.goal.Term.TheVariants.{Name}
use Rattle.md_hlds.specs.HldsGoal.{HldsGoal, SimpleGoal, CallGoal, HoCallGoal, NotGoal, Unifies}
use Rattle.md_hlds.specs.Hlds.{Hlds, HldsTypeDef, HldsFunctor, HldsType, Procedure, number}
use Rattle.md_hlds.proofs.Worked.{goal, conj, made, is_int, same, call, names, places, procedure, program, main, succeed}
use Rattle.md_names.specs.declared.named.Named.TheVariants.{Functor, Predicate, Nothing}
use Rattle.md_names.specs.Named.{name_at}

abbrev pub in_module : List ℕ → List ℕ → PredName
in_module m name = record { qualifier = Some m; name = name }

-- X = a.f(..)
abbrev pub made_of : ℕ → List ℕ → List ℕ → List ℕ → HldsGoal
made_of x m f ys = goal (SimpleGoal (Unifies x (Name (in_module m f) ys)))

abbrev pub functor : List ℕ → List HldsType → HldsFunctor
functor name args = record { name = name; args = args }

abbrev pub type_of : List ℕ → List HldsFunctor → HldsTypeDef
type_of name functors = record { name = name; line = 0; functors = functors }

-- :- type pair ---> none ; pair(int, int).   :- type box ---> box(int) ; pair(int).
abbrev pub pair_type : HldsTypeDef
pair_type = type_of (codes "pair") (functor (codes "none") [] ∷ functor (codes "pair") (number ∷ number ∷ []) ∷ [])

abbrev pub box_type : HldsTypeDef
box_type = type_of (codes "box") (functor (codes "box") (number ∷ []) ∷ functor (codes "pair") (number ∷ []) ∷ [])

-- a.p :- true.
abbrev pub elsewhere : Procedure
elsewhere = record {
  qualifier = Some (codes "a");
  name = codes "p";
  line = 0;
  clause_line = 0;
  args = [];
  det = One;
  vars = [];
  head = [];
  body = succeed;
}

-- main is 0, p 1, a.p 2, q 3 and the predicate none 4
abbrev pub many_names : Hlds
many_names = program (pair_type ∷ box_type ∷ []) (main 9 (conj (made 2 (codes "pair") (3 ∷ []) ∷ made 2 (codes "pair") (3 ∷ 4 ∷ [])
    ∷ made 2 (codes "pair") (3 ∷ 4 ∷ 5 ∷ []) ∷ made 2 (codes "q") [] ∷ made 2 (codes "none") [] ∷ made 2 (codes "none") (3 ∷ [])
    ∷ made_of 2 (codes "a") (codes "p") (3 ∷ []) ∷ made_of 2 (codes "a") (codes "none") [] ∷ is_int 2 7 ∷ same 2 3
    ∷ call 0 (codes "p") [] ∷ goal (CallGoal 1 (in_module (codes "a") (codes "p")) []) ∷ call 2 (codes "none") [] ∷ call 3 (codes "r") []
    ∷ goal (HoCallGoal 4 2 []) ∷ goal (NotGoal (call 5 (codes "q") [])) ∷ []))
    ∷ procedure (codes "p") One 0 0 succeed ∷ elsewhere ∷ procedure (codes "q") One 0 0 (call 6 (codes "p") []) ∷ procedure (codes "none") One 0 0 succeed
    ∷ [])

-- A name with arguments is a functor of that arity, or else a predicate of any; a qualified one is never a functor, and in a
-- call a name is a predicate, though there is a functor of that name. Goals without a name have none, nor has a number that
-- is no goal's.
names_stand_for :
    map (name_at many_names) (places 0 23)
    ≡ (Nothing
    ∷ Functor 1 ∷ Functor 0 ∷ Nothing ∷ Predicate 3 ∷ Functor 0 ∷ Predicate 4
    ∷ Predicate 2 ∷ Nothing ∷ Nothing ∷ Nothing
    ∷ Predicate 1 ∷ Predicate 2 ∷ Predicate 4 ∷ Nothing
    ∷ Nothing ∷ Nothing ∷ Predicate 3
    ∷ Nothing ∷ Nothing ∷ Predicate 1 ∷ Nothing
    ∷ Nothing
    ∷ [])
unfolding name_at
names_stand_for = refl
