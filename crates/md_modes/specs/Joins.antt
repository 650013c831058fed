-- The arms of a branch that were checked so far, as the code keeps them.
use Rattle.std.specs.Prelude.{◌≡◌, ◌≢◌, ⊤, ℕ, Bool, true, List, [], ◌∷◌, length, slice_index, Option, Some, None, Result, Ok, Err, Vec}
use Rattle.md_inst.specs.declared.fault.ModeFault.{ModeFault}
use Rattle.md_inst.specs.declared.fault.ModeFault.TheVariants.{NoMemory}
use Rattle.std.specs.declared.alloc.Global.{Global}
use Rattle.md_inst.specs.declared.inst.Inst.{Inst}
use Rattle.md_modes.specs.declared.joined.Joined.{Joined}
use Rattle.md_modes.specs.declared.nonlocals.Nonlocals.{Nonlocals}
use Rattle.md_modes.specs.declared.nonlocals.View.{View}
use Rattle.md_modes.specs.declared.end.End.{End}
use Rattle.md_inst.specs.Verdict.{Verdict}
use Rattle.md_inst.specs.Instantiation.{InstMap, known_at, times}
use Rattle.md_modes.specs.Branches.{After, after, all_have, some_unlike, some_differ, reachable}
use Rattle.md_inst.specs.Kinds.{inst_map_of}
use Rattle.md_modes.specs.Tally.{exceeds}
use Rattle.md_modes.specs.Views.{Rising, seen, Leaves}
use Rattle.md_modes.specs.Shares.{Shares, common_at}

-- the variable of this number among those of a goal occurs outside it
abbrev pub occurs : Nonlocals → ℕ → Bool
occurs o i = exceeds o.all.now o.local.now.places.items o.local.now.counts.items i

-- of arms that began with `s`, the first ends with `r` and the others with `qs`
pub record Joins (p : ℕ → Bool) (s : InstMap) (j : Joined) (r : InstMap) (qs : List InstMap) : Type 0 where
  pub first : inst_map_of j.first.items ≡ r
  pub size : length r ≡ length s
  pub common : inst_map_of j.common.items ≡ all_have r qs
  pub shares : Shares s (all_have r qs) (λ x. some_unlike (known_at r x) x qs) j.shared.items
  pub differ : j.differ ≡ some_differ p s r qs

abbrev pub IsJoin : (ℕ → Bool) → InstMap → Option Joined → List InstMap → Type 0
IsJoin p s None [] = ⊤
IsJoin p s (Some j) (r ∷ qs) = Joins p s j r qs
IsJoin p s j rs = ⊥

-- the arms that were checked so far, which began with `s`, end so
pub record Ends (p : ℕ → Bool) (s : InstMap) (j : Option Joined) (ends : List After) : Type 0 where
  pub joined : IsJoin p s j (reachable ends)

-- an arm with these variables ends with `r`, and all began with `s`; the view is of the branch's variables
pub record IsArm (view : View) (own : List ℕ) (s r : InstMap) : Type 0 where
  pub before : inst_map_of view.before.now ≡ seen view.outside.local.now.places.items s
  pub rising : Rising 0 view.outside.local.now.places.items
  pub leaves : Leaves own s r

-- what is known of the branch's variables at the end of an arm
abbrev pub end_of : End → InstMap
end_of e = seen e.view.outside.local.now.places.items (inst_map_of e.insts.now)

-- at a variable of the arm is what the arms so far and the arm have in common, at another what they have without it
pub record IsSettled (e : End) (c d : InstMap) (own : List ℕ) (x : ℕ) : Type 0 where
  pub here : times (slice_index e.view.outside.local.now.places.items x) own ≢ 0 → known_at d x ≡ common_at c (end_of e) x
  pub elsewhere : times (slice_index e.view.outside.local.now.places.items x) own ≡ 0 → known_at d x ≡ known_at c x

abbrev pub IsEnd : End → InstMap → Type 0
IsEnd e s = IsArm e.view e.own.now s (inst_map_of e.insts.now)

-- whether the place after a goal is reachable, and what is known there, are those of the definition, unless memory is refused
abbrev pub Reaches : Result Bool ModeFault → InstMap → Verdict After → Type 0
Reaches (Ok reach) s v = v ≡ Ok (after s reach)
Reaches (Err e) s v = e ≢ NoMemory → v ≡ Err e

-- the same where no memory is asked for
abbrev pub ReachesExactly : Result Bool ModeFault → InstMap → Verdict After → Type 0
ReachesExactly (Ok reach) s v = v ≡ Ok (after s reach)
ReachesExactly (Err e) s v = v ≡ Err e

-- the same of what is known after a branch whose end is reachable
abbrev pub IsJoined : Result (Vec Inst Global) ModeFault → Verdict After → Type 0
IsJoined (Ok insts) v = v ≡ Ok (after (inst_map_of insts.items) true)
IsJoined (Err e) v = v ≡ Err e

-- a check finds a fault exactly where the definition has it, unless memory is refused
abbrev pub Checks : Result (Unit {0}) ModeFault → Verdict (Unit {0}) → Type 0
Checks (Ok u) v = v ≡ Ok tt
Checks (Err e) v = e ≢ NoMemory → v ≡ Err e
