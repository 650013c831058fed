-- What a call hands over: what its variables have before it is by the modes of the procedure.
use Rattle.std.specs.Prelude.{◌≡◌, ℕ, ◌+◌, List, length, drop, Some, slice_get}
use Rattle.md_hlds.specs.declared.goal.PredName.{PredName}
use Rattle.md_hlds.specs.Hlds.{Procedure, Hlds, procedure_called}
use Rattle.md_hlds.specs.Value.{Values, Closure, listed_values, Env, value_at}
use Rattle.md_modes.specs.Notes.{applies, program_notes}
use Rattle.md_modes.specs.Classes.{role_at}
use Rattle.md_inst.specs.Simple.{left_open}
use Rattle.law_safety.specs.Values.{AreHeld}
use Rattle.law_safety.specs.Arguments.{AreArguments, taken}

-- A call of a predicate: there is such a procedure, and each variable in the place of an input has a value of its type, and
-- each in the place of an output none.
pub record HandsNamed (s : Hlds) (e : Env) (name : PredName) (ys : List ℕ) : Type 0 where
  pub procedure : ℕ × Procedure
  pub called : procedure_called s name ≡ Some procedure
  pub at : slice_get s.procedures procedure.0 ≡ Some procedure.1
  pub size : length ys ≡ length procedure.1.args
  pub heads : length ys ≡ length procedure.1.head
  pub args : AreArguments s procedure.1.args (taken e ys)

-- A call by the closure that the variable x has, at the goal of number n: the variables stand in the places of the
-- arguments that the closure has captured no values for, and the role that the checks note has the type of such a closure.
pub record HandsOpen (s : Hlds) (e : Env) (n x : ℕ) (ys : List ℕ) : Type 0 where
  pub number : ℕ
  pub held : Values
  pub procedure : Procedure
  pub is : value_at e x ≡ Some (Closure number held)
  pub at : slice_get s.procedures number ≡ Some procedure
  pub size : length (listed_values held) + length ys ≡ length procedure.args
  pub heads : length (listed_values held) + length ys ≡ length procedure.head
  pub captured : AreHeld s held procedure.args (drop (length (listed_values held)) procedure.args)
  pub args : AreArguments s (drop (length (listed_values held)) procedure.args) (taken e ys)
  pub noted : role_at (program_notes s) n ≡ Some (applies (left_open (drop (length (listed_values held)) procedure.args) procedure.det))
