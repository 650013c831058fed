-- A check's verdict: what it found, or the first fault.
use Rattle.std.specs.Prelude.{Bool, cond, Result, Ok, Err}
use Rattle.md_inst.specs.declared.fault.ModeFault.{ModeFault}

abbrev pub Verdict : Type 0 → Type 0
Verdict A = Result A ModeFault

-- one check and then another, which isn't made where the first finds a fault
infixl 10 ◌>>=◌
abbrev pub ◌>>=◌ : {A B : Type 0} → Verdict A → (A → Verdict B) → Verdict B
◌>>=◌ (Ok a) f = f a
◌>>=◌ (Err e) f = Err e

infixl 10 ◌>>◌
abbrev pub ◌>>◌ : {A B : Type 0} → Verdict A → Verdict B → Verdict B
v >> w = v >>= (λ _. w)

-- no fault
abbrev pub fine : Verdict (Unit {0})
fine = Ok tt

-- a fault, unless this holds
abbrev pub fault_unless : Bool → ModeFault → Verdict (Unit {0})
fault_unless b e = cond b fine (Err e)
