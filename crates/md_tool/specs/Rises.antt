-- Where a count of faults rises: by one where a call tells such a fault, and only there. So no fault is passed over.
use Rattle.std.specs.Prelude.{ℕ, ◌≡◌, ◌⊎◌, Result, Ok, Err}
use Rattle.md_base.specs.Outside.{one_more}
use Rattle.md_tool.specs.declared.fault.Fault.{Fault}
use Rattle.md_tool.specs.declared.fault.Stopped.{Stopped}

-- A count of faults after a call: as it was, or one more where this fault is told.
abbrev pub RisesBy : {T : Type 0} → (fault : Fault) → (before now : ℕ) → Result T Fault → Type 0
RisesBy fault before now (Ok value) = now ≡ before
RisesBy fault before now (Err told) = (now ≡ before) ⊎ ((now ≡ one_more before) × (told ≡ fault))

-- the same where the answer names a file
abbrev pub RisesByOne : {T : Type 0} → (fault : Fault) → (before now : ℕ) → Result T Stopped → Type 0
RisesByOne fault before now (Ok value) = now ≡ before
RisesByOne fault before now (Err stopped) = (now ≡ before) ⊎ ((now ≡ one_more before) × (stopped.fault ≡ fault))

-- The same by an exit status: as it was, or one more where the status is that of such a fault, or 8 where memory was refused as that was
-- to be told.
abbrev pub IsToldBy : (due status before now : ℕ) → Type 0
IsToldBy due status before now = (now ≡ before) ⊎ ((now ≡ one_more before) × ((status ≡ due) ⊎ (status ≡ 8)))

-- What a status says of the counts of faults of a store in reads and in writes, of the output, of the error stream and of the net. Each is as
-- it was, or one more where the status is 2, 7, 7 or 9, or 8; of the store's writes and the output's not both. That of the error stream, to which the line of a fault is written in the
-- end, is as it was where the status is 0.
pub record AreTold (status reads reads' writes writes' outs outs' errs errs' nets nets' : ℕ) : Type 0 where
  pub reads_are : IsToldBy 2 status reads reads'
  pub writes_are : IsToldBy 7 status writes writes'
  pub outs_are : IsToldBy 7 status outs outs'
  pub errs_are : status ≡ 0 → errs' ≡ errs
  pub nets_are : IsToldBy 9 status nets nets'
  pub one : (writes' ≡ writes) ⊎ (outs' ≡ outs)
