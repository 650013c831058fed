use Rattle.std.proofs.Common.{ℕ, ◌<◌, ◌^◌, length}
use Rattle.md_hlds.specs.Hlds.{Hlds, hlds_of}
use Rattle.md_flat.specs.declared.code.Code.{Code}
use Rattle.md_fold.specs.Folded.{AreLed}
use Rattle.md_fold.specs.Ways.{way}
use Rattle.law_spelled.specs.Laws.{AcceptedTextsAreWithinBounds}
use Rattle.md_ports.specs.Instrumented.{IsInstrumented}
use Rattle.md_machine.specs.Running.{IsFoldedOf}
use Rattle.md_machine.proofs.Executing.{ok_by, on_ok_by, on_err_by}
use Rattle.md_machine.proofs.program.execute.Goals as goal
use Rattle.md_machine.proofs.Opened.{closed}

-- folded code has as many details
few_details : (plain code : Code) → length plain.details.items < 4294967296 → AreLed (way plain.instructions.items) plain.details.items code.details.items → length code.details.items < 4294967296
few_details plain code few led = rw led.long few

-- code with its ports is the folded code of its program
folded_of : (s : Hlds) (budget : ℕ) (code : Code) → AcceptedTextsAreWithinBounds → budget < 2 ^ 32 → (is : IsInstrumented s code) → IsFoldedOf s budget is.plain code
folded_of s budget code within small is = record {
  its = record { bounds = within is.of_text.text s budget is.of_text.spells is.modes small; coded = is.coded; text = is.of_text.text; spells = is.of_text.spells; modes = is.modes };
  is = closed is.folded;
}

pub perform-requires : goal.perform-requires
perform-requires g c = record {
  placed = c.code.ensures.placed;
  few = few_details c.code.ensures.plain c.code.result.now c.code.ensures.coded.few_details c.code.ensures.folded.details;
  begins = record {
    program = hlds_of c.args.code.now;
    plain = c.code.ensures.plain;
    its = folded_of (hlds_of c.args.code.now) c.args.budget c.code.result.now c.accepted_texts_are_within_bounds.ensures c.ranges.budget.fits c.code.ensures;
    stood = c.requires.begins;
  };
}

pub returns-clause-run : goal.returns-clause-run
returns-clause-run g c =
    let s = hlds_of c.args.code.now in
    let its = folded_of s c.args.budget c.code.result.now c.accepted_texts_are_within_bounds.ensures c.ranges.budget.fits c.code.ensures in
    ok_by c.perform.result c.perform.ensures.run (λ ran is. is s c.code.ensures.plain its c.requires.begins)

pub returns-clause-whole : goal.returns-clause-whole
returns-clause-whole g c =
    let s = hlds_of c.args.code.now in
    let its = folded_of s c.args.budget c.code.result.now c.accepted_texts_are_within_bounds.ensures c.ranges.budget.fits c.code.ensures in
    on_ok_by c.perform.result c.perform.ensures.whole (λ is. is s c.code.ensures.plain its c.requires.begins)

pub returns-clause-front : goal.returns-clause-front
returns-clause-front g c =
    let s = hlds_of c.args.code.now in
    let its = folded_of s c.args.budget c.code.result.now c.accepted_texts_are_within_bounds.ensures c.ranges.budget.fits c.code.ensures in
    on_err_by c.perform.result c.perform.ensures.front (λ is. is s c.code.ensures.plain its c.requires.begins)
