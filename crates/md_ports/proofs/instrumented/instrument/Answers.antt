use Rattle.std.proofs.Common.{◌≡◌, subst}
use Rattle.md_hlds.specs.declared.program.Program.{Program}
use Rattle.md_ports.specs.Ports.{statics_of}
use Rattle.md_hlds.specs.Hlds.{hlds_of}
use Rattle.md_ports.proofs.instrumented.instrument.Goals as goal

pub fold-requires : goal.fold-requires
fold-requires c =
    let s = hlds_of c.args.checked.now in
    let text = c.program.ensures.of_text in
    record {
      few = c.requires.few_instructions;
      placed = record {
        instructions = c.code_is_placed.ensures.instructions text.text s text.spells c.args.code c.requires;
        details = c.code_is_placed.ensures.details text.text s text.spells c.args.code c.requires;
        routines = c.code_is_placed.ensures.routines text.text s text.spells c.args.code c.requires c.fits.ensures;
      };
    }

pub invariant_of-result : goal.invariant_of-result
invariant_of-result c = (
  record {
    plain = c.args.code;
    coded = c.requires;
    folded = c.in_ok-code.ensures.folded;
    placed = c.in_ok-code.ensures.placed;
    of_text = c.program.ensures.of_text;
    modes = c.program.ensures.moded;
  },
  subst (λ (p : Program). c.in_ok-statics.statics ≡ statics_of (hlds_of p)) c.moded.ensures c.in_ok-statics.ensures,
)
