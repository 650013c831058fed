use Rattle.std.proofs.Common.{ap, sym, ◌∙◌, Ok}
use Rattle.md_dynamic.specs.Profile.{ProfileRows}
use Rattle.md_deepfile.proofs.Fed.{found_spells, only_read, never_damaged}
use Rattle.md_deepfile.proofs.decoder.Decoder.finish.Goals as goal

pub returns-in-Ok-clause-found : goal.returns-in-Ok-clause-found
returns-in-Ok-clause-found c = λ bytes taken.
    found_spells c.args.self bytes c.into_profile.result taken (c.in-Ok.ensures.whole bytes taken ∙ ap (λ (f : ProfileRows). Ok f) (sym c.into_profile.ensures))

pub returns-in-Ok-clause-only : goal.returns-in-Ok-clause-only
returns-in-Ok-clause-only c = λ bytes f taken spells. c.into_profile.ensures ∙ only_read bytes f c.args.self.state.rows (c.in-Ok.ensures.whole bytes taken) spells

pub returns-in-Err-clause-only : goal.returns-in-Err-clause-only
returns-in-Err-clause-only c = λ bytes f taken spells. never_damaged c.in-Err.fault bytes f (c.in-Err.ensures.damage bytes taken) spells
