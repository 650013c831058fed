use Rattle.std.proofs.Common.{ap, ◌∙◌}
use Rattle.md_dynamic.specs.Profile.{ProfileRows}
use Rattle.md_dynamic.specs.Rows.{Rows}
use Rattle.md_record.specs.Kept.{Kept}
use Rattle.md_record.proofs.Ends.{profile-of}
use Rattle.md_record.proofs.ValidProfiles.{valid-profile}
use Rattle.md_record.proofs.recorder.Recorder.into_profile.Goals as goal

pub returns : goal.returns
returns c =
    let frozen : Rows → ProfileRows = λ r. record { statics = r.statics; nodes = r.nodes; links = r.links; finished = c.args.finished } in
    let made = c.freeze.ensures ∙ ap (λ (z : Kept). frozen z.rows) c.self.view_is in
    record {
      exact = λ t h st. profile-of t h c.args.self c.args.finished c.freeze.result st made;
      valid = λ t h st. valid-profile t h c.args.self c.args.finished c.freeze.result st made;
    }
