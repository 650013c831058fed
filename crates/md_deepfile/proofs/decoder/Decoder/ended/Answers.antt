use Rattle.std.proofs.Common.{[], ap, sym, subst, ◌∙◌}
use Rattle.md_deepfile.specs.Decoding.{Decoding}
use Rattle.md_deepfile.specs.Format.{read}
use Rattle.md_deepfile.specs.State.{state_of, form_of, IsEnd}
use Rattle.md_deepfile.specs.declared.reader.Reader.{Reader}
use Rattle.md_deepfile.proofs.Fed.{whole_told, damage_told, tells_stop, fault_told}
use Rattle.md_deepfile.proofs.decoder.Decoder.ended.Goals as goal

pub returns-in-Some-clause-damage : goal.returns-in-Some-clause-damage
returns-in-Some-clause-damage c = λ bytes taken.
    fault_told c.in-Some.fault bytes (tells_stop c.args.self.now c.in-Some.fault bytes (sym (ap (λ (d : Decoding). d.stopped) c.self.view_is) ∙ c.in-Some.is) taken)

pub returns-in-None-clause-whole : goal.returns-in-None-clause-whole
returns-in-None-clause-whole c = whole_told c.args.self.now c.self.inside.stopped (state_of c.self.inside.reader.value) c.ended.result c.self.view_is c.in-None.is (subst (λ (r : Reader). IsEnd (read (form_of (state_of r)) (state_of r).at []) (state_of r).rows c.ended.result) c.deref.ensures c.ended.ensures)

pub returns-in-None-clause-damage : goal.returns-in-None-clause-damage
returns-in-None-clause-damage c = damage_told c.args.self.now c.self.inside.stopped (state_of c.self.inside.reader.value) c.ended.result c.self.view_is c.in-None.is (subst (λ (r : Reader). IsEnd (read (form_of (state_of r)) (state_of r).at []) (state_of r).rows c.ended.result) c.deref.ensures c.ended.ensures)
