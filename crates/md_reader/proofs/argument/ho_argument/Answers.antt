use Rattle.std.proofs.Common.{rules, arith, ◌≡◌, Ok, ap, sym, ◌∙◌}
use Rattle.std.proofs.lemmas.Grind.{common_steps}
use Rattle.md_hlds.specs.Hlds.{HldsType, closure, gathered_types, hlds_types_of}
use Rattle.md_hlds.proofs.Bridge.{hlds_type_of-Ho}
use Rattle.md_reader.specs.Input.{input_of}
use Rattle.md_reader.specs.Rules.{ho_argument}
use Rattle.md_reader.proofs.argument.ho_argument.Goals as goal

pub returns : goal.returns
unfolding ho_argument
returns c =
    let types = c.in_ok-types.types in
    let modes = c.in_ok-modes.modes in
    let read : ho_argument (input_of c.args.input.now) ≡ Ok ((closure (gathered_types (hlds_types_of types.items)) modes.items c.in_ok-modes.det, c.in_ok-mode.mode), input_of c.inst.new.input) =
    first_of (search rules, grind (arith, common_steps)) in
    read ∙ ap (λ (s : HldsType). Ok ((s, c.in_ok-mode.mode), input_of c.inst.new.input)) (sym (hlds_type_of-Ho (record { types = types; modes = modes; det = c.in_ok-modes.det })))
