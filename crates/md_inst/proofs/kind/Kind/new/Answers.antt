use Rattle.std.proofs.Common.{◌∙◌, sym, ap}
use Rattle.md_hlds.specs.Hlds.{hlds_type_of}
use Rattle.md_hlds.proofs.Bridge.{hlds_type_of-Ho}
use Rattle.md_inst.proofs.kind.Kind.new.Goals as goal

pub returns-in-Ho : goal.returns-in-Ho
returns-in-Ho c = sym (ap hlds_type_of c.in-Ho.is ∙ hlds_type_of-Ho c.in-Ho.closure)
