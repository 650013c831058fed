use Rattle.std.proofs.Common.{sym, length}
use Rattle.md_hlds.specs.Hlds.{hlds_of}
use Rattle.md_inst.specs.Found.{functor_of_found}
use Rattle.md_modes.proofs.Arguments.{called_few}
use Rattle.md_modes.proofs.finding.class_of_name.Goals as goal

-- the name is a functor, which is declared with as many arguments
pub class_of_term-requires : goal.class_of_term-requires
class_of_term-requires c = called_few 4294967296 (hlds_of c.args.names.now) c.args.name.now (length c.args.places.now) (functor_of_found c.in-Some.field-0) c.requires (sym c.in-Some.ensures)
