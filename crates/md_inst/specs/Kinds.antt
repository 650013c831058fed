-- The code's types and insts as the definitions see them.
use Rattle.std.specs.Prelude.{◌≡◌, List, [], ◌∷◌, Result, Ok, Err}
use Rattle.md_hlds.specs.Hlds.{HldsType, number, text, world, named, closure, gathered_types, hlds_types_of, args_of}
use Rattle.md_inst.specs.declared.kind.Kind.{Kind}
use Rattle.md_inst.specs.declared.kind.Kind.TheVariants.{Number, Text, World, Named, Closure, Open}
use Rattle.md_inst.specs.declared.inst.Inst.{Inst}
use Rattle.md_inst.specs.declared.inst.Inst.TheVariants.{Free, Bound}
use Rattle.md_inst.specs.declared.fault.ModeFault.{ModeFault}
use Rattle.md_inst.specs.Verdict.{Verdict}
use Rattle.md_inst.specs.Instantiation.{Instantiation, free, has, InstMap}
use Rattle.md_inst.specs.Simple.{left_open}

abbrev pub kind_sort : Kind → HldsType
kind_sort Number = number
kind_sort Text = text
kind_sort World = world
kind_sort (Named name) = named name.now
kind_sort (Closure h) = closure (gathered_types (hlds_types_of h.now.types.items)) h.now.modes.items h.now.det
kind_sort (Open args det) = left_open (args_of args.now) det

-- what is known of the variables, as the code keeps it
abbrev pub instantiation_of : Inst → Instantiation
instantiation_of Free = free
instantiation_of (Bound kind used) = has (kind_sort kind) used

abbrev pub inst_map_of : List Inst → InstMap
inst_map_of [] = []
inst_map_of (m ∷ ms) = instantiation_of m ∷ inst_map_of ms

-- what is known after a check and its verdict are those of the definition; no memory is asked for
abbrev pub Leads : Result (Unit {0}) ModeFault → InstMap → Verdict InstMap → Type 0
Leads (Ok u) s v = v ≡ Ok s
Leads (Err e) s v = v ≡ Err e

-- the same of a check that finds no more than whether there is a fault
abbrev pub Finds : Result (Unit {0}) ModeFault → Verdict (Unit {0}) → Type 0
Finds (Ok u) v = v ≡ Ok tt
Finds (Err e) v = v ≡ Err e
