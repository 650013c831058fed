use Rattle.std.proofs.Common.{◌≡◌, ◌-◌, length}
use Rattle.std.specs.List.{find, range_with_len}
use Rattle.std.specs.Str.{bytes_eq}
use Rattle.md_people.specs.Words.{full_name, proc_named}
use Rattle.md_people.proofs.name.proc_named.Given as goal

-- the first of the procedures that are left is the first of all
abbrev pub invariant-loop-id : goal.invariant-loop-id
invariant-loop-id l = find (λ q. bytes_eq (full_name l.statics q) l.name) (range_with_len l.id (length l.statics.procs - l.id)) ≡ proc_named l.statics l.name
