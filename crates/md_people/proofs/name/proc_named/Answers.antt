use Rattle.std.proofs.Common.{◌≡◌, ◌<◌, ℕ, false, length}
use Rattle.std.specs.Str.{bytes_eq}
use Rattle.md_people.specs.Words.{full_name, proc_named}
use Rattle.md_people.proofs.Ranges.{first_of_rest}
use Rattle.md_people.proofs.name.proc_named.Goals as goal

pub loop-id-preserved : goal.loop-id-preserved
loop-id-preserved c =
    let s = c.args.statics.now in
    let name = c.args.name.now in
    let lt : c.loop-id.id < length s.procs = rw c.procs.ensures at c.loop-id-test.true in
    let fails : bytes_eq (full_name s c.loop-id.id) name ≡ false = rw (c.eq.ensures, c.as_slice.ensures.value, c.in_ok-found.ensures) at c.if-eq.false in
    first_of_rest (λ (q : ℕ). bytes_eq (full_name s q) name) (length s.procs) c.loop-id.id (proc_named s name) lt c.loop-id.invariant fails
