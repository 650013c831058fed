use Rattle.std.proofs.Common.{rules, arith, ◌≡◌, Ok, ap, sym, length}
use Rattle.std.proofs.lemmas.Grind.{common_steps}
use Rattle.md_hlds.specs.Hlds.{Procedure}
use Rattle.md_reader.specs.Input.{input_of}
use Rattle.md_reader.specs.Rules.{procedure}
use Rattle.md_reader.specs.Views.{declaration_of}
use Rattle.md_reader.proofs.procedure.procedure.Goals as goal

pub returns : goal.returns
unfolding procedure
returns c =
    let e : length (declaration_of c.in_ok-declaration.declaration).args ≡ c.arity.result = cc in
    rw (c.in_ok-declaration.ensures, e, c.in_ok-clause.ensures) (ap (λ (p : Procedure). Ok (p, input_of c.take_clause.new.input)) (sym c.joined.ensures))

pub returns-in_err-clause : goal.returns-in_err-clause
unfolding procedure
returns-in_err-clause c =
    let e : length (declaration_of c.in_ok-declaration.declaration).args ≡ c.arity.result = cc in
    first_of (search rules, grind (arith, common_steps))
