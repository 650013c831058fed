use Rattle.md_code.proofs.NumberLemmas.{literal-put}
use Rattle.md_code.proofs.literals.add_literal.Goals as goal

pub returns : goal.returns
returns c = literal-put c.args.bytes c.args.literals.now.keys c.insert.new.self.keys c.in_ok-insert.ensures.keys
