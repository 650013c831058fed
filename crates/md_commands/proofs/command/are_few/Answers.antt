use Rattle.md_commands.proofs.WordLemmas.{few_texts}
use Rattle.md_commands.proofs.command.are_few.Goals as goal

pub returns-then-words-ge1 : goal.returns-then-words-ge1
returns-then-words-ge1 c = few_texts c.args.words.now c.if-words-ge1.true
