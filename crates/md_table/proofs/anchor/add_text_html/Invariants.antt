use Rattle.std.proofs.Common.{◌≡◌, ◌++◌, [], drop}
use Rattle.md_table.proofs.Words.{rest_html}
use Rattle.md_table.proofs.anchor.add_text_html.Given as goal

-- what was added and the HTML of the rest are the HTML of the whole text
abbrev pub invariant-loop-byte : goal.invariant-loop-byte
invariant-loop-byte l = l.out.items ++ rest_html l.by l.before.items l.word.items (drop l.byte-index l.text) ≡ l.fn.out.items ++ rest_html l.by [] [] l.text
