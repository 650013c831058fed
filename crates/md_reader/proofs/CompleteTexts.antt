-- A text that spells a program is read as that program, and so it spells no other.
use Rattle.std.proofs.Common.{◌≡◌, ℕ, ◌<◌, List, [], ◌∷◌, length, refl, true, Result, Ok, Err, sym, arith, subst}
use Rattle.std.specs.Prelude.{codes}
use Rattle.md_hlds.specs.declared.program.Program.{Program}
use Rattle.md_hlds.specs.Hlds.{Hlds}
use Rattle.md_token.specs.declared.kind.Kind.TheVariants as kind
use Rattle.md_token.specs.Token.{Lexeme, tokens_of}
use Rattle.md_token.proofs.Ends.{HasEnd, tokens_end}
use Rattle.md_reader.specs.declared.refused.Refused.{Refused}
use Rattle.md_reader.specs.declared.refused.Refused.TheVariants as refused
use Rattle.md_reader.specs.Input.{Input, sees, expect, word, turns}
use Rattle.md_reader.specs.Rules as rule
use Rattle.md_reader.specs.Grammar as g
use Rattle.md_reader.specs.Grammar.{Is, Sign, sign, Spells, Repeats}
use Rattle.md_reader.specs.Reading.{reading, IsAnswer, IsRead, IsRefusedAs}
use Rattle.md_reader.proofs.Taking.{shut}
use Rattle.md_reader.proofs.Steady.{Stands}
use Rattle.md_reader.proofs.SteadyPrograms.{heading_steady}
use Rattle.md_reader.proofs.CompletePrograms.{declarations_complete}

some_end : (ts : List Lexeme) → HasEnd ts → 0 < length ts
some_end [] h = absurd h
some_end (t ∷ ts) h = omega arith

heading_complete : (m : List ℕ) (line at : ℕ) (i j k n o : Input) → Is (expect kind.Declare) line i j → Is (word (codes "module")) at j k → Is rule.module_name m k n → Sign kind.End n o → rule.heading i ≡ Ok (record { module_name = m; module_line = line; types = []; procedures = [] }, o)
unfolding rule.heading
heading_complete m line at i j k n o h w y s = rw (h, w, y) (shut {A = Hlds} kind.End (record { module_name = m; module_line = line; types = []; procedures = [] }) n o s)

-- behind the heading stands the end of the text, if not before it
pub program_complete : (l : Hlds) (i j : Input) → g.Program l i j → HasEnd i.rest → sees kind.Stop j ≡ true → rule.program i ≡ Ok (l, j)
unfolding rule.program rule.declarations
program_complete _ _ _ (g.Program.program m line at l i j k n o p h w y s d) end stop =
    let read = heading_complete m line at i j k n o h w y s in
    let same = heading_steady 0 [] i in
    let here : o.rest ≡ same.stop = subst (Stands same.stop) read same.stands in
    let last : HasEnd o.rest = subst HasEnd (sym here) (same.behind.ends end) in
    let some = some_end o.rest last in
    rw read (declarations_complete (turns o) _ l o p d stop (omega (arith, some)))

-- ---- texts

pub reading_complete : (text : List ℕ) (l : Hlds) → Spells text l → reading text ≡ Ok l
unfolding reading
reading_complete text l s = rw (program_complete l (rule.start (tokens_of text)) s.end s.program (tokens_end text) s.whole, s.once) refl

pub reading_repeated : (text : List ℕ) (line : ℕ) → Repeats text line → reading text ≡ Err (refused.Duplicate line)
unfolding reading
reading_repeated text line s = rw (program_complete s.listing (rule.start (tokens_of text)) s.end s.program (tokens_end text) s.whole, s.second) refl

same_ok : (l m : Hlds) (r : Result Hlds Refused) → r ≡ Ok l → r ≡ Ok m → l ≡ m
same_ok l m r a b = cc

pub one_program : (text : List ℕ) (p q : Hlds) → Spells text p → Spells text q → p ≡ q
one_program text p q a b = same_ok p q (reading text) (reading_complete text p a) (reading_complete text q b)

-- ---- answers

pub answer_read : (r : Result Program Refused) (text : List ℕ) (l : Hlds) → IsAnswer r text → Spells text l → IsRead r l
answer_read (Ok p) text l h s = let e = reading_complete text l s in cc
answer_read (Err refused.NoMemory) text l h s = refl
answer_read (Err (refused.Syntax line)) text l h s = let e = reading_complete text l s in let f = h (λ q. absurd (cc)) in absurd (cc)
answer_read (Err (refused.Limit line)) text l h s = let e = reading_complete text l s in let f = h (λ q. absurd (cc)) in absurd (cc)
answer_read (Err (refused.Duplicate line)) text l h s = let e = reading_complete text l s in let f = h (λ q. absurd (cc)) in absurd (cc)

pub answer_repeated : (r : Result Program Refused) (text : List ℕ) (line : ℕ) → IsAnswer r text → Repeats text line → IsRefusedAs r (refused.Duplicate line)
answer_repeated (Ok p) text line h s = let e = reading_repeated text line s in absurd (cc)
answer_repeated (Err e) text line h s = λ n. let f = h n in let k = reading_repeated text line s in cc
