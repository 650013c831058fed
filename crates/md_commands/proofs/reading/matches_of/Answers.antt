use Rattle.std.proofs.Common.{rules, ◌≡◌, ap, subst, sym, true, ◌∙◌}
use Rattle.std.proofs.Common.{inl, inr, true≢false}
use Rattle.clap.specs.declared.error.kind.ErrorKind.TheVariants.{OutOfMemory}
use Rattle.clap.specs.Words.{HasKind, App, HasMatchesOf, fault_of, is_simple_and_free}
use Rattle.md_commands.specs.Form.{words_of}
use Rattle.md_commands.proofs.LineLemmas.{line_simple}
use Rattle.md_commands.proofs.ReadingLemmas.{are_texts, reading_ok, reading_none}
use Rattle.md_commands.proofs.reading.matches_of.Goals as goal

pub returns-in-Ok : goal.returns-in-Ok
returns-in-Ok c =
    let is = c.in_ok-line.ensures.shape in
    let words = words_of c.args.words.now in
    reading_ok words c.in-Ok.matches (are_texts c.args.words.now)
    (ap (λ (a : App). fault_of a words) (sym is) ∙ c.in-Ok.ensures.kinds (ap is_simple_and_free is ∙ line_simple))
    (subst (λ (a : App). HasMatchesOf a words c.in-Ok.matches) is c.in-Ok.ensures.matches)

pub returns-else-eq : goal.returns-else-eq
returns-else-eq c =
    let is = c.in_ok-line.ensures.shape in
    let words = words_of c.args.words.now in
    reading_none words (are_texts c.args.words.now) (λ none.
    let has = subst (λ k. HasKind k c.in-Err.error) (ap (λ (a : App). fault_of a words) is ∙ none) (c.in-Err.ensures.kinds (ap is_simple_and_free is ∙ line_simple)) in
    elim has [
      | inl memory ↦
          let same : c.kind.result ≡ OutOfMemory = c.kind.ensures ∙ memory in
          let yes : c.eq.result ≡ true = search rules in
          true≢false (sym yes ∙ c.if-eq.false)
      | inr among ↦ among
    ])
