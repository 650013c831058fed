-- The form of each line, whole: its words are those of the thing, and the thing's words are of the form.
use Rattle.std.proofs.Common.{◌≡◌, ℕ, ◌≤◌, List, [], ◌∷◌, ◌++◌, codes, map, Option, Some, IfSome, refl, sym, ap, subst, ◌∙◌, arith}
use Rattle.std.specs.Fmt.{decimal}
use Rattle.std.proofs.lemmas.Fmt.{decimal_digit}
use Rattle.std.proofs.lemmas.List.{append-nil}
use Rattle.md_base.specs.declared.measure.Counts.{Counts}
use Rattle.md_static.specs.declared.entry.Proc.{Proc}
use Rattle.md_deepfile.specs.Bytes.{numbers_of}
use Rattle.md_deepfile.specs.Rules.{proc_of}
use Rattle.md_deepfile.specs.Spells.{AreSmall}
use Rattle.md_dump.specs.Forms.{exactly, word, number, arity, maybe, ended, counts, count_form, proc_form, site_form, context_form, root_form, link_form}
use Rattle.md_dump.specs.Text.{Words, dash, or_dash, count_words, proc_words, context_words}
use Rattle.md_dump.specs.declared.form.LinkLine.{LinkLine}
use Rattle.md_dump.specs.declared.form.SiteLine.{SiteLine}
use Rattle.md_dump.proofs.Formed.{number_told, number_again, word_told, ended_told, exactly_told, exactly_again, maybe_told, maybe_again, counts_told, counts_again}

-- the number of a section's members
pub count_told : (name : List ℕ) (ws : Words) (n : ℕ) → count_form name ws ≡ Some n → (ws ≡ count_words name n) × (n ≤ 4294967295)
count_told name ws n e =
    let a = exactly_told name (number ended) ws n e in
    let b = number_told 4294967295 ended a.rest n (omega arith) a.goes in
    let c = ended_told b.n b.rest n b.goes in
    (a.are ∙ ap (λ (xs : Words). name ∷ xs) (b.are ∙ ap (λ (xs : Words). decimal b.n ∷ xs) c.0 ∙ ap (λ (k : ℕ). decimal k ∷ []) c.1), subst (λ (k : ℕ). k ≤ 4294967295) c.1 b.below)

pub count_again : (name : List ℕ) (n : ℕ) → n ≤ 4294967295 → count_form name (count_words name n) ≡ Some n
count_again name n below = exactly_again name (number ended) (decimal n ∷ []) n (number_again 4294967295 n ended [] n (omega arith) below refl)

-- procedures
pub record IsProcLine (ws : Words) (p : Proc) : Type 0 where
  pub are : ws ≡ proc_words p
  pub home : p.module ≤ 4294967295
  pub arity_fits : p.arity ≤ 255

pub proc_told : (ws : Words) (p : Proc) → proc_form ws ≡ Some p → IsProcLine ws p
proc_told ws p e =
    let a = number_told 4294967295 (λ home. word (λ name. arity (λ n. ended (proc_of home name n)))) ws p (omega arith) e in
    let b = word_told (λ name. arity (λ n. ended (proc_of a.n name n))) a.rest p a.goes in
    let c = number_told 255 (λ n. ended (proc_of a.n b.w n)) b.rest p (omega arith) b.goes in
    let d = ended_told (proc_of a.n b.w c.n) c.rest p c.goes in
    subst (IsProcLine ws) d.1 (record {
      are = a.are ∙ ap (λ (xs : Words). decimal a.n ∷ xs) (b.are ∙ ap (λ (xs : Words). b.w ∷ xs) (c.are ∙ ap (λ (xs : Words). decimal c.n ∷ xs) d.0));
      home = a.below;
      arity_fits = c.below;
    })

pub proc_again : (p : Proc) → p.module ≤ 4294967295 → p.arity ≤ 255 → proc_form (proc_words p) ≡ Some p
proc_again p home fits =
    number_again 4294967295 p.module (λ home. word (λ name. arity (λ n. ended (proc_of home name n)))) (p.name ∷ decimal p.arity ∷ []) p (omega arith) home
    (number_again 255 p.arity (λ n. ended (proc_of p.module p.name n)) [] p (omega arith) fits refl)

-- call sites
abbrev pub site_line_words : SiteLine → Words
site_line_words x = decimal x.owner ∷ decimal x.line ∷ or_dash x.callee ∷ []

abbrev site_line : ℕ → ℕ → Option ℕ → SiteLine
site_line owner at callee = record { owner = owner; line = at; callee = callee }

pub record IsSiteLine (ws : Words) (x : SiteLine) : Type 0 where
  pub are : ws ≡ site_line_words x
  pub owner : x.owner ≤ 4294967295
  pub line : x.line ≤ 4294967295
  pub callee : IfSome x.callee (λ n. n ≤ 4294967295)

pub site_told : (ws : Words) (x : SiteLine) → site_form ws ≡ Some x → IsSiteLine ws x
site_told ws x e =
    let a = number_told 4294967295 (λ owner. number (λ at. maybe (λ callee. ended (site_line owner at callee)))) ws x (omega arith) e in
    let b = number_told 4294967295 (λ at. maybe (λ callee. ended (site_line a.n at callee))) a.rest x (omega arith) a.goes in
    let c = maybe_told (λ callee. ended (site_line a.n b.n callee)) b.rest x b.goes in
    let d = ended_told (site_line a.n b.n c.o) c.rest x c.goes in
    subst (IsSiteLine ws) d.1 (record {
      are = a.are ∙ ap (λ (xs : Words). decimal a.n ∷ xs) (b.are ∙ ap (λ (xs : Words). decimal b.n ∷ xs) (c.are ∙ ap (λ (xs : Words). or_dash c.o ∷ xs) d.0));
      owner = a.below;
      line = b.below;
      callee = c.below;
    })

pub site_again : (x : SiteLine) → x.owner ≤ 4294967295 → x.line ≤ 4294967295 → IfSome x.callee (λ n. n ≤ 4294967295) → site_form (site_line_words x) ≡ Some x
site_again x owner at callee =
    number_again 4294967295 x.owner (λ owner. number (λ at. maybe (λ callee. ended (site_line owner at callee)))) (decimal x.line ∷ or_dash x.callee ∷ []) x (omega arith) owner
    (number_again 4294967295 x.line (λ at. maybe (λ callee. ended (site_line x.owner at callee))) (or_dash x.callee ∷ []) x (omega arith) at
    (maybe_again x.callee (λ callee. ended (site_line x.owner x.line callee)) [] x callee refl))

-- contexts
pub context_told : (ws : Words) (p : ℕ) → context_form ws ≡ Some p → (ws ≡ context_words p) × (p ≤ 4294967295)
context_told ws p e =
    let a = number_told 4294967295 ended ws p (omega arith) e in
    let b = ended_told a.n a.rest p a.goes in
    (a.are ∙ ap (λ (xs : Words). decimal a.n ∷ xs) b.0 ∙ ap (λ (k : ℕ). decimal k ∷ []) b.1, subst (λ (k : ℕ). k ≤ 4294967295) b.1 a.below)

pub context_again : (p : ℕ) → p ≤ 4294967295 → context_form (context_words p) ≡ Some p
context_again p below = number_again 4294967295 p ended [] p (omega arith) below refl

-- the root link
abbrev pub root_words : Counts → Words
root_words own = dash ∷ dash ∷ decimal 0 ∷ map decimal (numbers_of own)

zero_word : decimal 0 ≡ codes "0"
zero_word = decimal_digit 0 (omega arith)

pub root_told : (ws : Words) (own : Counts) → root_form ws ≡ Some own → (ws ≡ root_words own) × AreSmall own
root_told ws own e =
    let a = exactly_told dash (exactly dash (exactly (codes "0") (counts ended))) ws own e in
    let b = exactly_told dash (exactly (codes "0") (counts ended)) a.rest own a.goes in
    let c = exactly_told (codes "0") (counts ended) b.rest own b.goes in
    let d = counts_told ended c.rest own c.goes in
    let f = ended_told d.own d.rest own d.goes in (
      a.are ∙ ap (λ (xs : Words). dash ∷ xs) (b.are ∙ ap (λ (xs : Words). dash ∷ xs) (c.are ∙ ap (λ (w : List ℕ). w ∷ c.rest) (sym zero_word)
          ∙ ap (λ (xs : Words). decimal 0 ∷ xs) (d.are ∙ ap (λ (xs : Words). map decimal (numbers_of d.own) ++ xs) f.0 ∙ append-nil (map decimal (numbers_of d.own)) ∙ ap (λ (o : Counts). map decimal (numbers_of o)) f.1))),
      subst AreSmall f.1 d.small,
    )

pub root_again : (own : Counts) → AreSmall own → root_form (root_words own) ≡ Some own
root_again own small =
    exactly_again dash (exactly dash (exactly (codes "0") (counts ended))) (dash ∷ decimal 0 ∷ map decimal (numbers_of own)) own
    (exactly_again dash (exactly (codes "0") (counts ended)) (decimal 0 ∷ map decimal (numbers_of own)) own
    (ap (λ (w : List ℕ). exactly (codes "0") (counts ended) (w ∷ map decimal (numbers_of own))) zero_word
    ∙ exactly_again (codes "0") (counts ended) (map decimal (numbers_of own)) own (counts_again own ended [] own small refl)))

-- each other link
abbrev pub link_line_words : LinkLine → Words
link_line_words l = decimal l.caller ∷ decimal l.site ∷ decimal l.callee ∷ map decimal (numbers_of l.own)

abbrev link_line : ℕ → ℕ → ℕ → Counts → LinkLine
link_line caller site callee own = record { caller = caller; site = site; callee = callee; own = own }

pub record IsLinkLine (ws : Words) (l : LinkLine) : Type 0 where
  pub are : ws ≡ link_line_words l
  pub caller : l.caller ≤ 4294967295
  pub site : l.site ≤ 4294967295
  pub callee : l.callee ≤ 4294967295
  pub small : AreSmall l.own

pub link_told : (ws : Words) (l : LinkLine) → link_form ws ≡ Some l → IsLinkLine ws l
link_told ws l e =
    let a = number_told 4294967295 (λ v. number (λ s. number (λ w. counts (λ own. ended (link_line v s w own))))) ws l (omega arith) e in
    let b = number_told 4294967295 (λ s. number (λ w. counts (λ own. ended (link_line a.n s w own)))) a.rest l (omega arith) a.goes in
    let c = number_told 4294967295 (λ w. counts (λ own. ended (link_line a.n b.n w own))) b.rest l (omega arith) b.goes in
    let d = counts_told (λ own. ended (link_line a.n b.n c.n own)) c.rest l c.goes in
    let f = ended_told (link_line a.n b.n c.n d.own) d.rest l d.goes in
    subst (IsLinkLine ws) f.1 (record {
      are = a.are ∙ ap (λ (xs : Words). decimal a.n ∷ xs) (b.are ∙ ap (λ (xs : Words). decimal b.n ∷ xs) (c.are ∙ ap (λ (xs : Words). decimal c.n ∷ xs)
          (d.are ∙ ap (λ (xs : Words). map decimal (numbers_of d.own) ++ xs) f.0 ∙ append-nil (map decimal (numbers_of d.own)))));
      caller = a.below;
      site = b.below;
      callee = c.below;
      small = d.small;
    })

pub link_again : (l : LinkLine) → l.caller ≤ 4294967295 → l.site ≤ 4294967295 → l.callee ≤ 4294967295 → AreSmall l.own → link_form (link_line_words l) ≡ Some l
link_again l caller site callee small =
    number_again 4294967295 l.caller (λ v. number (λ s. number (λ w. counts (λ own. ended (link_line v s w own))))) (decimal l.site ∷ decimal l.callee ∷ map decimal (numbers_of l.own)) l (omega arith) caller
    (number_again 4294967295 l.site (λ s. number (λ w. counts (λ own. ended (link_line l.caller s w own)))) (decimal l.callee ∷ map decimal (numbers_of l.own)) l (omega arith) site
    (number_again 4294967295 l.callee (λ w. counts (λ own. ended (link_line l.caller l.site w own))) (map decimal (numbers_of l.own)) l (omega arith) callee
    (counts_again l.own (λ own. ended (link_line l.caller l.site l.callee own)) [] l small refl)))
