-- The links: the first line is the root link's, and each other line that of a link.
use Rattle.std.proofs.Common.{◌≡◌, ℕ, true, List, [], ◌∷◌, length, map, Option, None, Some, refl, sym, ap, subst, ◌∙◌, arith}
use Rattle.std.specs.Prelude.{slice_get}
use Rattle.std.specs.Fmt.{decimal}
use Rattle.std.proofs.lemmas.Bool.{and_parts, and_from, lt-ltb, false≢true}
use Rattle.std.proofs.lemmas.Option.{slice_get_within}
use Rattle.md_base.specs.declared.measure.Counts.{Counts}
use Rattle.md_static.specs.declared.entry.Site.{Site}
use Rattle.md_dynamic.specs.declared.link.LinkRow.{LinkRow}
use Rattle.md_dynamic.specs.Profile.{ProfileRows}
use Rattle.md_deepfile.specs.Bytes.{numbers_of}
use Rattle.md_deepfile.specs.Rules.{with_link, fits, fits_site, is_new_link}
use Rattle.md_deepfile.specs.Spells.{AreSmall}
use Rattle.md_deepfile.proofs.Things.{CountsFit, IsFineRoot, IsFineLink}
use Rattle.md_dump.specs.Due.{Due, must}
use Rattle.md_dump.specs.Forms.{words_of, root_form, link_form}
use Rattle.md_dump.specs.Lines.{Next, root_row, root_due, link_row, is_fine_link, other_due, link_due}
use Rattle.md_dump.specs.Text.{dash, link_words}
use Rattle.md_dump.specs.declared.form.LinkLine.{LinkLine}
use Rattle.md_dump.proofs.Accepting.{Accepts, kept_by, form_of}
use Rattle.md_dump.proofs.Clean.{row, AreClean, words_again, row_again, number_clean, counts_clean}
use Rattle.md_dump.proofs.Formed.{below_word, word_below}
use Rattle.md_dump.proofs.Members.{Taken, Member, NoRoom, formed_again, kept_again}
use Rattle.md_dump.proofs.Shapes.{root_words, root_told, root_again, link_line_words, link_told, link_again}

-- seven counts hold all
seven_fit : (own : Counts) → AreSmall own → CountsFit 7 own
seven_fit own small = record {
  small = small;
  whole = refl;
  size = refl;
  words = (small.calls, (small.exits, (small.fails, (small.redos, (small.allocs, (small.words, (small.excps, tt)))))));
}

-- the root link
pub root_clean : (own : Counts) → AreSmall own → AreClean (root_words own)
root_clean own small = ((omega arith, tt), ((omega arith, tt), (number_clean 0 (omega arith), counts_clean own small)))

pub root_member : Member root_due link_words with_link (IsFineRoot 7) NoRoom
root_member = record {
  takes = λ f room next l ls g h.
      let t = form_of (root_form (words_of l)) (λ own. next (with_link f (root_row own))) ls g h in
      let is = root_told (words_of l) t.thing t.is in
      record {
        thing = root_row t.thing;
        fine = record { caller = refl; site = refl; callee = refl; counts = seven_fit t.thing is.1 };
        parts = row_again l (root_words t.thing) is.0;
        goes = t.goes;
      };
  again = λ f l next ls g fine h.
      let same : root_row l.own ≡ l = λ i. record { caller = sym fine.caller i; site = sym fine.site i; callee = sym fine.callee i; own = l.own } in
      let goes = subst (λ (x : LinkRow). Accepts (next (with_link f x)) ls g) (sym same) h in
      let form = ap root_form (words_again dash (dash ∷ decimal 0 ∷ map decimal (numbers_of l.own)) (root_clean l.own fine.counts.small)) ∙ root_again l.own fine.counts.small in
      subst (λ (x : LinkRow). Accepts (root_due f next (row (link_words x))) ls g) same
      (formed_again (root_form (words_of (row (root_words l.own)))) l.own (λ own. next (with_link f (root_row own))) ls g form goes);
  keeps = λ f x room. tt;
  clean = λ f l fine.
      let same : root_row l.own ≡ l = λ i. record { caller = sym fine.caller i; site = sym fine.site i; callee = sym fine.callee i; own = l.own } in
      subst (λ (x : LinkRow). AreClean (link_words x)) same (root_clean l.own fine.counts.small);
}

-- what fits is there
record AreThere (o : Option ℕ) (x : Option Site) (q : Option ℕ) : Type 0 where
  pub caller : ℕ
  pub site : Site
  pub callee : ℕ
  pub caller_is : o ≡ Some caller
  pub site_is : x ≡ Some site
  pub callee_is : q ≡ Some callee

are_there : (o : Option ℕ) (x : Option Site) (q : Option ℕ) → fits o x q ≡ true → AreThere o x q
are_there None x q h = absurd (false≢true h)
are_there (Some p) None q h = absurd (false≢true h)
are_there (Some p) (Some x) None h = absurd (false≢true h)
are_there (Some p) (Some x) (Some q) h = record { caller = p; site = x; callee = q; caller_is = refl; site_is = refl; callee_is = refl }

-- each other link
link_clean : (f : ProfileRows) (l : LinkRow) → (fine : IsFineLink 7 f l) → AreClean (link_line_words (record { caller = fine.v; site = fine.s; callee = l.callee; own = l.own }))
link_clean f l fine = (
  number_clean fine.v (word_below fine.v fine.caller_fits),
  (number_clean fine.s (word_below fine.s fine.site_fits), (number_clean l.callee (word_below l.callee fine.callee_fits), counts_clean l.own fine.counts.small)),
)

abbrev line_of : (f : ProfileRows) (l : LinkRow) → IsFineLink 7 f l → LinkLine
line_of f l fine = record { caller = fine.v; site = fine.s; callee = l.callee; own = l.own }

same_link : (f : ProfileRows) (l : LinkRow) → (fine : IsFineLink 7 f l) → link_row (line_of f l fine) ≡ l
same_link f l fine = λ i. record { caller = sym fine.caller i; site = sym fine.site i; callee = l.callee; own = l.own }

pub other_member : Member other_due link_words with_link (IsFineLink 7) NoRoom
other_member = record {
  takes = λ f room next l ls g h.
      let t = form_of (link_form (words_of l)) (λ n. must (is_fine_link f n) (next (with_link f (link_row n)))) ls g h in
      let n = t.thing in
      let is = link_told (words_of l) n t.is in
      let k = kept_by (is_fine_link f n) (next (with_link f (link_row n))) ls g t.goes in
      let both = and_parts (fits_site f n.caller n.site n.callee) (is_new_link f n.caller n.site n.callee) k.0 in
      let there = are_there (slice_get f.nodes n.caller) (slice_get f.statics.sites n.site) (slice_get f.nodes n.callee) both.0 in
      record {
        thing = link_row n;
        fine = record {
          v = n.caller;
          s = n.site;
          caller = refl;
          site = refl;
          caller_fits = below_word n.caller is.caller;
          caller_there = lt-ltb n.caller (length f.nodes) (slice_get_within f.nodes n.caller there.caller there.caller_is);
          site_fits = below_word n.site is.site;
          site_there = lt-ltb n.site (length f.statics.sites) (slice_get_within f.statics.sites n.site there.site there.site_is);
          callee_fits = below_word n.callee is.callee;
          callee_there = lt-ltb n.callee (length f.nodes) (slice_get_within f.nodes n.callee there.callee there.callee_is);
          counts = seven_fit n.own is.small;
          joins = both.0;
          is_new = both.1;
        };
        parts = row_again l (link_line_words n) is.are;
        goes = k.1;
      };
  again = λ f l next ls g fine h.
      let n = line_of f l fine in
      let goes = subst (λ (x : LinkRow). Accepts (next (with_link f x)) ls g) (sym (same_link f l fine)) h in
      let form = ap link_form (words_again (decimal fine.v) (decimal fine.s ∷ decimal l.callee ∷ map decimal (numbers_of l.own)) (link_clean f l fine))
      ∙ link_again n (word_below fine.v fine.caller_fits) (word_below fine.s fine.site_fits) (word_below l.callee fine.callee_fits) fine.counts.small in
      subst (λ (x : LinkRow). Accepts (other_due f next (row (link_words x))) ls g) (same_link f l fine)
      (formed_again (link_form (words_of (row (link_line_words n)))) n (λ m. must (is_fine_link f m) (next (with_link f (link_row m)))) ls g form
      (kept_again (is_fine_link f n) (next (with_link f (link_row n))) ls g (and_from (fits_site f fine.v fine.s l.callee) (is_new_link f fine.v fine.s l.callee) fine.joins fine.is_new) goes));
  keeps = λ f x room. tt;
  clean = λ f l fine. subst (λ (x : LinkRow). AreClean (link_words x)) (same_link f l fine) (link_clean f l fine);
}

-- both kinds in a row
abbrev FineBehind : List LinkRow → ProfileRows → LinkRow → Type 0
FineBehind [] f l = IsFineRoot 7 f l
FineBehind (r ∷ rs) f l = IsFineLink 7 f l

abbrev pub IsFineLinkLine : ProfileRows → LinkRow → Type 0
IsFineLinkLine f l = FineBehind f.links f l

takes_behind : (links : List LinkRow) (f : ProfileRows) (next : Next) (l : List ℕ) (ls : List (List ℕ)) (g : ProfileRows) → Accepts (link_due links f next l) ls g → Taken link_words with_link (FineBehind links) f next l ls g
takes_behind [] f next l ls g h = let t = Member.takes root_member f tt next l ls g h in record { thing = t.thing; fine = t.fine; parts = t.parts; goes = t.goes }
takes_behind (r ∷ rs) f next l ls g h = let t = Member.takes other_member f tt next l ls g h in record { thing = t.thing; fine = t.fine; parts = t.parts; goes = t.goes }

again_behind : (links : List LinkRow) (f : ProfileRows) (x : LinkRow) (next : Next) (ls : List (List ℕ)) (g : ProfileRows) → FineBehind links f x → Accepts (next (with_link f x)) ls g → Accepts (link_due links f next (row (link_words x))) ls g
again_behind [] f x next ls g fine h = Member.again root_member f x next ls g fine h
again_behind (r ∷ rs) f x next ls g fine h = Member.again other_member f x next ls g fine h

clean_behind : (links : List LinkRow) (f : ProfileRows) (x : LinkRow) → FineBehind links f x → AreClean (link_words x)
clean_behind [] f x fine = Member.clean root_member f x fine
clean_behind (r ∷ rs) f x fine = Member.clean other_member f x fine

abbrev pub links_due : ProfileRows → Next → List ℕ → Due
links_due f next l = link_due f.links f next l

pub link_member : Member links_due link_words with_link IsFineLinkLine NoRoom
link_member = record {
  takes = λ f room next l ls g h. let t = takes_behind f.links f next l ls g h in record { thing = t.thing; fine = t.fine; parts = t.parts; goes = t.goes };
  again = λ f x next ls g fine h. again_behind f.links f x next ls g fine h;
  keeps = λ f x room. tt;
  clean = λ f x fine. clean_behind f.links f x fine;
}
