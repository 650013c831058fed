-- Each line of a section: what a reader takes is the line of a thing that is fine, and its line is taken again.
use Rattle.std.proofs.Common.{◌≡◌, ℕ, ◌<◌, ◌≤◌, ◌^◌, Bool, true, false, cond, ◌==◌, ◌&&◌, ◌||◌, nat_lt, nat_le, List, [], ◌∷◌, length, Option, None, Some, IfSome, refl, sym, ap, subst, ◌∙◌, arith}
use Rattle.std.specs.Fmt.{decimal}
use Rattle.std.proofs.lemmas.Bool.{and_parts, and_from, ltb-true, ne_eqb, cond-false, or_right}
use Rattle.md_static.specs.declared.entry.Proc.{Proc}
use Rattle.md_static.specs.declared.entry.Site.{Site}
use Rattle.md_static.specs.declared.entry.SiteKind.{SiteKind}
use Rattle.md_static.specs.declared.entry.SiteKind.TheVariants.{Plain, HigherOrder}
use Rattle.md_static.specs.Names.{is_name}
use Rattle.md_static.specs.Tables.{callee_of}
use Rattle.md_dynamic.specs.Profile.{ProfileRows}
use Rattle.md_deepfile.specs.Bytes.{none, or_none}
use Rattle.md_deepfile.specs.Rules.{with_module, with_proc, with_site, with_context, is_new_module, is_new_proc, is_owner, is_callee, kind_of}
use Rattle.md_deepfile.proofs.Rows.{name_fits}
use Rattle.md_deepfile.proofs.Things.{IsFineModule, IsFineProc, IsFineSite, IsFineContext}
use Rattle.md_dump.specs.Due.{Due, must, given}
use Rattle.md_dump.specs.Forms.{words_of, proc_form, site_form, context_form}
use Rattle.md_dump.specs.Lines.{Next, module_due, is_fine_proc, proc_due, is_there, is_fine_site, kind_called, site_row, site_due, context_due}
use Rattle.md_dump.specs.Text.{Words, or_dash, module_words, proc_words, site_words, context_words}
use Rattle.md_dump.specs.declared.form.SiteLine.{SiteLine}
use Rattle.md_dump.proofs.Accepting.{Accepts, kept_by, form_of}
use Rattle.md_dump.proofs.Clean.{row, AreClean, words_again, row_again, name_clean, number_clean, maybe_clean}
use Rattle.md_dump.proofs.Formed.{below_word, word_below}
use Rattle.md_dump.proofs.Shapes.{proc_told, proc_again, site_line_words, site_told, site_again, context_told, context_again}

-- what was taken of a line, and what goes on behind it
pub record Taken {X : Type 0} (words : X → Words) (add : ProfileRows → X → ProfileRows) (Fine : ProfileRows → X → Type 0) (f : ProfileRows) (next : Next) (l : List ℕ) (ls : List (List ℕ)) (g : ProfileRows) : Type 0 where
  pub thing : X
  pub fine : Fine f thing
  pub parts : l ≡ row (words thing)
  pub goes : Accepts (next (add f thing)) ls g

pub record Member {X : Type 0} (due : ProfileRows → Next → List ℕ → Due) (words : X → Words) (add : ProfileRows → X → ProfileRows) (Fine : ProfileRows → X → Type 0) (Room : ProfileRows → Type 0) : Type 0 where
  pub takes : (f : ProfileRows) → Room f → (next : Next) (l : List ℕ) (ls : List (List ℕ)) (g : ProfileRows) → Accepts (due f next l) ls g → Taken words add Fine f next l ls g
  pub again : (f : ProfileRows) (x : X) (next : Next) (ls : List (List ℕ)) (g : ProfileRows) → Fine f x → Accepts (next (add f x)) ls g → Accepts (due f next (row (words x))) ls g
  pub keeps : (f : ProfileRows) (x : X) → Room f → Room (add f x)
  pub clean : (f : ProfileRows) (x : X) → Fine f x → AreClean (words x)

-- a form that is there is read again
pub formed_again : {X : Type 0} (form : Option X) (x : X) (next : X → Due) (ls : List (List ℕ)) (g : ProfileRows) → form ≡ Some x → Accepts (next x) ls g → Accepts (given form next) ls g
formed_again {X} form x next ls g is h = subst (λ (o : Option X). Accepts (given o next) ls g) (sym is) h

pub kept_again : (fine : Bool) (next : Due) (ls : List (List ℕ)) (g : ProfileRows) → fine ≡ true → Accepts next ls g → Accepts (must fine next) ls g
kept_again fine next ls g is h = subst (λ (b : Bool). Accepts (must b next) ls g) (sym is) h

abbrev pub NoRoom : ProfileRows → Type 0
NoRoom f = Unit {0}

-- modules
new_name : (f : ProfileRows) (name : List ℕ) → is_new_module f name ≡ true → is_name name ≡ true
new_name f name new = (and_parts (is_name name) _ new).0

pub module_member : Member module_due module_words with_module IsFineModule NoRoom
module_member = record {
  takes = λ f room next l ls g h.
      let t = kept_by (is_new_module f l) (next (with_module f l)) ls g h in
      let fits = name_fits l (new_name f l t.0) in
      record { thing = l; fine = record { is_new = t.0; short = fits.0; are = fits.1 }; parts = refl; goes = t.1 };
  again = λ f name next ls g fine h. kept_again (is_new_module f name) (next (with_module f name)) ls g fine.is_new h;
  keeps = λ f x room. tt;
  clean = λ f name fine. (name_clean name (new_name f name fine.is_new), tt);
}

-- procedures
new_proc_name : (f : ProfileRows) (m : ℕ) (name : List ℕ) → is_new_proc f m name ≡ true → is_name name ≡ true
new_proc_name f m name new = (and_parts (is_name name) _ new).0

proc_clean : (f : ProfileRows) (p : Proc) → IsFineProc f p → AreClean (proc_words p)
proc_clean f p fine = (
  number_clean p.module (word_below p.module fine.fits),
  (name_clean p.name (new_proc_name f p.module p.name fine.is_new), (number_clean p.arity (omega (arith, fine.arity)), tt)),
)

pub proc_member : Member proc_due proc_words with_proc IsFineProc NoRoom
proc_member = record {
  takes = λ f room next l ls g h.
      let t = form_of (proc_form (words_of l)) (λ p. must (is_fine_proc f p) (next (with_proc f p))) ls g h in
      let is = proc_told (words_of l) t.thing t.is in
      let k = kept_by (is_fine_proc f t.thing) (next (with_proc f t.thing)) ls g t.goes in
      let both = and_parts (nat_lt t.thing.module (length f.statics.modules)) (is_new_proc f t.thing.module t.thing.name) k.0 in
      let fits = name_fits t.thing.name (new_proc_name f t.thing.module t.thing.name both.1) in
      record {
        thing = t.thing;
        fine = record { fits = below_word t.thing.module is.home; is_there = both.0; is_new = both.1; short = fits.0; are = fits.1; arity = omega (arith, is.arity_fits) };
        parts = row_again l (proc_words t.thing) is.are;
        goes = k.1;
      };
  again = λ f p next ls g fine h.
      let clean = proc_clean f p fine in
      let form = ap proc_form (words_again (decimal p.module) (p.name ∷ decimal p.arity ∷ []) clean) ∙ proc_again p (word_below p.module fine.fits) (omega (arith, fine.arity)) in
      formed_again (proc_form (words_of (row (proc_words p)))) p (λ q. must (is_fine_proc f q) (next (with_proc f q))) ls g form
      (kept_again (is_fine_proc f p) (next (with_proc f p)) ls g (and_from (nat_lt p.module (length f.statics.modules)) (is_new_proc f p.module p.name) fine.is_there fine.is_new) h);
  keeps = λ f x room. tt;
  clean = proc_clean;
}

-- call sites
abbrev pub SiteRoom : ProfileRows → Type 0
SiteRoom f = length f.statics.procs < 2 ^ 32

pub callee_comes_back : (o : Option ℕ) → callee_of (kind_called o) ≡ o
callee_comes_back None = refl
callee_comes_back (Some c) = refl

pub kind_comes_back : (kind : SiteKind) → kind_called (callee_of kind) ≡ kind
kind_comes_back (Plain c) = refl
kind_comes_back HigherOrder = refl

record CalleeFits (f : ProfileRows) (kind : SiteKind) : Type 0 where
  pub callee_fits : or_none (callee_of kind) < 2 ^ 32
  pub test : is_callee f (or_none (callee_of kind)) ≡ true
  pub same : kind_of (or_none (callee_of kind)) ≡ kind

callee_fine : (f : ProfileRows) (o : Option ℕ) → SiteRoom f → is_there (length f.statics.procs) o ≡ true → CalleeFits f (kind_called o)
callee_fine f None room there = record { callee_fits = omega arith; test = refl; same = refl }
callee_fine f (Some c) room there =
    let below = ltb-true c (length f.statics.procs) there in
    let other : (c == none) ≡ false = ne_eqb c none (λ same. absurd (omega (arith, below, room, same))) in
    record {
      callee_fits = omega (arith, below, room);
      test = or_right (c == none) (nat_lt c (length f.statics.procs)) there;
      same = cond-false (c == none) HigherOrder (Plain c) other;
    }

plain_there : (n c : ℕ) (b : Bool) → (b || nat_lt c n) ≡ true → cond b HigherOrder (Plain c) ≡ Plain c → nat_lt c n ≡ true
plain_there n c true test kind = absurd (cc kind)
plain_there n c false test kind = test

callee_there : (f : ProfileRows) (kind : SiteKind) → is_callee f (or_none (callee_of kind)) ≡ true → kind_of (or_none (callee_of kind)) ≡ kind → is_there (length f.statics.procs) (callee_of kind) ≡ true
callee_there f (Plain c) test same = plain_there (length f.statics.procs) c (c == none) test same
callee_there f HigherOrder test same = refl

callee_small : (kind : SiteKind) → or_none (callee_of kind) < 2 ^ 32 → IfSome (callee_of kind) (λ n. n ≤ 4294967295)
callee_small (Plain c) below = word_below c below
callee_small HigherOrder below = tt

site_clean : (f : ProfileRows) (x : Site) → IsFineSite f x → AreClean (site_words x)
site_clean f x fine = (
  number_clean x.owner (word_below x.owner fine.owner_fits),
  (number_clean x.line (word_below x.line fine.line_fits), (maybe_clean (callee_of x.kind) (callee_small x.kind fine.callee_fits), tt)),
)

abbrev line_of : Site → SiteLine
line_of x = record { owner = x.owner; line = x.line; callee = callee_of x.kind }

pub site_member : Member site_due site_words with_site IsFineSite SiteRoom
site_member = record {
  takes = λ f room next l ls g h.
      let t = form_of (site_form (words_of l)) (λ x. must (is_fine_site f x) (next (with_site f (site_row x)))) ls g h in
      let is = site_told (words_of l) t.thing t.is in
      let k = kept_by (is_fine_site f t.thing) (next (with_site f (site_row t.thing))) ls g t.goes in
      let both = and_parts (is_owner f t.thing.owner && nat_le 1 t.thing.line) (is_there (length f.statics.procs) t.thing.callee) k.0 in
      let front = and_parts (is_owner f t.thing.owner) (nat_le 1 t.thing.line) both.0 in
      let callee = callee_fine f t.thing.callee room both.1 in
      record {
        thing = site_row t.thing;
        fine = record {
          owner_fits = below_word t.thing.owner is.owner;
          owner = front.0;
          line_fits = below_word t.thing.line is.line;
          line = front.1;
          callee_fits = callee.callee_fits;
          callee = callee.test;
          kind = callee.same;
        };
        parts = row_again l (site_line_words t.thing) is.are ∙ ap (λ (o : Option ℕ). row (decimal t.thing.owner ∷ decimal t.thing.line ∷ or_dash o ∷ [])) (sym (callee_comes_back t.thing.callee));
        goes = k.1;
      };
  again = λ f x next ls g fine h.
      let clean = site_clean f x fine in
      let form = ap site_form (words_again (decimal x.owner) (decimal x.line ∷ or_dash (callee_of x.kind) ∷ []) clean)
      ∙ site_again (line_of x) (word_below x.owner fine.owner_fits) (word_below x.line fine.line_fits) (callee_small x.kind fine.callee_fits) in
      let test = and_from (is_owner f x.owner && nat_le 1 x.line) (is_there (length f.statics.procs) (callee_of x.kind)) (and_from (is_owner f x.owner) (nat_le 1 x.line) fine.owner fine.line) (callee_there f x.kind fine.callee fine.kind) in
      let goes = subst (λ (k : SiteKind). Accepts (next (with_site f (record { owner = x.owner; line = x.line; kind = k }))) ls g) (sym (kind_comes_back x.kind)) h in
      formed_again (site_form (words_of (row (site_words x)))) (line_of x) (λ y. must (is_fine_site f y) (next (with_site f (site_row y)))) ls g form
      (kept_again (is_fine_site f (line_of x)) (next (with_site f (site_row (line_of x)))) ls g test goes);
  keeps = λ f x room. room;
  clean = site_clean;
}

-- contexts
pub context_member : Member context_due context_words with_context IsFineContext NoRoom
context_member = record {
  takes = λ f room next l ls g h.
      let t = form_of (context_form (words_of l)) (λ p. must (nat_lt p (length f.statics.procs)) (next (with_context f p))) ls g h in
      let is = context_told (words_of l) t.thing t.is in
      let k = kept_by (nat_lt t.thing (length f.statics.procs)) (next (with_context f t.thing)) ls g t.goes in
      record { thing = t.thing; fine = record { fits = below_word t.thing is.1; is_there = k.0 }; parts = row_again l (context_words t.thing) is.0; goes = k.1 };
  again = λ f p next ls g fine h.
      let form = ap context_form (words_again (decimal p) [] (number_clean p (word_below p fine.fits), tt)) ∙ context_again p (word_below p fine.fits) in
      formed_again (context_form (words_of (row (context_words p)))) p (λ q. must (nat_lt q (length f.statics.procs)) (next (with_context f q))) ls g form
      (kept_again (nat_lt p (length f.statics.procs)) (next (with_context f p)) ls g fine.is_there h);
  keeps = λ f x room. tt;
  clean = λ f p fine. (number_clean p (word_below p fine.fits), tt);
}
