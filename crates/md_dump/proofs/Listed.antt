-- A section, whole: its lines are taken for things that are fine, and are those of the things.
use Rattle.std.proofs.Common.{◌≡◌, ℕ, zero, suc, ◌<◌, ◌≤◌, ◌^◌, nat_le, List, [], ◌∷◌, ◌++◌, length, codes, map, refl, sym, ap, subst, ◌∙◌}
use Rattle.std.specs.Fmt.{decimal}
use Rattle.std.specs.List.{AllByRecursion}
use Rattle.std.proofs.lemmas.Bool.{leb-true, le-leb}
use Rattle.md_dynamic.specs.Profile.{ProfileRows}
use Rattle.md_deepfile.proofs.Things.{adds, AllFine}
use Rattle.md_dump.specs.Due.{must}
use Rattle.md_dump.specs.Forms.{words_of, count_form}
use Rattle.md_dump.specs.Lines.{Next, thing_due, several, name_of, least_of, section_due}
use Rattle.md_dump.specs.Text.{Words, count_words, listed}
use Rattle.md_dump.specs.declared.section.Section.{Section}
use Rattle.md_dump.specs.declared.section.Section.TheVariants as sections
use Rattle.md_dump.proofs.Accepting.{Accepts, kept_by, form_of}
use Rattle.md_dump.proofs.Clean.{row, AreClean, row_without, words_again, row_again, name_clean, number_clean}
use Rattle.md_dump.proofs.Formed.{below_word, word_below}
use Rattle.md_dump.proofs.Joined.{IsWithout}
use Rattle.md_dump.proofs.Members.{Member, formed_again, kept_again}
use Rattle.md_dump.proofs.Shapes.{count_told, count_again}

-- lines without a line end
abbrev pub AreLines : List (List ℕ) → Type 0
AreLines ls = AllByRecursion (IsWithout 10) ls

pub both_lines : (ls ms : List (List ℕ)) → AreLines ls → AreLines ms → AreLines (ls ++ ms)
both_lines [] ms first second = second
both_lines (l ∷ ls) ms first second = (first.0, both_lines ls ms first.1 second)

count_clean : (section : Section) (n : ℕ) → n ≤ 4294967295 → AreClean (count_words (name_of section) n)
count_clean sections.Modules n below = (name_clean (codes "modules") refl, (number_clean n below, tt))
count_clean sections.Procs n below = (name_clean (codes "procs") refl, (number_clean n below, tt))
count_clean sections.Sites n below = (name_clean (codes "sites") refl, (number_clean n below, tt))
count_clean sections.Contexts n below = (name_clean (codes "contexts") refl, (number_clean n below, tt))
count_clean sections.Links n below = (name_clean (codes "links") refl, (number_clean n below, tt))

module _ {X : Type 0} (section : Section) (words : X → Words) (add : ProfileRows → X → ProfileRows) (Fine : ProfileRows → X → Type 0) (Room : ProfileRows → Type 0) (member : Member (thing_due section) words add Fine Room) where
  pub record SeveralTaken (n : ℕ) (f : ProfileRows) (next : Next) (ls : List (List ℕ)) (g : ProfileRows) : Type 0 where
    pub things : List X
    pub rest : List (List ℕ)
    pub size : length things ≡ n
    pub fine : AllFine add Fine f things
    pub parts : ls ≡ map row (map words things) ++ rest
    pub goes : Accepts (next (adds add f things)) rest g

  several_takes : (n : ℕ) (f : ProfileRows) → Room f → (next : Next) (ls : List (List ℕ)) (g : ProfileRows) → Accepts (several section n f next) ls g → SeveralTaken n f next ls g
  several_takes zero f room next ls g h = record { things = []; rest = ls; size = refl; fine = tt; parts = refl; goes = h }
  several_takes (suc n) f room next [] g h = absurd h
  several_takes (suc n) f room next (l ∷ ls) g h =
      let one = member.takes f room (λ (e : ProfileRows). several section n e next) l ls g h in
      let t = several_takes n (add f one.thing) (member.keeps f one.thing room) next ls g one.goes in
      record {
        things = one.thing ∷ t.things;
        rest = t.rest;
        size = ap (λ (k : ℕ). suc k) t.size;
        fine = (one.fine, t.fine);
        parts = ap (λ (k : List ℕ). k ∷ ls) one.parts ∙ ap (λ (ks : List (List ℕ)). row (words one.thing) ∷ ks) t.parts;
        goes = t.goes;
      }

  several_again : (xs : List X) (f : ProfileRows) (next : Next) (rest : List (List ℕ)) (g : ProfileRows) → AllFine add Fine f xs → Accepts (next (adds add f xs)) rest g → Accepts (several section (length xs) f next) (map row (map words xs) ++ rest) g
  several_again [] f next rest g fine h = h
  several_again (x ∷ xs) f next rest g fine h =
      member.again f x (λ (e : ProfileRows). several section (length xs) e next) (map row (map words xs) ++ rest) g fine.0 (several_again xs (add f x) next rest g fine.1 h)

  several_lines : (xs : List X) (f : ProfileRows) → AllFine add Fine f xs → AreLines (map row (map words xs))
  several_lines [] f fine = tt
  several_lines (x ∷ xs) f fine = (row_without (words x) (member.clean f x fine.0), several_lines xs (add f x) fine.1)

  -- behind the number of its lines
  pub record SectionTaken (f : ProfileRows) (next : Next) (ls : List (List ℕ)) (g : ProfileRows) : Type 0 where
    pub things : List X
    pub rest : List (List ℕ)
    pub few : length things < 2 ^ 32
    pub enough : least_of section ≤ length things
    pub fine : AllFine add Fine f things
    pub parts : ls ≡ map row (listed (name_of section) words things) ++ rest
    pub goes : Accepts (next (adds add f things)) rest g

  pub section_takes : (f : ProfileRows) → Room f → (next : Next) (ls : List (List ℕ)) (g : ProfileRows) → Accepts (section_due section f next) ls g → SectionTaken f next ls g
  section_takes f room next [] g h = absurd h
  section_takes f room next (l ∷ ls) g h =
      let n = form_of (count_form (name_of section) (words_of l)) (λ k. must (nat_le (least_of section) k) (several section k f next)) ls g h in
      let is = count_told (name_of section) (words_of l) n.thing n.is in
      let k = kept_by (nat_le (least_of section) n.thing) (several section n.thing f next) ls g n.goes in
      let t = several_takes n.thing f room next ls g k.1 in
      record {
        things = t.things;
        rest = t.rest;
        few = subst (λ (j : ℕ). j < 2 ^ 32) (sym t.size) (below_word n.thing is.1);
        enough = subst (λ (j : ℕ). least_of section ≤ j) (sym t.size) (leb-true (least_of section) n.thing k.0);
        fine = t.fine;
        parts = ap (λ (j : List ℕ). j ∷ ls) (row_again l (count_words (name_of section) n.thing) is.0)
            ∙ ap (λ (j : ℕ). row (count_words (name_of section) j) ∷ ls) (sym t.size)
            ∙ ap (λ (ks : List (List ℕ)). row (count_words (name_of section) (length t.things)) ∷ ks) t.parts;
        goes = t.goes;
      }

  pub section_again : (xs : List X) (f : ProfileRows) (next : Next) (rest : List (List ℕ)) (g : ProfileRows) → length xs < 2 ^ 32 → least_of section ≤ length xs → AllFine add Fine f xs → Accepts (next (adds add f xs)) rest g
      → Accepts (section_due section f next) (map row (listed (name_of section) words xs) ++ rest) g
  section_again xs f next rest g few enough fine h =
      let below = word_below (length xs) few in
      let form = ap (count_form (name_of section)) (words_again (name_of section) (decimal (length xs) ∷ []) (count_clean section (length xs) below)) ∙ count_again (name_of section) (length xs) below in
      formed_again (count_form (name_of section) (words_of (row (count_words (name_of section) (length xs))))) (length xs) (λ k. must (nat_le (least_of section) k) (several section k f next)) (map row (map words xs) ++ rest) g form
      (kept_again (nat_le (least_of section) (length xs)) (several section (length xs) f next) (map row (map words xs) ++ rest) g (le-leb (least_of section) (length xs) enough) (several_again xs f next rest g fine h))

  pub section_lines : (xs : List X) (f : ProfileRows) → length xs < 2 ^ 32 → AllFine add Fine f xs → AreLines (map row (listed (name_of section) words xs))
  section_lines xs f few fine = (row_without (count_words (name_of section) (length xs)) (count_clean section (length xs) (word_below (length xs) few)), several_lines xs f fine)
