-- Steps of a reader: the next line, and the end.
use Rattle.std.proofs.Common.{◌≡◌, ℕ, suc, ◌+◌, ◌-◌, ◌<◌, ◌≤◌, nat_le, Bool, true, false, cond, ◌==◌, Option, Some, None, sym, List, [], ◌∷◌, length, drop, get_or, subst, codes, Err, refl, ap, ◌∙◌, arith}
use Rattle.std.proofs.Math.Seq.{drop-cons}
use Rattle.std.proofs.lemmas.Grind.{common_steps}
use Rattle.std.proofs.lemmas.Bool.{le-leb, lt-leb}
use Rattle.std.specs.List.{onto_first}
use Rattle.std.specs.Str.{bytes_eq}
use Rattle.md_dynamic.specs.Profile.{ProfileRows}
use Rattle.md_dump.specs.Due.{Due, done, line, must, given, parts_of, read}
use Rattle.md_dump.specs.Forms.{words_of, count_form}
use Rattle.md_dump.specs.Left.{read_on}
use Rattle.md_dump.specs.Lines.{Next, name_of, least_of, count_due, several, thing_due, section_due, sections_due, finished_due}
use Rattle.md_dump.specs.Follows.{IsFault}
use Rattle.md_dump.specs.declared.fault.DumpFault.{DumpFault}
use Rattle.md_dump.specs.declared.lines.Lines.{Lines}
use Rattle.md_dump.specs.declared.section.Section.{Section}
use Rattle.md_dump.proofs.Cuts.{some_part}

-- a line is there, and further parts
pub next_read : (next : List ℕ → Due) (before : ℕ) (l : List ℕ) (ps : List (List ℕ)) → (ps ≡ [] → ⊥) → read (line next) before (l ∷ ps) ≡ read (next l) (before + 1) ps
next_read next before l [] some = absurd (some refl)
next_read next before l (p ∷ ps) some = refl

pub line_read : (next : List ℕ → Due) (before : ℕ) (l rest : List ℕ) → read (line next) before (l ∷ parts_of rest) ≡ read (next l) (before + 1) (parts_of rest)
line_read next before l rest = next_read next before l (parts_of rest) (some_part (λ b. b == 10) rest)

-- bytes behind the last line that is due
pub past_end : (f : ProfileRows) (before : ℕ) (rest : List ℕ) → 0 < length rest → read (done f) before (parts_of rest) ≡ Err (before + 1)
past_end f before [] some = absurd (omega (arith, some))
past_end f before (b ∷ bs) some = at (b == 10) (parts_of bs) (some_part (λ c. c == 10) bs)
  where
    at : (lf : Bool) (ps : List (List ℕ)) → (ps ≡ [] → ⊥) → read (done f) before (cond lf ([] ∷ ps) (onto_first b ps)) ≡ Err (before + 1)
    at lf [] there = absurd (there refl)
    at true (p ∷ ps) there = refl
    at false (p ∷ []) there = refl
    at false (p ∷ q ∷ ps) there = refl

-- a rule on the line that was read last is kept, or that line is at fault
pub kept : (fine : Bool) (next : Due) (lines : Lines) → fine ≡ true → read_on (must fine next) lines ≡ read_on next lines
kept fine next lines holds = ap (λ (b : Bool). read_on (must b next) lines) holds

pub broken : (fine : Bool) (next : Due) (lines : Lines) → fine ≡ false → read_on (must fine next) lines ≡ Err lines.before
broken fine next lines fails = ap (λ (b : Bool). read_on (must b next) lines) fails

-- the line that was read last has the form that is due, or is at fault
pub formed : {X : Type 0} (form : Option X) (x : X) (next : X → Due) (lines : Lines) → form ≡ Some x → read_on (given form next) lines ≡ read_on (next x) lines
formed {X} form x next lines is = ap (λ (o : Option X). read_on (given o next) lines) is

pub unformed : {X : Type 0} (form : Option X) (next : X → Due) (lines : Lines) → form ≡ None → read_on (given form next) lines ≡ Err lines.before
unformed {X} form next lines is = ap (λ (o : Option X). read_on (given o next) lines) is

-- the same of the number of a section's members
pub counted : (section : Section) (f : ProfileRows) (next : Next) (l : List ℕ) (n : ℕ) (lines : Lines) → Some n ≡ count_form (name_of section) (words_of l) → least_of section ≤ n
    → read_on (count_due section f next l) lines ≡ read_on (several section n f next) lines
counted section f next l n lines is least =
    formed (count_form (name_of section) (words_of l)) n (λ k. must (nat_le (least_of section) k) (several section k f next)) lines (sym is)
    ∙ kept (nat_le (least_of section) n) (several section n f next) lines (le-leb (least_of section) n least)

pub too_few : (section : Section) (f : ProfileRows) (next : Next) (l : List ℕ) (n : ℕ) (lines : Lines) → Some n ≡ count_form (name_of section) (words_of l) → n < least_of section
    → read_on (count_due section f next l) lines ≡ Err lines.before
too_few section f next l n lines is least =
    formed (count_form (name_of section) (words_of l)) n (λ k. must (nat_le (least_of section) k) (several section k f next)) lines (sym is)
    ∙ broken (nat_le (least_of section) n) (several section n f next) lines (lt-leb (least_of section) n least)

-- the line that says whether the run was finished
abbrev yes : List ℕ
yes = codes "finished yes"

abbrev no : List ℕ
no = codes "finished no"

pub finished_yes : (next : Bool → Due) (l : List ℕ) (lines : Lines) → bytes_eq l yes ≡ true → read_on (finished_due next l) lines ≡ read_on (next true) lines
finished_yes next l lines is = ap (λ (b : Bool). read_on (cond b (next true) (must (bytes_eq l no) (next false))) lines) is

pub finished_no : (next : Bool → Due) (l : List ℕ) (lines : Lines) → bytes_eq l yes ≡ false → bytes_eq l no ≡ true → read_on (finished_due next l) lines ≡ read_on (next false) lines
finished_no next l lines isnt is =
    ap (λ (b : Bool). read_on (cond b (next true) (must (bytes_eq l no) (next false))) lines) isnt ∙ kept (bytes_eq l no) (next false) lines is

pub finished_neither : (next : Bool → Due) (l : List ℕ) (lines : Lines) → bytes_eq l yes ≡ false → bytes_eq l no ≡ false → read_on (finished_due next l) lines ≡ Err lines.before
finished_neither next l lines isnt is =
    ap (λ (b : Bool). read_on (cond b (next true) (must (bytes_eq l no) (next false))) lines) isnt ∙ broken (bytes_eq l no) (next false) lines is

-- one member more of a section
left_of : (n i : ℕ) → i < n → n - i ≡ suc (n - (i + 1))
left_of n i below = omega arith

pub member_read : (section : Section) (f g : ProfileRows) (next : Next) (old now : Lines) (n i : ℕ) → i < n
    → ((more : Next) → read_on (line (thing_due section f more)) old ≡ read_on (more g) now) → read_on (several section (n - i) f next) old ≡ read_on (several section (n - (i + 1)) g next) now
member_read section f g next old now n i below h =
    ap (λ (k : ℕ). read_on (several section k f next) old) (left_of n i below) ∙ h (λ e. several section (n - (i + 1)) e next)

pub member_faulty : (section : Section) (f : ProfileRows) (next : Next) (old : Lines) (n i : ℕ) (why : DumpFault) → i < n
    → ((more : Next) → IsFault why (read_on (line (thing_due section f more)) old)) → IsFault why (read_on (several section (n - i) f next) old)
member_faulty section f next old n i why below h =
    subst (IsFault why) (sym (ap (λ (k : ℕ). read_on (several section k f next) old) (left_of n i below))) (h (λ e. several section (n - (i + 1)) e next))

pub last_member : (section : Section) (f : ProfileRows) (next : Next) (old : Lines) (n i : ℕ) → n ≤ i → read_on (several section (n - i) f next) old ≡ read_on (next f) old
last_member section f next old n i all = ap (λ (k : ℕ). read_on (several section k f next) old) (let none : n - i ≡ 0 = omega arith in none)

-- one section more
pub section_read : (sections : List Section) (i : ℕ) (section : Section) (f g : ProfileRows) (next : Next) (old now : Lines) → drop i sections ≡ section ∷ drop (i + 1) sections
    → ((more : Next) → read_on (section_due section f more) old ≡ read_on (more g) now) → read_on (sections_due (drop i sections) f next) old ≡ read_on (sections_due (drop (i + 1) sections) g next) now
section_read sections i section f g next old now is h =
    ap (λ (ss : List Section). read_on (sections_due ss f next) old) is ∙ h (λ e. sections_due (drop (i + 1) sections) e next)

pub section_faulty : (sections : List Section) (i : ℕ) (section : Section) (f : ProfileRows) (next : Next) (old : Lines) (why : DumpFault) → drop i sections ≡ section ∷ drop (i + 1) sections
    → ((more : Next) → IsFault why (read_on (section_due section f more) old)) → IsFault why (read_on (sections_due (drop i sections) f next) old)
section_faulty sections i section f next old why is h =
    subst (IsFault why) (sym (ap (λ (ss : List Section). read_on (sections_due ss f next) old) is)) (h (λ e. sections_due (drop (i + 1) sections) e next))

pub next_section : (sections : List Section) (i : ℕ) (d : Section) → i < length sections → drop i sections ≡ get_or sections i d ∷ drop (i + 1) sections
next_section sections i d below = grind (arith, common_steps, drop-cons)
