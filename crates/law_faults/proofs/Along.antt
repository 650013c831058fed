-- What is due behind lines, and how far bytes are the lines of rows.
use Rattle.std.proofs.Common.{◌≡◌, ℕ, ◌⊎◌, inl, inr, List, [], ◌∷◌, ◌++◌, map, refl, sym, ap, subst, ◌∙◌, append_assoc}
use Rattle.std.specs.List.{AllByRecursion}
use Rattle.md_dynamic.specs.Profile.{ProfileRows}
use Rattle.md_dump.specs.Due.{Due, done, line, fault}
use Rattle.md_dump.proofs.Clean.{row, AreClean}
use Rattle.law_faults.specs.Lines.{Line, words, Keeps}
use Rattle.law_faults.proofs.Taken.{Takes}

-- a line without its LF
abbrev pub row_of : Line → List ℕ
row_of x = row (words x)

abbrev pub AreKept : List Line → Type 0
AreKept xs = AllByRecursion Keeps xs

abbrev pub AreAllClean : List Line → Type 0
AreAllClean xs = AllByRecursion (λ x. AreClean (words x)) xs

-- what is due behind lines
abbrev pub after : Due → List (List ℕ) → Due
after due [] = due
after (line told) (l ∷ ls) = after (told l) ls
after (done f) (l ∷ ls) = fault
after fault (l ∷ ls) = fault

pub after_on : (due : Due) (ls ms : List (List ℕ)) → after due (ls ++ ms) ≡ after (after due ls) ms
after_on due [] ms = refl
after_on (line told) (l ∷ ls) ms = after_on (told l) ls ms
after_on (done f) (l ∷ ls) [] = refl
after_on (done f) (l ∷ ls) (m ∷ ms) = refl
after_on fault (l ∷ ls) [] = refl
after_on fault (l ∷ ls) (m ∷ ms) = refl

-- where lines before keep their rules, the next one is due, and it is clean where it keeps its own
abbrev pub Along : Due → List Line → Due → Type 0
Along due [] end = due ≡ end
Along due (x ∷ xs) end = (told : List ℕ → Due) × (due ≡ line told) × (Keeps x → AreClean (words x) × Along (told (row_of x)) xs end)

pub along_on : (due mid end : Due) (xs ys : List Line) → Along due xs mid → Along mid ys end → Along due (xs ++ ys) end
along_on due mid end [] ys a b = subst (λ (d : Due). Along d ys end) (sym a) b
along_on due mid end (x ∷ xs) ys a b = (a.0, a.1, λ keeps. let more = a.2 keeps in (more.0, along_on (a.0 (row_of x)) mid end xs ys more.1 b))

-- behind lines that keep their rules
pub record Passed (due end : Due) (xs ys : List Line) : Type 0 where
  pub goes : Along (after due (map row_of xs)) ys end
  pub clean : AreAllClean xs

pub passed : (due end : Due) (xs ys : List Line) → Along due (xs ++ ys) end → AreKept xs → Passed due end xs ys
passed due end [] ys along kept = record { goes = along; clean = tt }
passed due end (x ∷ xs) ys along kept =
    let more = along.2 kept.0 in
    let t = passed (along.0 (row_of x)) end xs ys more.1 kept.1 in
    record {
      goes = subst (λ (d : Due). Along (after d (row_of x ∷ map row_of xs)) ys end) (sym along.1) t.goes;
      clean = (more.0, t.clean);
    }

pub not_at_fault : (due : Due) (f : ProfileRows) (xs : List Line) → Along due xs (done f) → due ≡ fault → ⊥
not_at_fault due f [] along is = let both : done f ≡ fault = sym along ∙ is in cc both
not_at_fault due f (x ∷ xs) along is = let both : line along.0 ≡ fault = sym along.1 ∙ is in cc both

-- one row of a kind
pub one_along : {X : Type 0} {told : List ℕ → Due} {make : X → Line} {Small : X → Type 0} {next : X → Due} (takes : Takes told make Small next) (x : X) (end : Due) (xs : List Line) → (Keeps (make x) → Small x) → (Keeps (make x) → Along (next x) xs end) → Along (line told) (make x ∷ xs) end
one_along {X} {told} {make} {Small} {next} takes x end xs small more =
    (told, refl, λ keeps. (takes.clean x (small keeps) keeps, subst (λ (d : Due). Along d xs end) (sym (takes.again x (small keeps) keeps)) (more keeps)))

-- ---- how far the parts of a text are such lines

-- the next part is no line that is due: it is the last, or at fault
abbrev pub IsStuck : (List ℕ → Due) → List (List ℕ) → Type 0
IsStuck told [] = ⊥
IsStuck told (last ∷ []) = Unit {0}
IsStuck told (l ∷ m ∷ ps) = told l ≡ fault

pub data Reached (due : Due) (ps : List (List ℕ)) (xs : List Line) (end : Due) : Type 0 where
  whole : (rest : List (List ℕ)) → (rest ≡ [] → ⊥) → AreKept xs → AreAllClean xs → ps ≡ map row_of xs ++ rest → after due (map row_of xs) ≡ end → Reached due ps xs end
  stuck : (first : List Line) (x : Line) (others : List Line) (rest : List (List ℕ)) (told : List ℕ → Due) → xs ≡ first ++ x ∷ others → AreKept first → AreAllClean first → ps ≡ map row_of first ++ rest → after due (map row_of first) ≡ line told → IsStuck told rest → Reached due ps xs end

pub both_all : {X : Type 0} (P : X → Type 0) (xs ys : List X) → AllByRecursion P xs → AllByRecursion P ys → AllByRecursion P (xs ++ ys)
both_all {X} P [] ys a b = b
both_all {X} P (x ∷ xs) ys a b = (a.0, both_all P xs ys a.1 b)

pub map_both : (xs ys : List Line) → map row_of (xs ++ ys) ≡ map row_of xs ++ map row_of ys
map_both [] ys = refl
map_both (x ∷ xs) ys = ap (λ (ls : List (List ℕ)). row_of x ∷ ls) (map_both xs ys)

two_parts : (ps rest more : List (List ℕ)) (xs ys : List Line) → ps ≡ map row_of xs ++ rest → rest ≡ map row_of ys ++ more → ps ≡ map row_of (xs ++ ys) ++ more
two_parts ps rest more xs ys one two =
    one ∙ ap (λ (ls : List (List ℕ)). map row_of xs ++ ls) two ∙ sym (append_assoc (map row_of xs) (map row_of ys) more) ∙ ap (λ (ls : List (List ℕ)). ls ++ more) (sym (map_both xs ys))

two_after : (due mid end : Due) (xs ys : List Line) → after due (map row_of xs) ≡ mid → after mid (map row_of ys) ≡ end → after due (map row_of (xs ++ ys)) ≡ end
two_after due mid end xs ys one two =
    ap (after due) (map_both xs ys) ∙ after_on due (map row_of xs) (map row_of ys) ∙ ap (λ (d : Due). after d (map row_of ys)) one ∙ two

-- the parts that are left; where one is at fault it doesn't matter which
abbrev pub left : {due : Due} {ps : List (List ℕ)} {xs : List Line} {end : Due} → Reached due ps xs end → List (List ℕ)
left (whole rest some kept clean is at) = rest
left (stuck first x others rest told fields kept clean is at stops) = [] ∷ []

pub some_left : {due : Due} {ps : List (List ℕ)} {xs : List Line} {end : Due} (r : Reached due ps xs end) → left r ≡ [] → ⊥
some_left (whole rest some kept clean is at) none = some none
some_left (stuck first x others rest told fields kept clean is at stops) none = cc none

pub reached_on : (due : Due) (ps : List (List ℕ)) (xs : List Line) (mid : Due) (ys : List Line) (end : Due) (r : Reached due ps xs mid) → Reached mid (left r) ys end → Reached due ps (xs ++ ys) end
reached_on due ps xs mid ys end (whole rest some kept clean is at) (whole more last also too are goes) =
    whole more last (both_all Keeps xs ys kept also) (both_all (λ (x : Line). AreClean (words x)) xs ys clean too) (two_parts ps rest more xs ys is are) (two_after due mid end xs ys at goes)
reached_on due ps xs mid ys end (whole rest some kept clean is at) (stuck first x others more told fields also too are goes stops) =
    stuck (xs ++ first) x others more told (ap (λ (zs : List Line). xs ++ zs) fields ∙ sym (append_assoc xs first (x ∷ others))) (both_all Keeps xs first kept also) (both_all (λ (x : Line). AreClean (words x)) xs first clean too)
    (two_parts ps rest more xs first is are) (two_after due mid (line told) xs first at goes) stops
reached_on due ps xs mid ys end (stuck first x others rest told fields kept clean is at stops) next =
    stuck first x (others ++ ys) rest told (ap (λ (zs : List Line). zs ++ ys) fields ∙ append_assoc first (x ∷ others) ys) kept clean is at stops

-- one line: a row that it says, or one that is made up
pub record OneLine {X : Type 0} (told : List ℕ → Due) (make : X → Line) (Small : X → Type 0) (next : X → Due) (ps : List (List ℕ)) : Type 0 where
  pub thing : X
  pub small : Small thing
  pub reached : Reached (line told) ps (make thing ∷ []) (next thing)

pub one_line : {X : Type 0} {told : List ℕ → Due} {make : X → Line} {Small : X → Type 0} {next : X → Due} (takes : Takes told make Small next) (blank : X) → Small blank → (ps : List (List ℕ)) → (ps ≡ [] → ⊥) → OneLine told make Small next ps
one_line {X} {told} {make} {Small} {next} takes blank small [] some = absurd (some refl)
one_line {X} {told} {make} {Small} {next} takes blank small (l ∷ []) some = record { thing = blank; small = small; reached = stuck [] (make blank) [] (l ∷ []) told refl tt tt refl refl tt }
one_line {X} {told} {make} {Small} {next} takes blank small (l ∷ m ∷ ps) some = by (takes.tells l)
  where
    by : (told l ≡ fault) ⊎ ((x : X) × Small x × Keeps (make x) × (l ≡ row (words (make x)))) → OneLine told make Small next (l ∷ m ∷ ps)
    by (inl fails) = record { thing = blank; small = small; reached = stuck [] (make blank) [] (l ∷ m ∷ ps) told refl tt tt refl refl fails }
    by (inr t) = record {
      thing = t.0;
      small = t.1;
      reached = whole (m ∷ ps) (λ none. cc none) (t.2, tt) (takes.clean t.0 t.1 t.2, tt) (ap (λ (k : List ℕ). k ∷ m ∷ ps) t.3) (takes.again t.0 t.1 t.2);
    }
