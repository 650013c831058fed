-- A format that expects fields one after the other.
use Rattle.std.proofs.Common.{◌≡◌, ℕ, suc, ◌+◌, List, [], ◌∷◌, ◌++◌, length, sym, ap, subst, ◌∙◌, append_assoc, append-nil, length-append, arith}
use Rattle.std.specs.List.{AllByRecursion}
use Rattle.md_dynamic.specs.Profile.{ProfileRows}
use Rattle.md_deepfile.specs.Fields.{Text, Next}
use Rattle.md_deepfile.specs.Format.{read, several}
use Rattle.law_damage.specs.Fields.{HasRoom, Field, value, written, laid, Keeps, behind}
use Rattle.law_damage.proofs.Expected.{Expects}

-- each field as long as those before it keep their rules
abbrev pub Along : Text → List Field → Text → Type 0
Along form [] end = form ≡ end
Along form (x ∷ xs) end = (next : Text) × Expects form x next × (Keeps x → Along next xs end)

pub along_on : (form mid end : Text) (xs ys : List Field) → Along form xs mid → Along mid ys end → Along form (xs ++ ys) end
along_on form mid end [] ys a b = subst (λ (f : Text). Along f ys end) (sym a) b
along_on form mid end (x ∷ xs) ys a b = (a.0, a.1, λ keeps. along_on a.0 mid end xs ys (a.2 keeps) b)

-- rows one behind the other
pub behind_along : {X : Type 0} (thing : ProfileRows → Next → Text) (fields_of : List X → X → List Field) (at : List X → ProfileRows) (P : X → Type 0) (next : Next)
    → ((before : List X) (x : X) (more : Next) → P x → Along (thing (at before) more) (fields_of before x) (more (at (before ++ x ∷ []))))
    → (before xs : List X) → AllByRecursion P xs → Along (several thing (length xs) (at before) next) (behind fields_of before xs) (next (at (before ++ xs)))
behind_along {X} thing fields_of at P next step before [] all = ap (λ (ys : List X). next (at ys)) (sym (append-nil before))
behind_along {X} thing fields_of at P next step before (x ∷ xs) all =
    along_on (several thing (suc (length xs)) (at before) next) (several thing (length xs) (at (before ++ x ∷ [])) next) (next (at (before ++ x ∷ xs))) (fields_of before x) (behind fields_of (before ++ x ∷ []) xs)
    (step before x (λ (g : ProfileRows). several thing (length xs) g next) all.0)
    (subst (λ (ys : List X). Along (several thing (length xs) (at (before ++ x ∷ [])) next) (behind fields_of (before ++ x ∷ []) xs) (next (at ys))) (append_assoc before (x ∷ []) xs)
    (behind_along thing fields_of at P next step (before ++ x ∷ []) xs all.1))

pub anything : {X : Type 0} (xs : List X) → AllByRecursion (λ (x : X). Unit {0}) xs
anything {X} [] = tt
anything {X} (x ∷ xs) = (tt, anything xs)

abbrev pub AreRoomy : List Field → Type 0
AreRoomy xs = AllByRecursion (λ x. HasRoom (value x)) xs

abbrev pub AreKept : List Field → Type 0
AreKept xs = AllByRecursion Keeps xs

-- where the format is behind fields that keep their rules
pub record Passed (form end : Text) (xs ys : List Field) (at : ℕ) (rest : List ℕ) : Type 0 where
  pub mid : Text
  pub goes : Along mid ys end
  pub is : read form at (laid xs ++ rest) ≡ read mid (at + length (laid xs)) rest

pub passed : (form end : Text) (xs ys : List Field) → Along form (xs ++ ys) end → AreRoomy xs → AreKept xs → (at : ℕ) (rest : List ℕ) → Passed form end xs ys at rest
passed form end [] ys along rooms kept at rest =
    let same : at ≡ at + 0 = omega arith in
    record { mid = form; goes = along; is = ap (λ (n : ℕ). read form n rest) same }
passed form end (x ∷ xs) ys along rooms kept at rest =
    let more = passed along.0 end xs ys (along.2 kept.0) rooms.1 kept.1 (at + length (written x)) rest in
    let size : (at + length (written x)) + length (laid xs) ≡ at + length (written x ++ laid xs) = omega (arith, length-append (written x) (laid xs)) in
    record {
      mid = more.mid;
      goes = more.goes;
      is = ap (read form at) (append_assoc (written x) (laid xs) rest) ∙ along.1.goes rooms.0 kept.0 at (laid xs ++ rest) ∙ more.is ∙ ap (λ (n : ℕ). read more.mid n rest) size;
    }
