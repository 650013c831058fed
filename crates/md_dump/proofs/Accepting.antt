-- What a reader takes: the same recursion as reading, without numbers of lines.
use Rattle.std.proofs.Common.{◌≡◌, ℕ, ◌+◌, ◌-◌, Bool, true, false, List, [], ◌∷◌, ◌++◌, length, Option, None, Some, Ok, Err, refl, ap, ◌∙◌}
use Rattle.md_dynamic.specs.Profile.{ProfileRows}
use Rattle.md_deepfile.specs.Rules.{orphan_from}
use Rattle.md_dump.specs.Due.{Due, done, line, fault, must, given, reached, read}
use Rattle.md_dump.proofs.Steps.{next_read}

abbrev pub Accepts : Due → List (List ℕ) → ProfileRows → Type 0
Accepts (done f) [] g = (orphan_from f.links 1 (length f.nodes - 1) ≡ None) × (f ≡ g)
Accepts (done f) (l ∷ ls) g = ⊥
Accepts (line next) [] g = ⊥
Accepts (line next) (l ∷ ls) g = Accepts (next l) ls g
Accepts fault ls g = ⊥

-- a rule that is kept, and a form that is there
pub kept_by : (fine : Bool) (next : Due) (ls : List (List ℕ)) (g : ProfileRows) → Accepts (must fine next) ls g → (fine ≡ true) × Accepts next ls g
kept_by true next ls g h = (refl, h)
kept_by false next ls g h = absurd h

pub record FormOf {X : Type 0} (form : Option X) (next : X → Due) (ls : List (List ℕ)) (g : ProfileRows) : Type 0 where
  pub thing : X
  pub is : form ≡ Some thing
  pub goes : Accepts (next thing) ls g

pub form_of : {X : Type 0} (form : Option X) (next : X → Due) (ls : List (List ℕ)) (g : ProfileRows) → Accepts (given form next) ls g → FormOf form next ls g
form_of {X} None next ls g h = absurd h
form_of {X} (Some x) next ls g h = record { thing = x; is = refl; goes = h }

-- the lines that were read, and nothing behind the last
pub record LinesRead (due : Due) (ps : List (List ℕ)) (g : ProfileRows) : Type 0 where
  pub lines : List (List ℕ)
  pub are : ps ≡ lines ++ [] ∷ []
  pub goes : Accepts due lines g

no_error : (n : ℕ) (g : ProfileRows) → Err n ≡ Ok g → ⊥
no_error n g e = cc e

whole_is : (n : ℕ) (f g : ProfileRows) (o : Option ℕ) → reached n f o ≡ Ok g → (o ≡ None) × (f ≡ g)
whole_is n f g None e = (refl, cc e)
whole_is n f g (Some v) e = absurd (no_error _ g e)

pub read_accepts : (due : Due) (before : ℕ) (ps : List (List ℕ)) (g : ProfileRows) → (ps ≡ [] → ⊥) → read due before ps ≡ Ok g → LinesRead due ps g
read_accepts fault before ps g some e = absurd (no_error before g e)
read_accepts (line next) before [] g some e = absurd (some refl)
read_accepts (line next) before (p ∷ []) g some e = absurd (no_error _ g e)
read_accepts (line next) before (p ∷ q ∷ ps) g some e =
    let t = read_accepts (next p) (before + 1) (q ∷ ps) g (λ none. cc none) e in
    record { lines = p ∷ t.lines; are = ap (λ (xs : List (List ℕ)). p ∷ xs) t.are; goes = t.goes }
read_accepts (done f) before [] g some e = absurd (some refl)
read_accepts (done f) before ([] ∷ []) g some e = record { lines = []; are = refl; goes = whole_is before f g (orphan_from f.links 1 (length f.nodes - 1)) e }
read_accepts (done f) before ((b ∷ bs) ∷ []) g some e = absurd (no_error _ g e)
read_accepts (done f) before (p ∷ q ∷ ps) g some e = absurd (no_error _ g e)

more_parts : (ls : List (List ℕ)) → ls ++ [] ∷ [] ≡ [] → ⊥
more_parts [] e = cc e
more_parts (l ∷ ls) e = cc e

pub accepts_read : (due : Due) (before : ℕ) (ls : List (List ℕ)) (g : ProfileRows) → Accepts due ls g → read due before (ls ++ [] ∷ []) ≡ Ok g
accepts_read fault before ls g h = absurd h
accepts_read (line next) before [] g h = absurd h
accepts_read (line next) before (l ∷ ls) g h = next_read next before l (ls ++ [] ∷ []) (more_parts ls) ∙ accepts_read (next l) (before + 1) ls g h
accepts_read (done f) before [] g h = ap (reached before f) h.0 ∙ ap (λ (e : ProfileRows). Ok e) h.1
accepts_read (done f) before (l ∷ ls) g h = absurd h
