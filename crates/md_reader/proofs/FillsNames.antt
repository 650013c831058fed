-- What one token took can be filled up: variables, names that may be qualified, and values.
use Rattle.std.proofs.Common.{◌≡◌, ℕ, zero, suc, ◌+◌, ◌≤◌, ◌<◌, List, [], ◌∷◌, ◌++◌, length, refl, Bool, true, false, cond, not, inl, inr, Option, Some, None, Ok, sym, ap, ◌∙◌, arith, nat_lt, ◌==◌, length-append}
use Rattle.std.specs.Prelude.{codes, pos, unwrap_or}
use Rattle.std.specs.List.{list_any}
use Rattle.std.specs.Str.{bytes_eq}
use Rattle.std.proofs.lemmas.Slice.Eq.{bytes_eq-Decides}
use Rattle.std.proofs.lemmas.List.Sums.{prefix_len-le-length}
use Rattle.md_hlds.specs.declared.goal.PredName.{PredName}
use Rattle.md_hlds.specs.declared.goal.Term.TheVariants as term
use Rattle.md_hlds.specs.HldsGoal.{SimpleGoal, Unifies}
use Rattle.md_hlds.specs.Hlds.{same_qualifier}
use Rattle.md_token.specs.declared.kind.Kind.{Kind}
use Rattle.md_token.specs.declared.kind.Kind.TheVariants as kind
use Rattle.md_token.specs.Kinds.{same_kind}
use Rattle.md_token.specs.Token.{Lexeme, word_kind}
use Rattle.md_token.specs.Literal.{number_of, string_value}
use Rattle.md_reader.specs.Input.{Input, Parser, and_then, refuse, limit, variable, site, end_clause, with_variable, place_of, first, place, token, kind_at, sees, next}
use Rattle.md_reader.specs.Rules as rule
use Rattle.md_reader.proofs.Steps.{same_itself}
use Rattle.md_reader.proofs.Words.{not_among}
use Rattle.md_reader.proofs.Fills.{upon, Or, Every, State, Law, Fill, Fills, refused_at}
use Rattle.md_reader.proofs.FillsTokens.{live, spelled, seen_live, taken_at, over_at, filled_by, same_bytes, not_less, Below, Home, Seen}

-- ---- variables

pub below_more : (xs : List ℕ) (m n : ℕ) → m ≤ n → Below xs m → Below xs n
below_more [] m n le b = tt
below_more (x ∷ xs) m n le b = let l = b.0 in (omega (arith, le, l), below_more xs m n le b.1)

pub below_also : (xs : List ℕ) (x n : ℕ) → Below xs n → x < n → Below (xs ++ x ∷ []) n
below_also [] x n b l = (l, tt)
below_also (y ∷ xs) x n b l = (b.0, below_also xs x n b.1 l)

other_number : (m n : ℕ) → m < n → (m == n) ≡ false
other_number m n e = grind arith

none_below : (xs : List ℕ) (n : ℕ) → Below xs n → list_any (λ x. x == n) xs ≡ false
none_below [] n b = refl
none_below (x ∷ xs) n b = rw (other_number x n b.0, none_below xs n b.1) refl

-- more bytes than these names have
size : List (List ℕ) → ℕ
size [] = 0
size (v ∷ vs) = suc (length v + size vs)

capitals : ℕ → List ℕ
capitals zero = 65 ∷ []
capitals (suc n) = 65 ∷ capitals n

-- a name that is none of these
pub fresh : List (List ℕ) → List ℕ
fresh vs = capitals (size vs)

length_capitals : (n : ℕ) → length (capitals n) ≡ suc n
unfolding capitals
length_capitals zero = refl
length_capitals (suc n) = ap suc (length_capitals n)

unequal : (b : Bool) → (b ≡ true → ⊥) → b ≡ false
unequal true h = absurd (h refl)
unequal false h = refl

longer_none : (x : List ℕ) (vs : List (List ℕ)) → size vs < length x → list_any (bytes_eq x) vs ≡ false
unfolding size
longer_none x [] l = refl
longer_none x (v ∷ vs) l =
    let other : bytes_eq x v ≡ false = unequal (bytes_eq x v) (λ e. let same : length x ≡ length v = ap length ((bytes_eq-Decides x v).0 e) in absurd (omega (arith, l, same))) in
    rw (other, longer_none x vs (omega (arith, l))) refl

fresh_place : (vs : List (List ℕ)) → place_of (fresh vs) vs ≡ length vs
unfolding fresh
fresh_place vs = not_among (fresh vs) vs (longer_none (fresh vs) vs (let e = length_capitals (size vs) in omega (arith, e)))

with_place : (b : Bool) (m : ℕ) (x : List ℕ) (vs : List (List ℕ)) → (m == length vs) ≡ b → m ≤ length vs → (m < length (cond b (vs ++ x ∷ []) vs)) × (length vs ≤ length (cond b (vs ++ x ∷ []) vs))
with_place true m x vs e le = let l = length-append vs (x ∷ []) in (omega (arith, l, le), omega (arith, l))
with_place false m x vs e le = (grind arith, omega arith)

place_below : (x : List ℕ) (vs : List (List ℕ)) → (place_of x vs < length (with_variable x vs)) × (length vs ≤ length (with_variable x vs))
unfolding with_variable
place_below x vs = with_place (place_of x vs == length vs) (place_of x vs) x vs refl (prefix_len-le-length (λ v. not (bytes_eq x v)) vs)

denied : (b : Bool) → not b ≡ false → b ≡ true
denied true h = refl
denied false h = absurd (cc)

module _ (h : List ℕ) (F K : Lexeme → Type 0) (seen : List ℕ) (i : Input) (s : Seen h seen i.home i.vars) where
  abbrev After : ℕ → State
  After x = Seen h (seen ++ x ∷ [])

  seen_after : (x : List ℕ) → After (place_of x i.vars) i.home (with_variable x i.vars)
  seen_after x = let p = place_below x i.vars in (s.0, below_also seen (place_of x i.vars) (length (with_variable x i.vars)) (below_more seen (length i.vars) (length (with_variable x i.vars)) p.1 s.1) p.0)

  variable_fill : F (spelled kind.Variable (fresh i.vars) i) → Fill After F K (λ n. variable seen) i
  unfolding variable sees token next
  variable_fill f =
      let new : list_any (λ x. x == place_of (fresh i.vars) i.vars) seen ≡ false = rw (fresh_place i.vars) (none_below seen (length i.vars) s.1) in
      filled_by After F K (λ n. variable seen) i (spelled kind.Variable (fresh i.vars) i) (place_of (fresh i.vars) i.vars) (with_variable (fresh i.vars) i.vars) (length (fresh i.vars)) f (seen_after (fresh i.vars))
      (λ n tail le. rw (same_itself kind.Variable, new, not_less n (length (fresh i.vars)) le) refl)

  variable_by : (a b c : Bool) → not (sees kind.Variable i) ≡ a → list_any (λ x. x == place_of (token i).text i.vars) seen ≡ b → Fill After (Or F i) K (λ n. variable seen) i
      → Law After F K (λ n. variable seen) i (cond a (refuse i) (cond b (refuse i) (cond c (limit i) (Ok (place_of (token i).text i.vars, record (next i) { vars = with_variable (token i).text i.vars })))))
  unfolding variable sees token next
  variable_by true b c e f w = refused_at After F K (λ n. variable seen) i w (λ n later. (place (upon n (first i.rest ∷ later) i), rw e refl))
  variable_by false true c e f w = refused_at After F K (λ n. variable seen) i w (λ n later. (place (upon n (first i.rest ∷ later) i), rw (e, f) refl))
  variable_by false false true e f w =
      over_at After F K (λ n. variable seen) i (place_of (first i.rest).text i.vars) (with_variable (first i.rest).text i.vars) (length (first i.rest).text)
      (λ n tail le. rw (e, f, not_less n (length (first i.rest).text) le) refl) (seen_after (first i.rest).text)
  variable_by false false false e f w =
      taken_at After F K (λ n. variable seen) i (place_of (first i.rest).text i.vars) (with_variable (first i.rest).text i.vars) (length (first i.rest).text)
      (λ n tail le. rw (e, f, not_less n (length (first i.rest).text) le) refl) (seen_live kind.Variable i (denied _ e) refl) (seen_after (first i.rest).text)

  variable_law : Fill After (Or F i) K (λ n. variable seen) i → Law After F K (λ n. variable seen) i (variable seen i)
  unfolding variable
  variable_law w = variable_by (not (sees kind.Variable i)) (list_any (λ x. x == place_of (token i).text i.vars) seen) (nat_lt i.limits.items (length (token i).text)) refl refl w

pub variables : (h : List ℕ) (F K : Lexeme → Type 0) (seen : List ℕ) → ((i : Input) → F (spelled kind.Variable (fresh i.vars) i)) → Fills (Seen h seen) (λ x. Seen h (seen ++ x ∷ [])) F K (variable seen) (λ n. variable seen)
variables h F K seen f = record {
  law = λ i s. variable_law h F K seen i s (variable_fill h (Or F i) K seen i s (inl (f i)));
  fill = λ i s. variable_fill h F K seen i s (f i);
}

-- where a variable comes next
pub variable_at : (h : List ℕ) (F K : Lexeme → Type 0) (seen : List ℕ) (i : Input) → kind_at i ≡ kind.Variable → Seen h seen i.home i.vars → Law (λ x. Seen h (seen ++ x ∷ [])) F K (λ n. variable seen) i (variable seen i)
unfolding token
variable_at h F K seen i e s = variable_law h F K seen i s (variable_fill h (Or F i) K seen i s (inr (sym e, refl)))

-- ---- numbers of sites, and the end of a clause

pub sites : (S : State) (K : Lexeme → Type 0) → Fills S (λ _. S) K K site (λ n. site)
unfolding site
sites S K = record {
  law = λ i s. record { prefix = []; whole = refl; post = s; run = record { bound = 0; runs = λ n tail le fit. refl; starts = λ tail fit. fit } };
  fill = λ i s. ([], record { value = i.sites; end = record i { sites = i.sites + 1 }; post = s; run = record { bound = 0; runs = λ n tail le fit. refl; starts = λ tail fit. fit } });
}

pub clause_ends : (h : List ℕ) (K : Lexeme → Type 0) → Fills (Home h) (λ _. Home h) K K end_clause (λ n. end_clause)
unfolding end_clause
clause_ends h K = record {
  law = λ i s. record { prefix = []; whole = refl; post = s; run = record { bound = 0; runs = λ n tail le fit. refl; starts = λ tail fit. fit } };
  fill = λ i s. ([], record { value = i.vars; end = record i { vars = [] }; post = s; run = record { bound = 0; runs = λ n tail le fit. refl; starts = λ tail fit. fit } });
}

-- ---- names that may be qualified

written_live : (text : List ℕ) (k : Kind) (w : rule.Written) → rule.written_by text k ≡ Some w → live k ≡ true
written_live text kind.Name w e = refl
written_live text kind.Qualified w e = refl
written_live text _ w e = absurd (cc)

-- the bytes that the limits have to allow for a name
abbrev bytes_of : rule.Written → ℕ
bytes_of w = length w.name + length (unwrap_or w.qualifier [])

not_long : (n : ℕ) (w : rule.Written) → bytes_of w ≤ n → rule.is_long n w ≡ false
not_long n w le = rw (not_less n (length w.name) (omega (arith, le)), not_less n (length (unwrap_or w.qualifier [])) (omega (arith, le))) refl

module _ (S : State) (F K : Lexeme → Type 0) (i : Input) (s : S i.home i.vars) where
  pred_name_fill : (t : Lexeme) (w : rule.Written) → rule.written t ≡ Some w → F t → Fill (λ _. S) F K (λ n. rule.pred_name) i
  unfolding rule.pred_name token next
  pred_name_fill t w e f = filled_by (λ _. S) F K (λ n. rule.pred_name) i t (rule.meant i.home w) i.vars (bytes_of w) f s (λ n tail le. rw (e, not_long n w le) refl)

  long_by : (w : rule.Written) (b : Bool) → rule.written (token i) ≡ Some w → Law (λ _. S) F K (λ n. rule.pred_name) i (cond b (limit i) (Ok (rule.meant i.home w, next i)))
  unfolding rule.pred_name rule.written token next
  long_by w true e = over_at (λ _. S) F K (λ n. rule.pred_name) i (rule.meant i.home w) i.vars (bytes_of w) (λ n tail le. rw (e, not_long n w le) refl) s
  long_by w false e = taken_at (λ _. S) F K (λ n. rule.pred_name) i (rule.meant i.home w) i.vars (bytes_of w) (λ n tail le. rw (e, not_long n w le) refl) (written_live (first i.rest).text (first i.rest).kind w e) s

  pred_name_by : (o : Option rule.Written) → rule.written (token i) ≡ o → Fill (λ _. S) (Or F i) K (λ n. rule.pred_name) i → Law (λ _. S) F K (λ n. rule.pred_name) i (rule.take_written o i)
  unfolding rule.pred_name token
  pred_name_by None e c = refused_at (λ _. S) F K (λ n. rule.pred_name) i c (λ n later. (place (upon n (first i.rest ∷ later) i), rw e refl))
  pred_name_by (Some w) e c = long_by w (rule.is_long i.limits.items w) e

  pred_name_law : Fill (λ _. S) (Or F i) K (λ n. rule.pred_name) i → Law (λ _. S) F K (λ n. rule.pred_name) i (rule.pred_name i)
  unfolding rule.pred_name
  pred_name_law c = pred_name_by (rule.written (token i)) refl c

-- a name that names nothing yet
abbrev plain : rule.Written
plain = record { qualifier = None; name = codes "a" }

abbrev far : rule.Written
far = record { qualifier = Some (codes "a"); name = codes "a" }

plain_written : (i : Input) → rule.written (spelled kind.Name (codes "a") i) ≡ Some plain
unfolding rule.written
plain_written i = refl

far_written : (i : Input) → rule.written (spelled kind.Qualified (codes "a.a") i) ≡ Some far
unfolding rule.written rule.qualified word_kind same_kind
far_written i = refl

pub pred_names : (S : State) (F K : Lexeme → Type 0) → ((i : Input) → F (spelled kind.Name (codes "a") i)) → Fills S (λ _. S) F K rule.pred_name (λ n. rule.pred_name)
pred_names S F K f = record {
  law = λ i s. pred_name_law S F K i s (pred_name_fill S (Or F i) K i s (spelled kind.Name (codes "a") i) plain (plain_written i) (inl (f i)));
  fill = λ i s. pred_name_fill S F K i s (spelled kind.Name (codes "a") i) plain (plain_written i) (f i);
}

-- where a name comes next
pub name_at : (S : State) (F K : Lexeme → Type 0) (i : Input) → kind_at i ≡ kind.Name → S i.home i.vars → Law (λ _. S) F K (λ n. rule.pred_name) i (rule.pred_name i)
unfolding token
name_at S F K i e s = pred_name_law S F K i s (pred_name_fill S (Or F i) K i s (spelled kind.Name (codes "a") i) plain (plain_written i) (inr (sym e, refl)))

pub qualified_at : (S : State) (F K : Lexeme → Type 0) (i : Input) → kind_at i ≡ kind.Qualified → S i.home i.vars → Law (λ _. S) F K (λ n. rule.pred_name) i (rule.pred_name i)
unfolding token
qualified_at S F K i e s = pred_name_law S F K i s (pred_name_fill S (Or F i) K i s (spelled kind.Qualified (codes "a.a") i) far (far_written i) (inr (sym e, refl)))

-- ---- the name that is declared, and that name once more

-- a token is that name, where the program's own module has this name
pub record Named (h : List ℕ) (q : PredName) : Type 0 where
  pub token : Lexeme
  pub word : rule.Written
  pub is : rule.written token ≡ Some word
  pub same : rule.meant h word ≡ q

abbrev pub Declared : List ℕ → PredName → State
Declared h q home vars = (home ≡ h) × Named h q

module _ (h : List ℕ) (K : Lexeme → Type 0) (i : Input) (s : Home h i.home i.vars) where
  declared_by_word : (t : Lexeme) (w : rule.Written) → rule.written t ≡ Some w → Declared h (rule.meant i.home w) i.home i.vars
  declared_by_word t w e = (s, record { token = t; word = w; is = e; same = ap (λ (m : List ℕ). rule.meant m w) (sym s) })

  declared_fill : (F : Lexeme → Type 0) → F (spelled kind.Name (codes "a") i) → Fill (Declared h) F K (λ n. rule.declared_name) i
  unfolding rule.declared_name token next
  declared_fill F f = filled_by (Declared h) F K (λ n. rule.declared_name) i (spelled kind.Name (codes "a") i) (rule.meant i.home plain) i.vars (bytes_of plain) f (declared_by_word (spelled kind.Name (codes "a") i) plain (plain_written i)) (λ n tail le. rw (plain_written i, not_long n plain le) refl)

  declared_long : (w : rule.Written) (b : Bool) → rule.written (token i) ≡ Some w → rule.is_of_library w.qualifier ≡ false → Law (Declared h) Every K (λ n. rule.declared_name) i (cond b (limit i) (Ok (rule.meant i.home w, next i)))
  unfolding rule.declared_name rule.written token next
  declared_long w true e f = over_at (Declared h) Every K (λ n. rule.declared_name) i (rule.meant i.home w) i.vars (bytes_of w) (λ n tail le. rw (e, f, not_long n w le) refl) (declared_by_word (first i.rest) w e)
  declared_long w false e f = taken_at (Declared h) Every K (λ n. rule.declared_name) i (rule.meant i.home w) i.vars (bytes_of w) (λ n tail le. rw (e, f, not_long n w le) refl) (written_live (first i.rest).text (first i.rest).kind w e) (declared_by_word (first i.rest) w e)

  declared_io : (w : rule.Written) (b : Bool) → rule.written (token i) ≡ Some w → rule.is_of_library w.qualifier ≡ b → Law (Declared h) Every K (λ n. rule.declared_name) i (cond b refuse (rule.take_written (Some w)) i)
  unfolding rule.declared_name token
  declared_io w true e f = refused_at (Declared h) Every K (λ n. rule.declared_name) i (declared_fill (Or Every i) (inl tt)) (λ n later. (place (upon n (first i.rest ∷ later) i), rw (e, f) refl))
  declared_io w false e f = declared_long w (rule.is_long i.limits.items w) e f

  declared_by : (o : Option rule.Written) → rule.written (token i) ≡ o → Law (Declared h) Every K (λ n. rule.declared_name) i (rule.take_declared o i)
  unfolding rule.declared_name token
  declared_by None e = refused_at (Declared h) Every K (λ n. rule.declared_name) i (declared_fill (Or Every i) (inl tt)) (λ n later. (place (upon n (first i.rest ∷ later) i), rw e refl))
  declared_by (Some w) e = declared_io w (rule.is_of_library w.qualifier) e refl

pub declared_names : (h : List ℕ) (K : Lexeme → Type 0) → Fills (Home h) (Declared h) Every K rule.declared_name (λ n. rule.declared_name)
unfolding rule.declared_name
declared_names h K = record {
  law = λ i s. declared_by h K i s (rule.written (token i)) refl;
  fill = λ i s. declared_fill h K i s Every tt;
}

-- a name is the same as itself
option_same : (q : Option (List ℕ)) → same_qualifier q q ≡ true
option_same None = refl
option_same (Some q) = same_bytes q

name_same : (p q : PredName) → p ≡ q → rule.same_name p q ≡ true
name_same p q e = rw e (rw (option_same q.qualifier, same_bytes q.name) refl)

-- that name, with the line of its token
abbrev pub this_line : PredName → Parser ℕ
this_line q = λ i. and_then (rule.this_name q i) (λ x j. Ok ((token i).line, j))

abbrev same_by : Bool → Parser (Unit {0})
same_by b i = cond b (Ok (tt, next i)) (refuse i)

module _ (h : List ℕ) (K : Lexeme → Type 0) (q : PredName) (i : Input) (s : Declared h q i.home i.vars) where
  this_fill : (F : Lexeme → Type 0) → F s.1.token → Fill (λ _. Home h) F K (λ n. this_line q) i
  unfolding rule.this_name token next
  this_fill F f =
      let same : rule.same_name (rule.meant i.home s.1.word) q ≡ true = name_same (rule.meant i.home s.1.word) q (ap (λ (m : List ℕ). rule.meant m s.1.word) s.0 ∙ s.1.same) in
      filled_by (λ _. Home h) F K (λ n. this_line q) i s.1.token s.1.token.line i.vars 0 f s.0 (λ n tail le. rw (s.1.is, same) refl)

  this_same : (w : rule.Written) (b : Bool) → rule.written (token i) ≡ Some w → rule.same_name (rule.meant i.home w) q ≡ b → Law (λ _. Home h) Every K (λ n. this_line q) i (and_then (same_by b i) (λ x j. Ok ((token i).line, j)))
  unfolding rule.this_name rule.written token next
  this_same w true e f = taken_at (λ _. Home h) Every K (λ n. this_line q) i (first i.rest).line i.vars 0 (λ n tail le. rw (e, f) refl) (written_live (first i.rest).text (first i.rest).kind w e) s.0
  this_same w false e f = refused_at (λ _. Home h) Every K (λ n. this_line q) i (this_fill (Or Every i) (inl tt)) (λ n later. (place (upon n (first i.rest ∷ later) i), rw (e, f) refl))

  this_by : (o : Option rule.Written) → rule.written (token i) ≡ o → Law (λ _. Home h) Every K (λ n. this_line q) i (and_then (rule.take_same q o i) (λ x j. Ok ((token i).line, j)))
  unfolding rule.this_name token
  this_by None e = refused_at (λ _. Home h) Every K (λ n. this_line q) i (this_fill (Or Every i) (inl tt)) (λ n later. (place (upon n (first i.rest ∷ later) i), rw e refl))
  this_by (Some w) e = this_same w (rule.same_name (rule.meant i.home w) q) e refl

pub this_lines : (h : List ℕ) (K : Lexeme → Type 0) (q : PredName) → Fills (Declared h q) (λ _. Home h) Every K (this_line q) (λ n. this_line q)
unfolding rule.this_name
this_lines h K q = record {
  law = λ i s. this_by h K q i s (rule.written (token i)) refl;
  fill = λ i s. this_fill h K q i s Every tt;
}

-- ---- values

positive_by : (S : State) (F K : Lexeme → Type 0) (x : ℕ) (i : Input) (b : Bool) → live (kind_at i) ≡ true → S i.home i.vars → Law (λ _. S) F K (λ n. rule.positive x) i (cond b (limit i) (Ok (SimpleGoal (Unifies x (term.Int (pos (number_of (token i).text)))), next i)))
unfolding rule.positive token next
positive_by S F K x i true l s = over_at (λ _. S) F K (λ n. rule.positive x) i (SimpleGoal (Unifies x (term.Int (pos (number_of (first i.rest).text))))) i.vars (number_of (first i.rest).text) (λ n tail le. rw (not_less n (number_of (first i.rest).text) le) refl) s
positive_by S F K x i false l s = taken_at (λ _. S) F K (λ n. rule.positive x) i (SimpleGoal (Unifies x (term.Int (pos (number_of (first i.rest).text))))) i.vars (number_of (first i.rest).text) (λ n tail le. rw (not_less n (number_of (first i.rest).text) le) refl) l s

pub positive_at : (S : State) (F K : Lexeme → Type 0) (x : ℕ) (i : Input) → live (kind_at i) ≡ true → S i.home i.vars → Law (λ _. S) F K (λ n. rule.positive x) i (rule.positive x i)
unfolding rule.positive
positive_at S F K x i l s = positive_by S F K x i (nat_lt i.limits.integer (number_of (token i).text)) l s

literal_by : (S : State) (F K : Lexeme → Type 0) (x : ℕ) (i : Input) (b : Bool) → live (kind_at i) ≡ true → S i.home i.vars → Law (λ _. S) F K (λ n. rule.literal x) i (cond b (limit i) (Ok (SimpleGoal (Unifies x (term.Str (string_value (token i).text))), next i)))
unfolding rule.literal token next
literal_by S F K x i true l s = over_at (λ _. S) F K (λ n. rule.literal x) i (SimpleGoal (Unifies x (term.Str (string_value (first i.rest).text)))) i.vars (length (string_value (first i.rest).text)) (λ n tail le. rw (not_less n (length (string_value (first i.rest).text)) le) refl) s
literal_by S F K x i false l s = taken_at (λ _. S) F K (λ n. rule.literal x) i (SimpleGoal (Unifies x (term.Str (string_value (first i.rest).text)))) i.vars (length (string_value (first i.rest).text)) (λ n tail le. rw (not_less n (length (string_value (first i.rest).text)) le) refl) l s

pub literal_at : (S : State) (F K : Lexeme → Type 0) (x : ℕ) (i : Input) → live (kind_at i) ≡ true → S i.home i.vars → Law (λ _. S) F K (λ n. rule.literal x) i (rule.literal x i)
unfolding rule.literal
literal_at S F K x i l s = literal_by S F K x i (nat_lt i.limits.bytes (length (string_value (token i).text))) l s

module _ (S : State) (F K : Lexeme → Type 0) (x : ℕ) (i : Input) (s : S i.home i.vars) where
  minus_by : (b : Bool) → sees kind.Integer i ≡ true → Law (λ _. S) F K (λ n. rule.negated x) i (cond b (limit i) (Ok (SimpleGoal (Unifies x (term.Int (rule.minus (number_of (token i).text)))), next i)))
  unfolding rule.negated sees token next
  minus_by true e = over_at (λ _. S) F K (λ n. rule.negated x) i (SimpleGoal (Unifies x (term.Int (rule.minus (number_of (first i.rest).text))))) i.vars (number_of (first i.rest).text) (λ n tail le. rw (e, not_less (suc n) (number_of (first i.rest).text) (omega (arith, le))) refl) s
  minus_by false e = taken_at (λ _. S) F K (λ n. rule.negated x) i (SimpleGoal (Unifies x (term.Int (rule.minus (number_of (first i.rest).text))))) i.vars (number_of (first i.rest).text) (λ n tail le. rw (e, not_less (suc n) (number_of (first i.rest).text) (omega (arith, le))) refl) (seen_live kind.Integer i e refl) s

  negated_fill : F (spelled kind.Integer (codes "1") i) → Fill (λ _. S) F K (λ n. rule.negated x) i
  unfolding rule.negated sees token next
  negated_fill f = filled_by (λ _. S) F K (λ n. rule.negated x) i (spelled kind.Integer (codes "1") i) (SimpleGoal (Unifies x (term.Int (rule.minus (number_of (codes "1")))))) i.vars (number_of (codes "1")) f s (λ n tail le. rw (same_itself kind.Integer, not_less (suc n) (number_of (codes "1")) (omega (arith, le))) refl)

  negated_by : (b : Bool) → sees kind.Integer i ≡ b → Fill (λ _. S) (Or F i) K (λ n. rule.negated x) i → Law (λ _. S) F K (λ n. rule.negated x) i (cond b (rule.take_negative x (number_of (token i).text) i) (refuse i))
  unfolding rule.negated sees token
  negated_by true e c = minus_by (nat_lt (suc i.limits.integer) (number_of (token i).text)) e
  negated_by false e c = refused_at (λ _. S) F K (λ n. rule.negated x) i c (λ n later. (place (upon n (first i.rest ∷ later) i), rw e refl))

pub negated : (S : State) (K : Lexeme → Type 0) (x : ℕ) → Fills S (λ _. S) Every K (rule.negated x) (λ n. rule.negated x)
unfolding rule.negated
negated S K x = record {
  law = λ i s. negated_by S Every K x i s (sees kind.Integer i) refl (negated_fill S (Or Every i) K x i s (inl tt));
  fill = λ i s. negated_fill S Every K x i s tt;
}
