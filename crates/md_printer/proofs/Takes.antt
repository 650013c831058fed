-- A printed token is taken by the grammar's rule as what it was printed for.
use Rattle.std.specs.Prelude.{codes, nat_lt, decimal, pos}
use Rattle.std.proofs.Common.{◌≡◌, ℕ, suc, ◌+◌, ◌<◌, ◌≤◌, ◌^◌, Bool, true, false, cond, not, ◌||◌, ◌==◌, ◌⊎◌, inl, inr, Option, Some, None, List, [], ◌∷◌, ◌++◌, length, get_or, refl, ap, sym, ◌∙◌, subst, append_assoc, arith}
use Rattle.std.proofs.Math.Seq.{take-append_seam, get_or-append_seam}
use Rattle.std.proofs.Math.ListN.{get_or-append}
use Rattle.std.proofs.lemmas.Option.{unwrap_or-slice_get}
use Rattle.std.proofs.lemmas.Slice.Eq.{bytes_eq-Decides}
use Rattle.std.proofs.lemmas.List.Sums.{passes_at_first, prefix_len-le-length}
use Rattle.std.specs.List.{list_any, flat_map, prefix_len}
use Rattle.std.specs.Str.{bytes_eq}
use Rattle.md_hlds.specs.declared.types.Mode.{Mode}
use Rattle.md_hlds.specs.declared.types.Mode.TheVariants as mode
use Rattle.md_hlds.specs.declared.types.Det.{Det}
use Rattle.md_hlds.specs.declared.types.Det.TheVariants as det
use Rattle.md_hlds.specs.declared.goal.PredName.{PredName}
use Rattle.md_hlds.specs.declared.goal.Term.TheVariants as term
use Rattle.md_hlds.specs.HldsGoal.{SimpleGoal, Unifies}
use Rattle.md_hlds.specs.Hlds.{HldsType, number, text, world, named, same_qualifier}
use Rattle.md_hlds.specs.Words.{det_word}
use Rattle.md_token.specs.declared.kind.Kind.{Kind}
use Rattle.md_token.specs.declared.kind.Kind.TheVariants as kind
use Rattle.md_token.specs.Kinds.{same_kind}
use Rattle.md_token.specs.Literal.{number_of, string_value, meaning}
use Rattle.md_token.specs.Token.{Lexeme, lexemes, is_word_byte, is_escape, is_plain, word_kind}
use Rattle.md_token.proofs.Spelled as spelled
use Rattle.md_token.proofs.Spelled.{Reads, lexeme}
use Rattle.md_token.proofs.SpelledWords.{prefix_of, drop_one_more, decimal_digits, reads_digits, number_of-decimal}
use Rattle.md_token.proofs.SpelledTexts.{Writes, reads_text, value_of_text}
use Rattle.md_token.proofs.SpelledTokens.{Fine, AllFine, IsQualified}
use Rattle.md_reader.specs.Input.{Input, expect, name, word, variable, site, token, kind_at, sees, next, end_clause, take_name, with_variable, place_of, first}
use Rattle.md_reader.specs.Rules as rule
use Rattle.md_reader.specs.Grammar as g
use Rattle.md_reader.specs.Grammar.{Is, Sign}
use Rattle.md_printer.specs.Printed as print
use Rattle.md_printer.proofs.Onto.{at, upon, at_token, at_stop, Good, most, greatest, most_bytes, known}
use Rattle.md_printer.proofs.Moves.{ok_parts, IsSimpleType, simple_type_facts, IsName, variable_facts, Within}

-- ---- kinds

pub same_itself : (k : Kind) → same_kind k k ≡ true
unfolding same_kind
same_itself kind.Name = refl
same_itself _ = refl

is_name : (k : Kind) → same_kind k kind.Name ≡ true → k ≡ kind.Name
unfolding same_kind
is_name kind.Name h = refl
is_name _ h = absurd (cc)

is_variable : (k : Kind) → same_kind k kind.Variable ≡ true → k ≡ kind.Variable
unfolding same_kind
is_variable kind.Variable h = refl
is_variable _ h = absurd (cc)

is_integer : (k : Kind) → same_kind k kind.Integer ≡ true → k ≡ kind.Integer
unfolding same_kind
is_integer kind.Integer h = refl
is_integer _ h = absurd (cc)

first_fine : (ts : List Lexeme) → AllFine ts → Fine (first ts).kind (first ts).text
first_fine [] a = tt
first_fine (t ∷ ts) a = a.0

pub token_fine : (i : Input) → Good i → Fine (token i).kind (token i).text
unfolding token
token_fine i a = first_fine i.rest a.0

pub name_read : (i : Input) → Good i → sees kind.Name i ≡ true → Reads kind.Name (token i).text
unfolding sees
name_read i a h = subst (λ (k : Kind). Fine k (token i).text) (is_name (token i).kind h) (token_fine i a)

pub variable_read : (i : Input) → Good i → sees kind.Variable i ≡ true → Reads kind.Variable (token i).text
unfolding sees
variable_read i a h = subst (λ (k : Kind). Fine k (token i).text) (is_variable (token i).kind h) (token_fine i a)

-- ---- signs and words

along : (P : Input → Type 0) (k : Kind) (t : List ℕ) → Reads k t → (n : ℕ) (s : List ℕ) (i : Input) → P (upon (lexeme k t n ∷ lexemes 0 n s) i) → P (at n (t ++ 32 ∷ s) i)
along P k t r n s i h = subst P (sym (at_token k t r n s i)) h

pub expect_takes : (k : Kind) (t : List ℕ) → Reads k t → (n : ℕ) (s : List ℕ) (i : Input) → Is (expect k) n (at n (t ++ 32 ∷ s) i) (at n s i)
unfolding expect sees token next at
expect_takes k t r n s i = along (λ (j : Input). Is (expect k) n j (at n s i)) k t r n s i (rw (same_itself k) refl)

pub sign_takes : (k : Kind) (t : List ℕ) → Reads k t → (n : ℕ) (s : List ℕ) (i : Input) → Sign k (at n (t ++ 32 ∷ s) i) (at n s i)
sign_takes k t r n s i = g.Sign.sign n (at n (t ++ 32 ∷ s) i) (at n s i) (expect_takes k t r n s i)

pub end_takes : (n : ℕ) (s : List ℕ) (i : Input) → Sign kind.End (at n (46 ∷ 10 ∷ s) i) (at (n + 1) s i)
unfolding expect sees token next at
end_takes n s i =
    g.Sign.sign n (at n (46 ∷ 10 ∷ s) i) (at (n + 1) s i)
    (subst (λ (j : Input). Is (expect kind.End) n j (at (n + 1) s i)) (sym (at_stop n s i)) (rw (same_itself kind.End) refl))

pub token_line : (k : Kind) (t : List ℕ) → Reads k t → (n : ℕ) (s : List ℕ) (i : Input) → (token (at n (t ++ 32 ∷ s) i)).line ≡ n
unfolding token
token_line k t r n s i = along (λ (j : Input). (token j).line ≡ n) k t r n s i refl

pub token_kind : (k : Kind) (t : List ℕ) → Reads k t → (n : ℕ) (s : List ℕ) (i : Input) → kind_at (at n (t ++ 32 ∷ s) i) ≡ k
unfolding token
token_kind k t r n s i = along (λ (j : Input). kind_at j ≡ k) k t r n s i refl

pub name_takes : (f : List ℕ) → Reads kind.Name f → nat_lt most (length f) ≡ false → (n : ℕ) (s : List ℕ) (i : Input) → Is name f (at n (f ++ 32 ∷ s) i) (at n s i)
unfolding name take_name sees token next at
name_takes f r short n s i = along (λ (j : Input). Is name f j (at n s i)) kind.Name f r n s i (rw (same_itself kind.Name, short) refl)

pub bytes_same : (w : List ℕ) → bytes_eq w w ≡ true
bytes_same w = (bytes_eq-Decides w w).1 refl

pub word_takes : (w : List ℕ) → Reads kind.Name w → (n : ℕ) (s : List ℕ) (i : Input) → Is (word w) n (at n (w ++ 32 ∷ s) i) (at n s i)
unfolding word sees token next at
word_takes w r n s i = along (λ (j : Input). Is (word w) n j (at n s i)) kind.Name w r n s i (rw (same_itself kind.Name, bytes_same w) refl)

pub mode_takes : (m : Mode) (n : ℕ) (s : List ℕ) (i : Input) → Is rule.mode_word m (at n (print.mode_word m ++ 32 ∷ s) i) (at n s i)
unfolding rule.mode_word token next at
mode_takes mode.In n s i = along (λ (j : Input). Is rule.mode_word mode.In j (at n s i)) kind.Name (codes "in") spelled.reads_word_in n s i refl
mode_takes mode.Out n s i = along (λ (j : Input). Is rule.mode_word mode.Out j (at n s i)) kind.Name (codes "out") spelled.reads_word_out n s i refl
mode_takes mode.Di n s i = along (λ (j : Input). Is rule.mode_word mode.Di j (at n s i)) kind.Name (codes "di") spelled.reads_word_di n s i refl
mode_takes mode.Uo n s i = along (λ (j : Input). Is rule.mode_word mode.Uo j (at n s i)) kind.Name (codes "uo") spelled.reads_word_uo n s i refl

pub data IsHoMode : Mode → Type 0 where
  input : IsHoMode mode.In
  output : IsHoMode mode.Out

ho_mode_by : (o : Option Mode) (m : Mode) → rule.ho_mode_by o ≡ Some m → IsHoMode m
ho_mode_by None m h = absurd (cc)
ho_mode_by (Some mode.In) m h = let e : mode.In ≡ m = cc in subst IsHoMode e input
ho_mode_by (Some mode.Out) m h = let e : mode.Out ≡ m = cc in subst IsHoMode e output
ho_mode_by (Some mode.Di) m h = absurd (cc)
ho_mode_by (Some mode.Uo) m h = absurd (cc)

pub ho_mode_facts : (w : List ℕ) (m : Mode) → rule.ho_mode_named w ≡ Some m → IsHoMode m
ho_mode_facts w m h = ho_mode_by (rule.mode_named w) m h

pub ho_mode_takes : (m : Mode) → IsHoMode m → (n : ℕ) (s : List ℕ) (i : Input) → Is rule.ho_mode m (at n (print.mode_word m ++ 32 ∷ s) i) (at n s i)
unfolding rule.ho_mode token next at
ho_mode_takes _ input n s i = along (λ (j : Input). Is rule.ho_mode mode.In j (at n s i)) kind.Name (codes "in") spelled.reads_word_in n s i refl
ho_mode_takes _ output n s i = along (λ (j : Input). Is rule.ho_mode mode.Out j (at n s i)) kind.Name (codes "out") spelled.reads_word_out n s i refl

pub determinism_takes : (d : Det) (n : ℕ) (s : List ℕ) (i : Input) → Is rule.determinism d (at n (det_word d ++ 32 ∷ s) i) (at n s i)
unfolding rule.determinism token next at
determinism_takes det.Det n s i = along (λ (j : Input). Is rule.determinism det.Det j (at n s i)) kind.Name (codes "det") spelled.reads_word_det n s i refl
determinism_takes det.Semidet n s i = along (λ (j : Input). Is rule.determinism det.Semidet j (at n s i)) kind.Name (codes "semidet") spelled.reads_word_semidet n s i refl
determinism_takes det.Multi n s i = along (λ (j : Input). Is rule.determinism det.Multi j (at n s i)) kind.Name (codes "multi") spelled.reads_word_multi n s i refl
determinism_takes det.Nondet n s i = along (λ (j : Input). Is rule.determinism det.Nondet j (at n s i)) kind.Name (codes "nondet") spelled.reads_word_nondet n s i refl
determinism_takes det.Failure n s i = along (λ (j : Input). Is rule.determinism det.Failure j (at n s i)) kind.Name (codes "failure") spelled.reads_word_failure n s i refl

-- ---- types

simple_type_takes : (w : List ℕ) (t : HldsType) (i j : Input) → Good i → IsSimpleType w i j t → Reads kind.Name w → (n : ℕ) (s : List ℕ) (k : Input) → Is rule.simple_type t (at n (print.type_word t ++ 32 ∷ s) k) (at n s k)
unfolding rule.simple_type take_name sees token next at
simple_type_takes w _ i j good (IsSimpleType.int e) r n s k = along (λ (m : Input). Is rule.simple_type number m (at n s k)) kind.Name (codes "int") spelled.reads_word_int n s k (rw (same_itself kind.Name) refl)
simple_type_takes w _ i j good (IsSimpleType.string e) r n s k = along (λ (m : Input). Is rule.simple_type text m (at n s k)) kind.Name (codes "string") spelled.reads_word_string n s k (rw (same_itself kind.Name) refl)
simple_type_takes w _ i j good (IsSimpleType.io e) r n s k = along (λ (m : Input). Is rule.simple_type world m (at n s k)) kind.Name (codes "io") spelled.reads_word_io n s k (rw (same_itself kind.Name) refl)
simple_type_takes w _ i j good (IsSimpleType.other a b c d e) r n s k = along (λ (m : Input). Is rule.simple_type (named w) m (at n s k)) kind.Name w r n s k (rw (same_itself kind.Name, a, b, c, known (λ l. l.items) i good (λ m. nat_lt m (length w) ≡ false) d) refl)

pub simple_type_again : (t : HldsType) (i j : Input) → Is rule.simple_type t i j → Good i → (n : ℕ) (s : List ℕ) (k : Input) → Is rule.simple_type t (at n (print.type_word t ++ 32 ∷ s) k) (at n s k)
simple_type_again t i j h a n s k =
    let f = simple_type_facts t i j h in
    simple_type_takes (token i).text t i j a f.1 (name_read i a f.0) n s k

pub type_name_takes : (t : List ℕ) → rule.is_own_type t ≡ true → Reads kind.Name t → nat_lt most (length t) ≡ false → (n : ℕ) (s : List ℕ) (i : Input) → Is rule.type_name t (at n (t ++ 32 ∷ s) i) (at n s i)
unfolding rule.type_name name take_name sees token next at
type_name_takes t own r short n s i = along (λ (j : Input). Is rule.type_name t j (at n s i)) kind.Name t r n s i (rw (own, same_itself kind.Name, short) refl)

-- ---- names of predicates

abbrev pub kept : PredName → rule.Written
kept q = record { qualifier = q.qualifier; name = q.name }

-- a name that is printed as it's meant
pub record IsPrintable (home : List ℕ) (q : PredName) : Type 0 where
  pub kind_of_name : Kind
  pub reads : Reads kind_of_name (print.written_name q)
  pub back : rule.written_by (print.written_name q) kind_of_name ≡ Some (kept q)
  pub short : rule.is_long most (kept q) ≡ false
  pub meant : rule.away_from home q.qualifier ≡ q.qualifier

or_false : (a b : Bool) → (a || b) ≡ false → (a ≡ false) × (b ≡ false)
or_false true b h = absurd (cc)
or_false false b h = (refl, h)

plain_name : (home t : List ℕ) (q : PredName) → Reads kind.Name t → rule.is_long most (record { qualifier = None; name = t }) ≡ false → record { qualifier = None; name = t } ≡ q → IsPrintable home q
plain_name home t q r short e = subst (IsPrintable home) e (record { kind_of_name = kind.Name; reads = r; back = refl; short = short; meant = refl })

-- a qualified token's two parts
parts_of_qualified : (t : List ℕ) (f : IsQualified t) → (rule.qualifier_part t ≡ f.qualifier) × (rule.name_part t ≡ f.name)
parts_of_qualified t f =
    let n : prefix_len is_word_byte (f.qualifier ++ 46 ∷ f.name) ≡ length f.qualifier = prefix_of is_word_byte f.qualifier 46 f.name f.words refl in (
      subst (λ (t : List ℕ). rule.qualifier_part t ≡ f.qualifier) (sym f.whole) (rw n (take-append_seam f.qualifier (46 ∷ f.name))),
      subst (λ (t : List ℕ). rule.name_part t ≡ f.name) (sym f.whole) (rw n (drop_one_more f.qualifier f.name 46)),
    )

away : (home q f : List ℕ) (b : Bool) (p : PredName) → bytes_eq q home ≡ b → record { qualifier = cond b None (Some q); name = f } ≡ p
    → (t : List ℕ) → t ≡ q ++ 46 ∷ f → Reads kind.Qualified t → rule.qualified t ≡ Some (record { qualifier = Some q; name = f }) → Reads kind.Name f
    → rule.is_long most (record { qualifier = Some q; name = f }) ≡ false → IsPrintable home p
away home q f true p e is t whole r back alone short = let o = or_false (nat_lt most (length f)) (nat_lt most (length q)) short in plain_name home f p alone (rw o.0 refl) is
away home q f false p e is t whole r back alone short =
    subst (IsPrintable home) is (record {
      kind_of_name = kind.Qualified;
      reads = subst (Reads kind.Qualified) whole r;
      back = subst (λ (t : List ℕ). rule.qualified t ≡ Some (record { qualifier = Some q; name = f })) whole back;
      short = short;
      meant = rw e refl;
    })

chosen_some : {A : Type 0} (b : Bool) (x y : A) → cond b (Some x) None ≡ Some y → (b ≡ true) × (x ≡ y)
chosen_some true x y h = (refl, cc)
chosen_some false x y h = absurd (cc)

qualified_name : (home t : List ℕ) (w : rule.Written) (q : PredName) → IsQualified t → rule.qualified t ≡ Some w → rule.is_long most w ≡ false → rule.meant home w ≡ q → IsPrintable home q
unfolding rule.qualified
qualified_name home t w q f h short e =
    let p = parts_of_qualified t f in
    let a = chosen_some (same_kind (word_kind (rule.name_part t)) kind.Name) _ w h in
    let is : w ≡ record { qualifier = Some f.qualifier; name = f.name } = sym a.1 ∙ rw (p.0, p.1) refl in
    let k : word_kind f.name ≡ kind.Name = rw p.1 at (is_name (word_kind (rule.name_part t)) a.0) in
    away home f.qualifier f.name (bytes_eq f.qualifier home) q refl (rw is at e) t f.whole f.reads (h ∙ ap Some is)
    (subst (λ (k : Kind). Reads k f.name) k f.alone) (rw is at short)

printable_by : (k : Kind) (home t : List ℕ) (w : rule.Written) (q : PredName) → Fine k t → rule.written_by t k ≡ Some w → rule.is_long most w ≡ false → rule.meant home w ≡ q → IsPrintable home q
printable_by kind.Name home t w q f h short e =
    let is : record { qualifier = None; name = t } ≡ w = cc in
    plain_name home t q f (subst (λ (w : rule.Written). rule.is_long most w ≡ false) (sym is) short) (subst (λ (w : rule.Written). rule.meant home w ≡ q) (sym is) e)
printable_by kind.Qualified home t w q f h short e = qualified_name home t w q f h short e
printable_by _ home t w q f h short e = absurd (cc)

pub printable : (q : PredName) (i j : Input) → IsName q i j → Good i → IsPrintable i.home q
unfolding rule.written
printable q i j f a = printable_by (token i).kind i.home (token i).text f.written q (token_fine i a) f.here (known (λ l. l.items) i a (λ m. rule.is_long m f.written ≡ false) f.short) f.meant

pub pred_name_takes : (q : PredName) (i : Input) → IsPrintable i.home q → (n : ℕ) (s : List ℕ) → Is rule.pred_name q (at n (print.written_name q ++ 32 ∷ s) i) (at n s i)
unfolding rule.pred_name rule.written token next at
pred_name_takes q i p n s =
    along (λ (j : Input). Is rule.pred_name q j (at n s i)) p.kind_of_name (print.written_name q) p.reads n s i (rw (p.back, p.short, p.meant) refl)

pub declared_name_takes : (q : PredName) (i : Input) → IsPrintable i.home q → rule.is_of_library q.qualifier ≡ false → (n : ℕ) (s : List ℕ) → Is rule.declared_name q (at n (print.written_name q ++ 32 ∷ s) i) (at n s i)
unfolding rule.declared_name rule.written token next at
declared_name_takes q i p io n s =
    along (λ (j : Input). Is rule.declared_name q j (at n s i)) p.kind_of_name (print.written_name q) p.reads n s i (rw (p.back, io, p.short, p.meant) refl)

same_qualifiers : (q : Option (List ℕ)) → same_qualifier q q ≡ true
same_qualifiers None = refl
same_qualifiers (Some m) = bytes_same m

pub same_names : (q : PredName) → rule.same_name q q ≡ true
same_names q = rw (same_qualifiers q.qualifier, bytes_same q.name) refl

pub this_name_takes : (q : PredName) (i : Input) → IsPrintable i.home q → (n : ℕ) (s : List ℕ) → Is (rule.this_name q) tt (at n (print.written_name q ++ 32 ∷ s) i) (at n s i)
unfolding rule.this_name rule.written token next at
this_name_takes q i p n s =
    along (λ (j : Input). Is (rule.this_name q) tt j (at n s i)) p.kind_of_name (print.written_name q) p.reads n s i (rw (p.back, p.meant, same_qualifiers q.qualifier, bytes_same q.name) refl)

-- ---- variables

-- the name of a variable that was read
at_end : (x : List ℕ) (xs more : List (List ℕ)) (n : ℕ) → n ≡ length xs → get_or ((xs ++ x ∷ []) ++ more) n [] ≡ x
at_end x xs more n e = rw (e, append_assoc xs (x ∷ []) more) (get_or-append_seam xs x more [])

at_place : (x : List ℕ) (xs more : List (List ℕ)) → place_of x xs < length xs → get_or (xs ++ more) (place_of x xs) [] ≡ x
at_place x xs more h = get_or-append xs more [] (place_of x xs) h ∙ sym ((bytes_eq-Decides x (get_or xs (place_of x xs) [])).0 (passes_at_first (bytes_eq x) xs [] h))

name_at : (x : List ℕ) (xs more : List (List ℕ)) (b : Bool) → (place_of x xs == length xs) ≡ b → get_or (cond b (xs ++ x ∷ []) xs ++ more) (place_of x xs) [] ≡ x
name_at x xs more true e = at_end x xs more (place_of x xs) (grind arith)
name_at x xs more false e =
    let l : place_of x xs ≤ length xs = prefix_len-le-length (λ y. not (bytes_eq x y)) xs in
    at_place x xs more (grind arith)

pub variable_name : (x : List ℕ) (xs vs : List (List ℕ)) → Within (with_variable x xs) vs → print.variable vs (place_of x xs) ≡ x
unfolding with_variable
variable_name x xs vs w =
    unwrap_or-slice_get vs (place_of x xs) []
    ∙ subst (λ (vs : List (List ℕ)). get_or vs (place_of x xs) [] ≡ x) (sym w.whole) (name_at x xs w.more (place_of x xs == length xs) refl)

takes_text : (seen t : List ℕ) (i : Input) → list_any (λ y. y == place_of t i.vars) seen ≡ false → nat_lt most (length t) ≡ false → Reads kind.Variable t → (n : ℕ) (s : List ℕ)
    → Is (variable seen) (place_of t i.vars) (at n (t ++ 32 ∷ s) i) (at n s (record (next i) { vars = with_variable t i.vars }))
unfolding variable sees token next at
takes_text seen t i new short r n s =
    along (λ (j : Input). Is (variable seen) (place_of t i.vars) j (at n s (record (next i) { vars = with_variable t i.vars }))) kind.Variable t r n s i
    (rw (same_itself kind.Variable, new, short) refl)

takes_variable : (seen : List ℕ) (i : Input) → sees kind.Variable i ≡ true → list_any (λ y. y == place_of (token i).text i.vars) seen ≡ false → nat_lt most (length (token i).text) ≡ false → Good i → (n : ℕ) (s : List ℕ)
    → Is (variable seen) (place_of (token i).text i.vars) (at n ((token i).text ++ 32 ∷ s) i) (at n s (record (next i) { vars = with_variable (token i).text i.vars }))
takes_variable seen i k new short a n s = takes_text seen (token i).text i new short (variable_read i a k) n s

pub variable_again : (vs : List (List ℕ)) (seen : List ℕ) (x : ℕ) (i j : Input) → Is (variable seen) x i j → Good i → Within j.vars vs → (n : ℕ) (s : List ℕ) → Is (variable seen) x (at n (print.variable vs x ++ 32 ∷ s) i) (at n s j)
variable_again vs seen x i j h a w n s =
    let f = variable_facts seen x i j h in
    let v : Within (with_variable (token i).text i.vars) vs = subst (λ (j : Input). Within j.vars vs) (sym f.on) w in
    let e : print.variable vs (place_of (token i).text i.vars) ≡ (token i).text = variable_name (token i).text i.vars vs v in
    let r = takes_variable seen i f.is_variable f.new (known (λ l. l.items) i a (λ m. nat_lt m (length (token i).text) ≡ false) f.short) a n s in
    subst (λ (x : ℕ). Is (variable seen) x (at n (print.variable vs x ++ 32 ∷ s) i) (at n s j)) f.place
    (subst (λ (j : Input). Is (variable seen) (place_of (token i).text i.vars) (at n (print.variable vs (place_of (token i).text i.vars) ++ 32 ∷ s) i) (at n s j)) f.on
    (subst (λ (t : List ℕ). Is (variable seen) (place_of (token i).text i.vars) (at n (t ++ 32 ∷ s) i) (at n s (record (next i) { vars = with_variable (token i).text i.vars }))) (sym e) r))

-- ---- call sites, and the end of a clause

pub site_again : (m : ℕ) (i j : Input) → Is site m i j → (n : ℕ) (s : List ℕ) → Is site m (at n s i) (at n s j)
unfolding site at
site_again m i j h n s =
    let a = ok_parts i.sites m (record i { sites = i.sites + 1 }) j h in
    subst (λ (m : ℕ). Is site m (at n s i) (at n s j)) a.0 (subst (λ (j : Input). Is site i.sites (at n s i) (at n s j)) a.1 refl)

pub end_clause_again : (vs : List (List ℕ)) (i j : Input) → Is end_clause vs i j → (i.vars ≡ vs) × ((n : ℕ) (s : List ℕ) → Is end_clause vs (at n s i) (at n s j))
unfolding end_clause at
end_clause_again vs i j h =
    let a = ok_parts i.vars vs (record i { vars = [] }) j h in
    (a.0, λ n s. subst (λ (vs : List (List ℕ)). Is end_clause vs (at n s i) (at n s j)) a.0 (subst (λ (j : Input). Is end_clause i.vars (at n s i) (at n s j)) a.1 refl))

-- ---- integers and strings

pub positive_takes : (x m : ℕ) → nat_lt greatest m ≡ false → (n : ℕ) (s : List ℕ) (i : Input) → (kind_at (at n (decimal m ++ 32 ∷ s) i) ≡ kind.Integer) × Is (rule.positive x) (SimpleGoal (Unifies x (term.Int (pos m)))) (at n (decimal m ++ 32 ∷ s) i) (at n s i)
unfolding rule.positive token next at
positive_takes x m small n s i =
    let l : m < 2 ^ 64 = grind arith in
    let r : Reads kind.Integer (decimal m) = reads_digits (decimal m) (decimal_digits m l) in
    let e : number_of (decimal m) ≡ m = number_of-decimal m l in (
      token_kind kind.Integer (decimal m) r n s i,
      along (λ (j : Input). Is (rule.positive x) (SimpleGoal (Unifies x (term.Int (pos m)))) j (at n s i)) kind.Integer (decimal m) r n s i (rw (e, small) refl),
    )

pub negated_takes : (x m : ℕ) → nat_lt (suc greatest) m ≡ false → (n : ℕ) (s : List ℕ) (i : Input) → Is (rule.negated x) (SimpleGoal (Unifies x (term.Int (rule.minus m)))) (at n (decimal m ++ 32 ∷ s) i) (at n s i)
unfolding rule.negated sees token next at
negated_takes x m small n s i =
    let l : m < 2 ^ 64 = grind arith in
    let r : Reads kind.Integer (decimal m) = reads_digits (decimal m) (decimal_digits m l) in
    let e : number_of (decimal m) ≡ m = number_of-decimal m l in
    along (λ (j : Input). Is (rule.negated x) (SimpleGoal (Unifies x (term.Int (rule.minus m)))) j (at n s i)) kind.Integer (decimal m) r n s i (rw (same_itself kind.Integer, e, small) refl)

one_of_four : (a b c d : Bool) → (((a || b) || c) || d) ≡ true → (a ≡ true) ⊎ ((b ≡ true) ⊎ ((c ≡ true) ⊎ (d ≡ true)))
one_of_four true b c d h = inl refl
one_of_four false true c d h = inr (inl refl)
one_of_four false false true d h = inr (inr (inl refl))
one_of_four false false false true h = inr (inr (inr refl))
one_of_four false false false false h = absurd (cc)

escape_is : (c : ℕ) → is_escape c ≡ true → print.escaped (meaning c) ≡ 92 ∷ c ∷ []
unfolding print.escaped meaning
escape_is c h =
    elim (one_of_four (c == 110) (c == 116) (c == 92) (c == 34) h) [
      | inl a ↦ (let e : c ≡ 110 = grind arith in rw e refl)
      | inr a ↦ elim a [
        | inl b ↦ (let e : c ≡ 116 = grind arith in rw e refl)
        | inr b ↦ elim b [
          | inl d ↦ (let e : c ≡ 92 = grind arith in rw e refl)
          | inr d ↦ (let e : c ≡ 34 = grind arith in rw e refl)
        ]
      ]
    ]

plain_is : (b : ℕ) → is_plain b ≡ true → (b == 34) ≡ false → (b == 92) ≡ false → print.escaped b ≡ b ∷ []
unfolding print.escaped
plain_is b p q e =
    let n : (b == 10) ≡ false = grind arith in
    let t : (b == 9) ≡ false = grind arith in
    rw (n, t, e, q) refl

writes_escaped : (v w : List ℕ) → Writes v w → Writes v (flat_map print.escaped v)
writes_escaped _ _ Writes.none = Writes.none
writes_escaped _ _ (Writes.plain b v w p q e r) = subst (λ (t : List ℕ). Writes (b ∷ v) (t ++ flat_map print.escaped v)) (sym (plain_is b p q e)) (Writes.plain b v (flat_map print.escaped v) p q e (writes_escaped v w r))
writes_escaped _ _ (Writes.escape c v w h r) = subst (λ (t : List ℕ). Writes (meaning c ∷ v) (t ++ flat_map print.escaped v)) (sym (escape_is c h)) (Writes.escape c v (flat_map print.escaped v) h (writes_escaped v w r))

pub literal_takes : (x : ℕ) (v w : List ℕ) → Writes v w → nat_lt most_bytes (length v) ≡ false → (n : ℕ) (s : List ℕ) (i : Input) → (kind_at (at n (print.quoted v ++ 32 ∷ s) i) ≡ kind.Text) × Is (rule.literal x) (SimpleGoal (Unifies x (term.Str v))) (at n (print.quoted v ++ 32 ∷ s) i) (at n s i)
unfolding rule.literal token next at print.quoted
literal_takes x v w o short n s i =
    let e = writes_escaped v w o in
    let r : Reads kind.Text (print.quoted v) = reads_text v (flat_map print.escaped v) e in
    let is : string_value (print.quoted v) ≡ v = value_of_text v (flat_map print.escaped v) e in (
      token_kind kind.Text (print.quoted v) r n s i,
      along (λ (j : Input). Is (rule.literal x) (SimpleGoal (Unifies x (term.Str v))) j (at n s i)) kind.Text (print.quoted v) r n s i (rw (is, short) refl),
    )
