-- Rules keep within the limits: names, variables, integers, strings and words.
use Rattle.std.proofs.Common.{◌≡◌, ◌≢◌, ℕ, suc, ◌≤◌, ◌<◌, List, [], ◌∷◌, length, refl, Bool, true, false, cond, not, ◌&&◌, ◌||◌, inl, inr, ◌⊎◌, Option, Some, None, Ok, Err, sym, ap, ◌∙◌, arith, subst, nat_lt, ◌==◌, ◌+◌, length-take, length-drop}
use Rattle.std.specs.Prelude.{⊤, codes, slice_index, unwrap_or}
use Rattle.std.specs.Char.{is_ascii_lowercase}
use Rattle.std.specs.List.{list_any, prefix_len}
use Rattle.std.specs.Str.{bytes_eq}
use Rattle.std.proofs.lemmas.Slice.Eq.{bytes_eq-Decides}
use Rattle.md_hlds.specs.declared.types.Mode.{Mode}
use Rattle.md_hlds.specs.declared.types.Mode.TheVariants as mode
use Rattle.md_hlds.specs.declared.types.Det.{Det}
use Rattle.md_hlds.specs.declared.types.Det.TheVariants as det
use Rattle.md_hlds.specs.declared.goal.PredName.{PredName}
use Rattle.md_hlds.specs.declared.goal.Term.TheVariants as term
use Rattle.md_hlds.specs.HldsGoal.{GoalExpr, SimpleGoal, Unifies}
use Rattle.md_hlds.specs.Hlds.{HldsType, number as int_type, text as string_type, world as io_type, named, same_qualifier}
use Rattle.md_token.specs.declared.kind.Kind.{Kind}
use Rattle.md_token.specs.declared.kind.Kind.TheVariants as kind
use Rattle.md_token.specs.Kinds.{same_kind}
use Rattle.md_token.specs.Token.{Lexeme, word_kind, is_word_byte}
use Rattle.md_token.specs.Literal.{number_of, string_value}
use Rattle.std.specs.Prelude.{pos}
use Rattle.md_reader.specs.Input.{Input, Outcome, ◌>>=◌, ◌>>◌, and_then, pure, refuse, advance, limit, standard, first, token, kind_at, sees, next, take_name, name, word, variable, with_variable, place_of}
use Rattle.md_reader.specs.declared.refused.Refusal.TheVariants.{Syntax, Limit, NoMemory}
use Rattle.md_reader.specs.Rules as rule
use Rattle.md_reader.specs.Excess.{opens_list, IsTooLong, name as long_name, variable as long_variable, qualifier as long_qualifier, qualified as long_qualified, string as long_string, positive as great, negative as small}
use Rattle.md_reader.proofs.Steps.{chosen}
use Rattle.md_reader.proofs.Taking.{kind_seen, turned}
use Rattle.md_token.proofs.Proper.{IsProper, is_reserved, AreProper}
use Rattle.md_reader.proofs.Within.{Good, good_next}
use Rattle.md_reader.proofs.WithinTokens.{any, is_minus, unsigned, Fits, flat, Single, Solo, One, solo_by, is_less, is_most, standing, items_at, named_solo, name_one}

-- ---- words

both_true : (a b : Bool) → (a && b) ≡ true → (a ≡ true) × (b ≡ true)
both_true true b h = (refl, h)
both_true false b h = absurd (cc)

-- a token that is this name
same_text : (x w : List ℕ) → bytes_eq x w ≡ true → x ≡ w
same_text x w e = (bytes_eq-Decides x w).0 e

pub word_one : (w : List ℕ) (c : Kind → Bool) → c kind.Name ≡ true → length w ≤ standard.items → One any c (λ (_ : ℕ). ⊤) (word w)
unfolding word
word_one w c is_word few i last g h =
    solo_by c (λ (_ : ℕ). ⊤) last i (sees kind.Name i && bytes_eq (token i).text w) (Ok ((token i).line, next i)) (refuse i)
    (λ e.
    let p = both_true _ _ e in
    let k = kind_seen kind.Name i p.0 in
    let l : length (token i).text ≤ standard.items = subst (λ (x : List ℕ). length x ≤ standard.items) (sym (same_text (token i).text w p.1)) few in
    record {
      is = (ap flat k, ap c k ∙ is_word);
      fits = subst (λ (k : Kind). Fits k last (token i).text) (sym k) l;
      value = tt;
      rest = refl;
      good = good_next i g;
    })
    (λ e. refl)

-- ---- variables

pub variable_one : (seen : List ℕ) → One any any (λ (_ : ℕ). ⊤) (variable seen)
unfolding variable
variable_one seen i last g h =
    let n = length (token i).text in
    let place = place_of (token i).text i.vars in
    let read : Outcome ℕ = Ok (place, record (next i) { vars = with_variable (token i).text i.vars }) in
    solo_by any (λ (_ : ℕ). ⊤) last i (not (sees kind.Variable i)) (refuse i) (cond (list_any (λ x. x == place) seen) (refuse i) (cond (nat_lt i.limits.items n) (limit i) read))
    (λ e. refl)
    (λ e. solo_by any (λ (_ : ℕ). ⊤) last i (list_any (λ x. x == place) seen) (refuse i) (cond (nat_lt i.limits.items n) (limit i) read)
    (λ f. refl)
    (λ f.
    let k = kind_seen kind.Variable i (turned (sees kind.Variable i) e) in
    solo_by any (λ (_ : ℕ). ⊤) last i (nat_lt i.limits.items n) (limit i) read
    (λ l. (refl, long_variable k (is_less standard.items n (standing (λ j. j.limits.items) i true n standard.items (items_at i g) l))))
    (λ l.
    let most : n ≤ standard.items = is_most standard.items n (standing (λ j. j.limits.items) i false n standard.items (items_at i g) l) in
    let m = good_next i g in
    record {
      is = (ap flat k, refl);
      fits = subst (λ (k : Kind). Fits k last (token i).text) (sym k) most;
      value = tt;
      rest = refl;
      good = record { limits = m.limits; proper = m.proper; home = m.home };
    })))

-- ---- names of predicates

-- both parts of a name are short enough
abbrev pub NameFits : PredName → Type 0
NameFits q = (length q.name ≤ standard.items) × (length (unwrap_or q.qualifier []) ≤ standard.items)

abbrev WrittenFits : rule.Written → Type 0
WrittenFits w = (length w.name ≤ standard.items) × (length (unwrap_or w.qualifier []) ≤ standard.items)

written_kind : (text : List ℕ) (k : Kind) (w : rule.Written) → rule.written_by text k ≡ Some w → (flat k ≡ true) × (opens_list k ≡ true)
written_kind text kind.Name w h = (refl, refl)
written_kind text kind.Qualified w h = (refl, refl)
written_kind text _ w h = absurd (cc)

some_same : (w v : rule.Written) → ◌≡◌ {A = Option rule.Written} (Some w) (Some v) → w ≡ v
some_same w v e = cc

qualified_is : (text : List ℕ) (w : rule.Written) → rule.qualified text ≡ Some w → record { qualifier = Some (rule.qualifier_part text); name = rule.name_part text } ≡ w
unfolding rule.qualified
qualified_is text w h =
    elim (chosen (same_kind (word_kind (rule.name_part text)) kind.Name) (Some (record { qualifier = Some (rule.qualifier_part text); name = rule.name_part text })) None (Some w) h) [
      | inl l ↦ some_same _ w l.1
      | inr r ↦ absurd (let e = r.1 in cc)
    ]

written_fits : (text : List ℕ) (k last : Kind) (w : rule.Written) → rule.written_by text k ≡ Some w → WrittenFits w → Fits k last text
written_fits text kind.Name last w h f = let q : WrittenFits (record { qualifier = None; name = text }) = subst WrittenFits (sym (some_same _ w h)) f in q.0
written_fits text kind.Qualified last w h f = let q : WrittenFits (record { qualifier = Some (rule.qualifier_part text); name = rule.name_part text }) = subst WrittenFits (sym (qualified_is text w h)) f in (q.1, q.0)
written_fits text _ last w h f = absurd (cc)

either_true : (a b : Bool) → (a || b) ≡ true → (a ≡ true) ⊎ (b ≡ true)
either_true true b h = inl refl
either_true false b h = inr h

neither_true : (a b : Bool) → (a || b) ≡ false → (a ≡ false) × (b ≡ false)
neither_true true b h = absurd (cc)
neither_true false b h = (refl, h)

abbrev IsLong : rule.Written → Type 0
IsLong w = (standard.items < length w.name) ⊎ (standard.items < length (unwrap_or w.qualifier []))

is_long_one : (w : rule.Written) → rule.is_long standard.items w ≡ true → IsLong w
is_long_one w h =
    elim (either_true (nat_lt standard.items (length w.name)) (nat_lt standard.items (length (unwrap_or w.qualifier []))) h) [
      | inl l ↦ inl (is_less standard.items (length w.name) l)
      | inr r ↦ inr (is_less standard.items (length (unwrap_or w.qualifier [])) r)
    ]

written_long : (t : Lexeme) (k last : Kind) (w : rule.Written) → t.kind ≡ k → rule.written_by t.text k ≡ Some w → IsLong w → IsTooLong standard last t
written_long t kind.Name last w e h l =
    elim (subst IsLong (sym (some_same _ w h)) l) [
      | inl n ↦ long_name e n
      | inr q ↦ absurd (omega (arith, q))
    ]
written_long t kind.Qualified last w e h l =
    elim (subst IsLong (sym (qualified_is t.text w h)) l) [
      | inl n ↦ long_qualified e n
      | inr q ↦ long_qualifier e q
    ]
written_long t _ last w e h l = absurd (cc)

-- a token that is a name is taken
written_single : {A : Type 0} (V : A → Type 0) (x : A) (i : Input) (last : Kind) (w : rule.Written) → Good i → rule.written (token i) ≡ Some w → WrittenFits w → V x → Single opens_list V last i x (next i)
unfolding rule.written
written_single V x i last w g e f v = record {
  is = written_kind (token i).text (kind_at i) w e;
  fits = written_fits (token i).text (kind_at i) last w e f;
  value = v;
  rest = refl;
  good = good_next i g;
}

away_fits : (home : List ℕ) (q : Option (List ℕ)) → length (unwrap_or q []) ≤ standard.items → length (unwrap_or (rule.away_from home q) []) ≤ standard.items
away_fits home None f = f
away_fits home (Some v) f = away_by (bytes_eq v home) v f
  where
    away_by : (b : Bool) (v : List ℕ) → length v ≤ standard.items → length (unwrap_or (cond b None (Some v)) []) ≤ standard.items
    away_by true v f = omega arith
    away_by false v f = f

take_written_solo : (o : Option rule.Written) (i : Input) (last : Kind) → Good i → rule.written (token i) ≡ o → Solo opens_list NameFits last i (rule.take_written o i)
unfolding rule.written
take_written_solo None i last g e = refl
take_written_solo (Some w) i last g e =
    let most : rule.is_long i.limits.items w ≡ rule.is_long standard.items w = ap (λ (n : ℕ). rule.is_long n w) (items_at i g) in
    solo_by opens_list NameFits last i (rule.is_long i.limits.items w) (limit i) (Ok (rule.meant i.home w, next i))
    (λ h. (refl, written_long (token i) (kind_at i) last w refl e (is_long_one w (sym most ∙ h))))
    (λ h.
    let n = neither_true _ _ (sym most ∙ h) in
    let f : WrittenFits w = (is_most standard.items (length w.name) n.0, is_most standard.items (length (unwrap_or w.qualifier [])) n.1) in
    written_single NameFits (rule.meant i.home w) i last w g e f (f.0, away_fits i.home w.qualifier f.1))

pub pred_name_one : One any opens_list NameFits rule.pred_name
unfolding rule.pred_name
pred_name_one i last g h = take_written_solo (rule.written (token i)) i last g refl

declared_solo : (o : Option rule.Written) (i : Input) (last : Kind) → Good i → rule.written (token i) ≡ o → Solo opens_list NameFits last i (rule.take_declared o i)
declared_solo None i last g e = refl
declared_solo (Some w) i last g e = declared_by (rule.is_of_library w.qualifier)
  where
    declared_by : (b : Bool) → Solo opens_list NameFits last i (cond b refuse (rule.take_written (Some w)) i)
    declared_by true = refl
    declared_by false = take_written_solo (Some w) i last g e

pub declared_name_one : One any opens_list NameFits rule.declared_name
unfolding rule.declared_name
declared_name_one i last g h = declared_solo (rule.written (token i)) i last g refl

-- the name of the clause is that of the declaration
same_length : (v u : List ℕ) → bytes_eq v u ≡ true → length u ≤ standard.items → length v ≤ standard.items
same_length v u e f = subst (λ (x : List ℕ). length x ≤ standard.items) (sym (same_text v u e)) f

same_fits : (q r : Option (List ℕ)) → same_qualifier q r ≡ true → length (unwrap_or r []) ≤ standard.items → length (unwrap_or q []) ≤ standard.items
same_fits None r e f = omega arith
same_fits (Some v) None e f = absurd (cc)
same_fits (Some v) (Some u) e f = same_length v u e f

meant_fits : (home : List ℕ) (q r : Option (List ℕ)) → same_qualifier (rule.away_from home q) r ≡ true → length home ≤ standard.items → length (unwrap_or r []) ≤ standard.items → length (unwrap_or q []) ≤ standard.items
meant_fits home None r e h f = omega arith
meant_fits home (Some v) r e h f = meant_by (bytes_eq v home) refl e
  where
    meant_by : (b : Bool) → bytes_eq v home ≡ b → same_qualifier (cond b None (Some v)) r ≡ true → length v ≤ standard.items
    meant_by true s e = same_length v home s h
    meant_by false s e = same_fits (Some v) r e f

same_solo : (q : PredName) → NameFits q → (o : Option rule.Written) (i : Input) (last : Kind) → Good i → rule.written (token i) ≡ o → Solo opens_list (λ (_ : Unit {0}). ⊤) last i (rule.take_same q o i)
same_solo q f None i last g e = refl
same_solo q f (Some w) i last g e =
    solo_by opens_list (λ (_ : Unit {0}). ⊤) last i (rule.same_name (rule.meant i.home w) q) (Ok (tt, next i)) (refuse i)
    (λ h.
    let p = both_true _ _ h in
    written_single (λ (_ : Unit {0}). ⊤) tt i last w g e (same_length w.name q.name p.1 f.0, meant_fits i.home w.qualifier q.qualifier p.0 g.home f.1) tt)
    (λ h. refl)

pub this_name_one : (q : PredName) → NameFits q → One any opens_list (λ (_ : Unit {0}). ⊤) (rule.this_name q)
unfolding rule.this_name
this_name_one q f i last g h = same_solo q f (rule.written (token i)) i last g refl

-- ---- integers and strings

integer_at : (i : Input) → Good i → i.limits.integer ≡ standard.integer
integer_at i g = ap (λ l. l.integer) g.limits

no_minus : (last : Kind) → unsigned last ≡ true → last ≢ kind.Minus
no_minus last u e = let n : unsigned kind.Minus ≡ true = ap unsigned (sym e) ∙ u in absurd (cc)

pub positive_solo : (x : ℕ) (i : Input) (last : Kind) → Good i → unsigned last ≡ true → kind_at i ≡ kind.Integer → Solo any (λ (_ : GoalExpr). ⊤) last i (rule.positive x i)
unfolding rule.positive
positive_solo x i last g u k =
    let n = number_of (token i).text in
    solo_by any (λ (_ : GoalExpr). ⊤) last i (nat_lt i.limits.integer n) (limit i) (Ok (SimpleGoal (Unifies x (term.Int (pos n))), next i))
    (λ h. (refl, great k (no_minus last u) (is_less standard.integer n (standing (λ j. j.limits.integer) i true n standard.integer (integer_at i g) h))))
    (λ h.
    let most : n ≤ standard.integer = is_most standard.integer n (standing (λ j. j.limits.integer) i false n standard.integer (integer_at i g) h) in
    record {
      is = (ap flat k, refl);
      fits = subst (λ (k : Kind). Fits k last (token i).text) (sym k) ((λ m. most), (λ m. absurd (no_minus last u m)));
      value = tt;
      rest = refl;
      good = good_next i g;
    })

minus_only : (last : Kind) → is_minus last ≡ true → last ≡ kind.Minus
minus_only kind.Minus e = refl
minus_only _ e = absurd (cc)

negative_solo : (x : ℕ) (i : Input) (last : Kind) → Good i → last ≡ kind.Minus → kind_at i ≡ kind.Integer → Solo any (λ (_ : GoalExpr). ⊤) last i (rule.take_negative x (number_of (token i).text) i)
negative_solo x i last g m k =
    let n = number_of (token i).text in
    solo_by any (λ (_ : GoalExpr). ⊤) last i (nat_lt (suc i.limits.integer) n) (limit i) (Ok (SimpleGoal (Unifies x (term.Int (rule.minus n))), next i))
    (λ h. (refl, small k m (is_less (suc standard.integer) n (standing (λ j. suc j.limits.integer) i true n (suc standard.integer) (ap suc (integer_at i g)) h))))
    (λ h.
    let most : n ≤ suc standard.integer = is_most (suc standard.integer) n (standing (λ j. suc j.limits.integer) i false n (suc standard.integer) (ap suc (integer_at i g)) h) in
    record {
      is = (ap flat k, refl);
      fits = subst (λ (k : Kind). Fits k last (token i).text) (sym k) ((λ d. absurd (d m)), (λ d. most));
      value = tt;
      rest = refl;
      good = good_next i g;
    })

pub negated_one : (x : ℕ) → One is_minus any (λ (_ : GoalExpr). ⊤) (rule.negated x)
unfolding rule.negated
negated_one x i last g m =
    solo_by any (λ (_ : GoalExpr). ⊤) last i (sees kind.Integer i) (rule.take_negative x (number_of (token i).text) i) (refuse i)
    (λ e. negative_solo x i last g (minus_only last m) (kind_seen kind.Integer i e))
    (λ e. refl)

pub literal_solo : (x : ℕ) (i : Input) (last : Kind) → Good i → kind_at i ≡ kind.Text → Solo any (λ (_ : GoalExpr). ⊤) last i (rule.literal x i)
unfolding rule.literal
literal_solo x i last g k =
    let n = length (string_value (token i).text) in
    let bytes : i.limits.bytes ≡ standard.bytes = ap (λ l. l.bytes) g.limits in
    solo_by any (λ (_ : GoalExpr). ⊤) last i (nat_lt i.limits.bytes n) (limit i) (Ok (SimpleGoal (Unifies x (term.Str (string_value (token i).text))), next i))
    (λ h. (refl, long_string k (is_less standard.bytes n (standing (λ j. j.limits.bytes) i true n standard.bytes bytes h))))
    (λ h.
    let most : n ≤ standard.bytes = is_most standard.bytes n (standing (λ j. j.limits.bytes) i false n standard.bytes bytes h) in
    record {
      is = (ap flat k, refl);
      fits = subst (λ (k : Kind). Fits k last (token i).text) (sym k) most;
      value = tt;
      rest = refl;
      good = good_next i g;
    })

-- ---- words by their bytes

abbrev IsCode : List ℕ → Type 0
IsCode w = (is_ascii_lowercase (slice_index w 0) ≡ true) × (word_kind w ≡ kind.Name) × (length w ≤ standard.items)

code : (w x : List ℕ) → bytes_eq x w ≡ true → IsCode w → IsCode x
code w x e h = subst IsCode (sym (same_text x w e)) h

proper_first : (ts : List Lexeme) → AreProper ts → IsProper (first ts)
proper_first [] h = record { word = λ e. absurd (cc); reserved = λ e. absurd (cc) }
proper_first (t ∷ ts) h = h.0

proper_at : (i : Input) → Good i → IsProper (token i)
unfolding token
proper_at i g = proper_first i.rest g.proper

qualified_fits : (text : List ℕ) → length text ≤ standard.items → Fits kind.Qualified kind.Stop text
qualified_fits text l = (part_fits, rest_fits)
  where
    part_fits : length (rule.qualifier_part text) ≤ standard.items
    part_fits = let n = length-take (prefix_len is_word_byte text) text in omega (arith, n, l)

    rest_fits : length (rule.name_part text) ≤ standard.items
    rest_fits = let n = length-drop (prefix_len is_word_byte text + 1) text in omega (arith, n, l)

code_single : {A : Type 0} (x : A) (i : Input) (last : Kind) → Good i → IsCode (token i).text → Single opens_list (λ (_ : A). ⊤) last i x (next i)
code_single {A} x i last g h =
    elim ((proper_at i g).word h.0) [
      | inl q ↦ record { is = (ap flat q, ap opens_list q); fits = subst (λ (k : Kind). Fits k last (token i).text) (sym q) (qualified_fits (token i).text h.2); value = tt; rest = refl; good = good_next i g }
      | inr w ↦ code_name (w ∙ h.1)
    ]
  where
    code_name : kind_at i ≡ kind.Name → Single opens_list (λ (_ : A). ⊤) last i x (next i)
    code_name k = record { is = (ap flat k, ap opens_list k); fits = subst (λ (k : Kind). Fits k last (token i).text) (sym k) h.2; value = tt; rest = refl; good = good_next i g }

code_solo : {A : Type 0} (f : List ℕ → Option A) → ((w : List ℕ) (x : A) → f w ≡ Some x → IsCode w) → (o : Option A) (i : Input) (last : Kind) → f (token i).text ≡ o → Good i → Solo opens_list (λ (_ : A). ⊤) last i (rule.take_word o i)
code_solo f codes None i last e g = refl
code_solo f codes (Some x) i last e g = code_single x i last g (codes (token i).text x e)

mode_code : (w : List ℕ) (x : Mode) → rule.mode_named w ≡ Some x → IsCode w
unfolding word_kind
mode_code w x h = mode_by (bytes_eq w (codes "in")) (bytes_eq w (codes "out")) (bytes_eq w (codes "di")) (bytes_eq w (codes "uo")) refl refl refl refl h
  where
    mode_by : (a b c d : Bool) → bytes_eq w (codes "in") ≡ a → bytes_eq w (codes "out") ≡ b → bytes_eq w (codes "di") ≡ c → bytes_eq w (codes "uo") ≡ d
        → cond a (Some mode.In) (cond b (Some mode.Out) (cond c (Some mode.Di) (cond d (Some mode.Uo) None))) ≡ Some x → IsCode w
    mode_by true b c d e f g k h = code (codes "in") w e (refl, refl, omega arith)
    mode_by false true c d e f g k h = code (codes "out") w f (refl, refl, omega arith)
    mode_by false false true d e f g k h = code (codes "di") w g (refl, refl, omega arith)
    mode_by false false false true e f g k h = code (codes "uo") w k (refl, refl, omega arith)
    mode_by false false false false e f g k h = absurd (cc)

det_code : (w : List ℕ) (x : Det) → rule.det_named w ≡ Some x → IsCode w
unfolding word_kind
det_code w x h = det_by (bytes_eq w (codes "det")) (bytes_eq w (codes "semidet")) (bytes_eq w (codes "multi")) (bytes_eq w (codes "nondet")) (bytes_eq w (codes "failure")) refl refl refl refl refl h
  where
    det_by : (a b c d e : Bool) → bytes_eq w (codes "det") ≡ a → bytes_eq w (codes "semidet") ≡ b → bytes_eq w (codes "multi") ≡ c → bytes_eq w (codes "nondet") ≡ d → bytes_eq w (codes "failure") ≡ e
        → cond a (Some det.Det) (cond b (Some det.Semidet) (cond c (Some det.Multi) (cond d (Some det.Nondet) (cond e (Some det.Failure) None)))) ≡ Some x → IsCode w
    det_by true b c d e p q r s t h = code (codes "det") w p (refl, refl, omega arith)
    det_by false true c d e p q r s t h = code (codes "semidet") w q (refl, refl, omega arith)
    det_by false false true d e p q r s t h = code (codes "multi") w r (refl, refl, omega arith)
    det_by false false false true e p q r s t h = code (codes "nondet") w s (refl, refl, omega arith)
    det_by false false false false true p q r s t h = code (codes "failure") w t (refl, refl, omega arith)
    det_by false false false false false p q r s t h = absurd (cc)

ho_some : (o : Option Mode) (x : Mode) → rule.ho_mode_by o ≡ Some x → (y : Mode) × (o ≡ Some y)
ho_some None x h = absurd (cc)
ho_some (Some y) x h = (y, refl)

ho_code : (w : List ℕ) (x : Mode) → rule.ho_mode_named w ≡ Some x → IsCode w
ho_code w x h = let m = ho_some (rule.mode_named w) x h in mode_code w m.0 m.1

pub mode_one : One any opens_list (λ (_ : Mode). ⊤) rule.mode_word
unfolding rule.mode_word
mode_one i last g h = code_solo rule.mode_named mode_code (rule.mode_named (token i).text) i last refl g

pub ho_mode_one : One any opens_list (λ (_ : Mode). ⊤) rule.ho_mode
unfolding rule.ho_mode
ho_mode_one i last g h = code_solo rule.ho_mode_named ho_code (rule.ho_mode_named (token i).text) i last refl g

pub determinism_one : One any opens_list (λ (_ : Det). ⊤) rule.determinism
unfolding rule.determinism
determinism_one i last g h = code_solo rule.det_named det_code (rule.det_named (token i).text) i last refl g

-- ---- types

simple_type_single : (t : HldsType) (i : Input) (last : Kind) → Good i → kind_at i ≡ kind.Name → length (token i).text ≤ standard.items → Single any (λ (_ : HldsType). ⊤) last i t (next i)
simple_type_single t i last g k l = record { is = (ap flat k, refl); fits = subst (λ (k : Kind). Fits k last (token i).text) (sym k) l; value = tt; rest = refl; good = good_next i g }

own_simple_type : (i : Input) (last : Kind) (r : Outcome (List ℕ)) → Solo any (λ (x : List ℕ). length x ≤ standard.items) last i r → Solo any (λ (_ : HldsType). ⊤) last i (and_then r (λ n. pure (named n)))
own_simple_type i last (Ok p) a = record { is = a.is; fits = a.fits; value = tt; rest = a.rest; good = a.good }
own_simple_type i last (Err (Syntax at)) a = a
own_simple_type i last (Err (Limit at)) a = a
own_simple_type i last (Err NoMemory) a = a

pub simple_type_one : One any any (λ (_ : HldsType). ⊤) rule.simple_type
unfolding rule.simple_type
simple_type_one i last g h =
    solo_by any (λ (_ : HldsType). ⊤) last i (sees kind.Name i) (rule.simple_type_named (token i).text i) (refuse i)
    (λ e. let k = kind_seen kind.Name i e in simple_type_by (bytes_eq (token i).text (codes "int")) (bytes_eq (token i).text (codes "string")) (bytes_eq (token i).text (codes "io")) refl refl refl k)
    (λ e. refl)
  where
    short_text : (w : List ℕ) → bytes_eq (token i).text w ≡ true → length w ≤ standard.items → length (token i).text ≤ standard.items
    short_text w e l = subst (λ (x : List ℕ). length x ≤ standard.items) (sym (same_text (token i).text w e)) l

    simple_type_by : (a b c : Bool) → bytes_eq (token i).text (codes "int") ≡ a → bytes_eq (token i).text (codes "string") ≡ b → bytes_eq (token i).text (codes "io") ≡ c → kind_at i ≡ kind.Name
        → Solo any (λ (_ : HldsType). ⊤) last i (cond a (advance >> pure int_type) (cond b (advance >> pure string_type) (cond c (advance >> pure io_type) (take_name (token i).text >>= (λ n. pure (named n))))) i)
    simple_type_by true b c d e f k = simple_type_single int_type i last g k (short_text (codes "int") d (omega arith))
    simple_type_by false true c d e f k = simple_type_single string_type i last g k (short_text (codes "string") e (omega arith))
    simple_type_by false false true d e f k = simple_type_single io_type i last g k (short_text (codes "io") f (omega arith))
    simple_type_by false false false d e f k = own_simple_type i last (take_name (token i).text i) (named_solo any refl i last g k)

pub type_name_one : One any any (λ (x : List ℕ). length x ≤ standard.items) rule.type_name
unfolding rule.type_name
type_name_one i last g h =
    solo_by any (λ (x : List ℕ). length x ≤ standard.items) last i (rule.is_own_type (token i).text) (name i) (refuse i)
    (λ e. name_one any refl i last g refl)
    (λ e. refl)

-- ---- the name of a module, which may be a reserved word

name_kinds : (k : Kind) → rule.is_name k ≡ true → (flat k ≡ true) × ((k ≡ kind.Name) ⊎ ((is_reserved k ≡ true) × ((last : Kind) (text : List ℕ) → Fits k last text)))
name_kinds kind.Name e = (refl, inl refl)
name_kinds kind.True e = (refl, inr (refl, λ last text. tt))
name_kinds kind.Fail e = (refl, inr (refl, λ last text. tt))
name_kinds kind.Not e = (refl, inr (refl, λ last text. tt))
name_kinds kind.Some e = (refl, inr (refl, λ last text. tt))
name_kinds kind.Call e = (refl, inr (refl, λ last text. tt))
name_kinds kind.Is e = (refl, inr (refl, λ last text. tt))
name_kinds kind.Pred e = (refl, inr (refl, λ last text. tt))
name_kinds _ e = absurd (cc)

pub module_one : One any any (λ (_ : List ℕ). ⊤) rule.module_name
unfolding rule.module_name take_name
module_one i last g h =
    solo_by any (λ (_ : List ℕ). ⊤) last i (rule.is_name (kind_at i) && not (rule.is_library (token i).text)) ((take_name (token i).text >>= (λ m. rule.set_home (token i).text >> pure m)) i) (refuse i)
    (λ e. let k = name_kinds (kind_at i) (both_true _ _ e).0 in home_by (nat_lt i.limits.items (length (token i).text)) refl k.0 k.1)
    (λ e. refl)
  where
    good_home : length (token i).text ≤ standard.items → Good (record (next i) { home = (token i).text })
    good_home l = let m = good_next i g in record { limits = m.limits; proper = m.proper; home = l }

    home_fits : length (token i).text ≤ standard.items → (kind_at i ≡ kind.Name) ⊎ ((is_reserved (kind_at i) ≡ true) × ((last : Kind) (text : List ℕ) → Fits (kind_at i) last text)) → Fits (kind_at i) last (token i).text
    home_fits l (inl k) = subst (λ (k : Kind). Fits k last (token i).text) (sym k) l
    home_fits l (inr r) = r.1 last (token i).text

    home_long : standard.items < length (token i).text → (kind_at i ≡ kind.Name) ⊎ ((is_reserved (kind_at i) ≡ true) × ((last : Kind) (text : List ℕ) → Fits (kind_at i) last text)) → IsTooLong standard last (token i)
    home_long l (inl k) = long_name k l
    home_long l (inr r) = let few = (proper_at i g).reserved r.0 in absurd (omega (arith, few, l))

    home_by : (b : Bool) → nat_lt i.limits.items (length (token i).text) ≡ b → flat (kind_at i) ≡ true → (kind_at i ≡ kind.Name) ⊎ ((is_reserved (kind_at i) ≡ true) × ((last : Kind) (text : List ℕ) → Fits (kind_at i) last text))
        → Solo any (λ (_ : List ℕ). ⊤) last i (and_then (cond b (limit i) (Ok ((token i).text, next i))) (λ m. rule.set_home (token i).text >> pure m))
    home_by true e f k = (refl, home_long (is_less standard.items (length (token i).text) (standing (λ j. j.limits.items) i true (length (token i).text) standard.items (items_at i g) e)) k)
    home_by false e f k =
        let l : length (token i).text ≤ standard.items = is_most standard.items (length (token i).text) (standing (λ j. j.limits.items) i false (length (token i).text) standard.items (items_at i g) e) in
        record { is = (f, refl); fits = home_fits l k; value = tt; rest = refl; good = good_home l }
