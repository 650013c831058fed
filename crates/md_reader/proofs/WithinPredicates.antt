-- Rules keep within the limits: predicates and programs.
use Rattle.std.proofs.Common.{◌≡◌, ℕ, zero, suc, ◌+◌, ◌≤◌, ◌<◌, List, [], ◌∷◌, ◌++◌, length, refl, Bool, false, Ok, sym, ap, arith, subst, length-append, ◌==◌}
use Rattle.std.specs.Prelude.{⊤, codes}
use Rattle.md_hlds.specs.declared.types.Mode.{Mode}
use Rattle.md_hlds.specs.declared.types.Det.{Det}
use Rattle.md_hlds.specs.declared.goal.PredName.{PredName}
use Rattle.md_hlds.specs.Hlds.{HldsType, closure, gathered_types, Hlds}
use Rattle.md_token.specs.declared.kind.Kind.{Kind}
use Rattle.md_token.specs.declared.kind.Kind.TheVariants as kind
use Rattle.md_reader.specs.Input.{Limits, ◌>>=◌, and_then, pure, limit, standard, sees, word, variable, peek, end_clause}
use Rattle.md_reader.specs.Rules as rule
use Rattle.md_reader.specs.Excess.{Opened, AList, Point, beginning, opens_list, item}
use Rattle.md_reader.proofs.Within.{Case, Keeps, Step, bound, given, given_at, faulty, over_here, either_by, peeked, wider, perhaps, then, ending}
use Rattle.md_reader.proofs.WithinTokens.{any, starts, Sits, list_step, sign_step, one, only, IsFull, excess}
use Rattle.md_reader.proofs.WithinNames.{NameFits, mode_one, ho_mode_one, determinism_one, declared_name_one, this_name_one, simple_type_one, word_one, module_one}
use Rattle.md_reader.proofs.WithinLists.{Turn, turn_full, first_turn, listed, at_most, close_step, variable_keeps, simple_types_keep, simple_type_keeps, sits_any, flat_step, type_definition_keeps}
use Rattle.md_reader.proofs.WithinGoals.{conjunction_keeps}

mode_keeps : (o : List Opened) → Keeps (Sits any o) rule.mode_word (λ _. Sits opens_list o)
mode_keeps o = only any opens_list (λ (_ : Mode). ⊤) o rule.mode_word mode_one

determinism_keeps : (o : List Opened) → Keeps (Sits any o) rule.determinism (λ _. Sits any o)
determinism_keeps o = wider (Sits any o) (λ _. Sits opens_list o) (λ _. Sits any o) rule.determinism (λ x s w. sits_any opens_list o s w) (only any opens_list (λ (_ : Det). ⊤) o rule.determinism determinism_one)

mode_settles : (o : List Opened) → Keeps (Sits any o) rule.mode_word (λ _. Sits any o)
mode_settles o = wider (Sits any o) (λ _. Sits opens_list o) (λ _. Sits any o) rule.mode_word (λ x s w. sits_any opens_list o s w) (mode_keeps o)

-- ---- the types and modes of higher-order arguments

modes_from_keep : (o : List Opened) (n commas : ℕ) (found : List Mode) → commas + n ≡ standard.items → Keeps (Turn commas n o) (rule.modes_from n found) (λ _. Sits any o)
unfolding rule.modes_from
modes_from_keep o zero commas found e i s g w = excess opens_list (λ (_ : Mode). ⊤) (λ (_ : List Mode). Sits any o) rule.mode_word mode_one i s g (turn_full commas o s e w)
modes_from_keep o (suc n) commas found e i s g w =
    listed any any commas n o kind.Close (λ _. Sits any o) rule.mode_word (λ m. rule.modes_from n (found ++ m ∷ [])) (λ m. found ++ m ∷ []) e (close_step any any commas o refl) (mode_settles (AList commas ∷ o))
    (λ m. modes_from_keep o n (suc commas) (found ++ m ∷ []) (omega (arith, e))) (λ x s w. w) i s g w

modes_keep : (o : List Opened) → Keeps (Sits any (AList 0 ∷ o)) rule.modes_at_most (λ _. Sits any o)
modes_keep o = at_most (Sits any (AList 0 ∷ o)) (λ _. Sits any o) (λ n. rule.modes_from n []) (λ i s g w. modes_from_keep o standard.items 0 [] refl i s g (first_turn any o s w))

-- behind `pred` a `(` opens a list
pred_step : (c : Kind → Bool) (o : List Opened) → Step kind.Pred (Sits c o) (Sits opens_list o)
pred_step c o = flat_step kind.Pred c opens_list o refl refl (λ l. refl) refl refl

open_list : (o : List Opened) → Step kind.Open (Sits opens_list o) (Sits any (AList 0 ∷ o))
open_list o = list_step opens_list any o (λ k h. h) refl

inst_modes_keep : (o : List Opened) → Keeps (Sits any o) rule.inst_modes (λ _. Sits any o)
unfolding rule.inst_modes
inst_modes_keep o = then kind.Pred (Sits any o) (Sits opens_list o) (pred_step any o) (λ _. Sits any o) _ (λ _. then kind.Open (Sits opens_list o) (Sits any (AList 0 ∷ o)) (open_list o) (λ _. Sits any o) _ (λ _. modes_keep o))

is_step : (o : List Opened) → Step kind.Is (Sits any o) (Sits any o)
is_step o = flat_step kind.Is any any o refl refl (λ l. refl) refl refl

inst_keeps : (o : List Opened) → Keeps (Sits opens_list o) rule.inst (λ _. Sits any o)
unfolding rule.inst
inst_keeps o =
    then kind.Open (Sits opens_list o) (Sits any (AList 0 ∷ o)) (open_list o) (λ _. Sits any o) _
    (λ _. bound (Sits any (AList 0 ∷ o)) (λ _. Sits any (AList 0 ∷ o)) (λ _. Sits any o) rule.inst_modes _ (inst_modes_keep (AList 0 ∷ o))
    (λ ms. then kind.Is (Sits any (AList 0 ∷ o)) (Sits any (AList 0 ∷ o)) (is_step (AList 0 ∷ o)) (λ _. Sits any o) _
    (λ _. bound (Sits any (AList 0 ∷ o)) (λ _. Sits any (AList 0 ∷ o)) (λ _. Sits any o) rule.determinism _ (determinism_keeps (AList 0 ∷ o))
    (λ x. ending kind.Close (Sits any (AList 0 ∷ o)) (Sits any o) (close_step any any 0 o refl) (λ _. Sits any o) (ms, x) (λ s w. w)))))

has_mode : (o : List Opened) → Step kind.HasMode (Sits any o) (Sits any o)
has_mode o = flat_step kind.HasMode any any o refl refl (λ l. refl) refl refl

ho_types_keep : (o : List Opened) → Keeps (Sits any o) rule.ho_types (λ _. Sits any o)
unfolding rule.ho_types
ho_types_keep o =
    then kind.Pred (Sits any o) (Sits opens_list o) (pred_step any o) (λ _. Sits any o) _
    (λ _. then kind.Open (Sits opens_list o) (Sits any (AList 0 ∷ o)) (open_list o) (λ _. Sits any o) _
    (λ _. bound (Sits any (AList 0 ∷ o)) (λ _. Sits any o) (λ _. Sits any o) rule.simple_types _ (simple_types_keep o) (λ ts. ending kind.HasMode (Sits any o) (Sits any o) (has_mode o) (λ _. Sits any o) ts (λ s w. w))))

-- ---- arguments of a declaration

ho_argument_keeps : (o : List Opened) → Keeps (Sits any o) rule.ho_argument (λ _. Sits any o)
unfolding rule.ho_argument
ho_argument_keeps o =
    bound (Sits any o) (λ _. Sits any o) (λ _. Sits any o) rule.ho_types _ (ho_types_keep o)
    (λ ts. bound (Sits any o) (λ _. Sits opens_list o) (λ _. Sits any o) rule.ho_mode _ (only any opens_list (λ (_ : Mode). ⊤) o rule.ho_mode ho_mode_one)
    (λ m. bound (Sits opens_list o) (λ _. Sits any o) (λ _. Sits any o) rule.inst _ (inst_keeps o) (λ n. given (Sits any o) (λ _. Sits any o) (closure (gathered_types ts) n.0 n.1, m) (λ s w. w))))

plain_argument_keeps : (o : List Opened) → Keeps (Sits any o) rule.plain_argument (λ _. Sits any o)
unfolding rule.plain_argument
plain_argument_keeps o =
    bound (Sits any o) (λ _. Sits any o) (λ _. Sits any o) rule.simple_type _ (simple_type_keeps o)
    (λ t. then kind.HasMode (Sits any o) (Sits any o) (has_mode o) (λ _. Sits any o) _
    (λ _. bound (Sits any o) (λ _. Sits any o) (λ _. Sits any o) rule.mode_word _ (mode_settles o) (λ m. given (Sits any o) (λ _. Sits any o) (t, m) (λ s w. w))))

argument_keeps : (o : List Opened) → Keeps (Sits any o) rule.argument (λ _. Sits any o)
unfolding rule.argument
argument_keeps o i s g w = either_by (λ _. Sits any o) s i (sees kind.Pred i) (rule.ho_argument i) (rule.plain_argument i) (λ e. ho_argument_keeps o i s g w) (λ e. plain_argument_keeps o i s g w)

excess_keeps : (Q : List (HldsType × Mode) → Point → Type 0) → Keeps IsFull rule.excess Q
unfolding rule.excess
excess_keeps Q i s g w =
    either_by Q s i (sees kind.Pred i) (limit i) (and_then (rule.simple_type i) (λ t j. limit i))
    (λ e. over_here s i (item w.last w.full)) (λ e. excess any (λ (_ : HldsType). ⊤) Q rule.simple_type simple_type_one i s g w)

-- no more than a list may have
abbrev pub Few : List (HldsType × Mode) → List Opened → Point → Type 0
Few found o s = (length found ≤ standard.items) × Sits any o s

one_more : {A : Type 0} (found : List A) (x : A) → length (found ++ x ∷ []) ≡ suc (length found)
one_more found x = let l = length-append found (x ∷ []) in omega (arith, l)

arguments_from_keep : (o : List Opened) (n commas : ℕ) (found : List (HldsType × Mode)) → length found ≡ commas → commas + n ≡ standard.items → Keeps (Turn commas n o) (rule.arguments_from n found) (λ xs. Few xs o)
unfolding rule.arguments_from
arguments_from_keep o zero commas found l e i s g w = excess_keeps (λ xs. Few xs o) i s g (turn_full commas o s e w)
arguments_from_keep o (suc n) commas found l e i s g w =
    listed any any commas n o kind.Close (λ xs. Few xs o) rule.argument (λ t. rule.arguments_from n (found ++ t ∷ [])) (λ t. found ++ t ∷ []) e (close_step any any commas o refl) (argument_keeps (AList commas ∷ o))
    (λ t. arguments_from_keep o n (suc commas) (found ++ t ∷ []) (let m = one_more found t in omega (arith, l, m)) (omega (arith, e)))
    (λ x s w. (let m = one_more found x in omega (arith, l, m, e), w)) i s g w

arguments_keep : (o : List Opened) → Keeps (Sits any (AList 0 ∷ o)) rule.arguments_at_most (λ xs. Few xs o)
arguments_keep o = at_most (Sits any (AList 0 ∷ o)) (λ xs. Few xs o) (λ n. rule.arguments_from n []) (λ i s g w. arguments_from_keep o standard.items 0 [] refl refl i s g (first_turn any o s w))

declared_arguments_keep : (o : List Opened) → Keeps (Sits opens_list o) rule.declared_arguments (λ xs. Few xs o)
unfolding rule.declared_arguments
declared_arguments_keep o =
    perhaps kind.Open (Sits opens_list o) (Sits any (AList 0 ∷ o)) (open_list o) (λ xs. Few xs o) rule.arguments_at_most (pure [])
    (arguments_keep o) (given (Sits opens_list o) (λ xs. Few xs o) [] (λ s w. (omega arith, sits_any opens_list o s w)))

-- ---- the head of a clause

next_variable : (commas n : ℕ) (o : List Opened) → commas + suc (suc n) ≤ standard.items → Step kind.Comma (Sits any (AList commas ∷ o)) (Sits any (AList (suc commas) ∷ o))
next_variable commas n o e = sign_step kind.Comma any any (AList commas ∷ o) (AList (suc commas) ∷ o) refl refl (λ l. refl) refl (less_number (suc commas) standard.items (omega (arith, e)))
  where
    less_number : (m n : ℕ) → m < n → (m == n) ≡ false
    less_number m n h = grind arith

head_from_keeps : (o : List Opened) (n commas : ℕ) (found : List ℕ) → commas + suc n ≤ standard.items → Keeps (Sits any (AList commas ∷ o)) (rule.head_from n found) (λ _. Sits any o)
unfolding rule.head_from
head_from_keeps o zero commas found e =
    bound (Sits any (AList commas ∷ o)) (λ _. Sits any (AList commas ∷ o)) (λ _. Sits any o) (variable found) _ (variable_keeps (AList commas ∷ o) found)
    (λ x. ending kind.Close (Sits any (AList commas ∷ o)) (Sits any o) (close_step any any commas o refl) (λ _. Sits any o) (found ++ x ∷ []) (λ s w. w))
head_from_keeps o (suc n) commas found e =
    bound (Sits any (AList commas ∷ o)) (λ _. Sits any (AList commas ∷ o)) (λ _. Sits any o) (variable found) _ (variable_keeps (AList commas ∷ o) found)
    (λ x. then kind.Comma (Sits any (AList commas ∷ o)) (Sits any (AList (suc commas) ∷ o)) (next_variable commas n o e) (λ _. Sits any o) _
    (λ _. head_from_keeps o n (suc commas) (found ++ x ∷ []) (omega (arith, e))))

head_keeps : (o : List Opened) (arity : ℕ) → arity ≤ standard.items → Keeps (Sits opens_list o) (rule.head arity) (λ _. Sits any o)
unfolding rule.head
head_keeps o zero e = given (Sits opens_list o) (λ _. Sits any o) [] (λ s w. sits_any opens_list o s w)
head_keeps o (suc n) e = then kind.Open (Sits opens_list o) (Sits any (AList 0 ∷ o)) (open_list o) (λ _. Sits any o) _ (λ _. head_from_keeps o n 0 [] (omega (arith, e)))

-- ---- declarations and clauses

-- between declarations nothing is open
abbrev pub Top : Point → Type 0
Top = Sits any []

declared_determinism_keeps : Keeps Top rule.declared_determinism (λ _. Top)
unfolding rule.declared_determinism
declared_determinism_keeps =
    then kind.Is Top Top (is_step []) (λ _. Top) _
    (λ _. bound Top (λ _. Top) (λ _. Top) rule.determinism _ (determinism_keeps []) (λ x. ending kind.End Top Top (flat_step kind.End any any [] refl refl (λ l. refl) refl refl) (λ _. Top) x (λ s w. w)))

-- what is declared is short enough
abbrev pub DeclarationFits : rule.Declaration → Point → Type 0
DeclarationFits d s = NameFits d.name × (length d.args ≤ standard.items) × Top s

declaration_keeps : Keeps Top rule.declaration DeclarationFits
unfolding rule.declaration
declaration_keeps =
    then kind.Pred Top (Sits opens_list []) (pred_step any []) DeclarationFits _
    (λ _ i s g w. bound Top (λ q u. NameFits q × Sits opens_list [] u) DeclarationFits rule.declared_name _ (one any opens_list NameFits [] rule.declared_name declared_name_one)
    (λ q j u h v. bound (Sits opens_list []) (λ xs. Few xs []) DeclarationFits rule.declared_arguments _ (declared_arguments_keep [])
    (λ xs k t m y. bound Top (λ _. Top) DeclarationFits rule.declared_determinism _ declared_determinism_keeps (λ d. given Top DeclarationFits (record { name = q; args = xs; det = d }) (λ s w. (v.0, y.0, w))) k t m y.1)
    j u h v.1) i s g (sits_any opens_list [] s w))

body_keeps : Keeps Top rule.body (λ _. Top)
unfolding rule.body
body_keeps =
    then kind.Declare Top (Sits starts []) (flat_step kind.Declare any starts [] refl refl (λ l. refl) refl refl) (λ _. Top) _
    (λ _. bound (Sits starts []) (λ _. Top) (λ _. Top) rule.conjunction_at_most _ goals_keep
    (λ p. ending kind.End Top Top (flat_step kind.End any any [] refl refl (λ l. refl) refl refl) (λ _. Top) p (λ s w. w)))
  where
    goals_keep : Keeps (Sits starts []) rule.conjunction_at_most (λ _. Top)
    goals_keep i s g w = subst (λ (n : ℕ). Case (λ _. Top) s i (rule.conjunction n i)) (sym (ap (λ (l : Limits). l.goals) g.limits)) (conjunction_keeps standard.goals [] refl refl i s g w)

end_clause_keeps : Keeps Top end_clause (λ _. Top)
unfolding end_clause
end_clause_keeps i s g w = record { prefix = []; whole = refl; within = tt; post = w; good = record { limits = g.limits; proper = g.proper; home = g.home } }

clause_keeps : (q : PredName) (arity : ℕ) → NameFits q → arity ≤ standard.items → Keeps Top (rule.clause q arity) (λ _. Top)
unfolding rule.clause
clause_keeps q arity f e =
    bound Top (λ _. Top) (λ _. Top) peek _ (peeked Top)
    (λ t. bound Top (λ _. Sits opens_list []) (λ _. Top) (rule.this_name q) _ (only any opens_list (λ (_ : Unit {0}). ⊤) [] (rule.this_name q) (this_name_one q f))
    (λ _. bound (Sits opens_list []) (λ _. Top) (λ _. Top) (rule.head arity) _ (head_keeps [] arity e)
    (λ xs. bound Top (λ _. Top) (λ _. Top) rule.body _ body_keeps
    (λ p. bound Top (λ _. Top) (λ _. Top) end_clause (λ vs. pure (record { line = t.line; head = xs; body = p; vars = vs })) end_clause_keeps (λ vs. given {A = rule.Clause} Top (λ _. Top) (record { line = t.line; head = xs; body = p; vars = vs }) (λ s w. w))))))

procedure_keeps : (line : ℕ) → Keeps Top (rule.procedure line) (λ _. Top)
unfolding rule.procedure
procedure_keeps line =
    bound Top DeclarationFits (λ _. Top) rule.declaration _ declaration_keeps
    (λ d i s g w. bound Top (λ _. Top) (λ _. Top) (rule.clause d.name (length d.args)) _ (clause_keeps d.name (length d.args) w.0 w.1) (λ c. given Top (λ _. Top) (rule.procedure_from line d c) (λ s w. w)) i s g w.2)

-- ---- programs

module_name_keeps : Keeps Top rule.module_name (λ _. Top)
module_name_keeps = only any any (λ (_ : List ℕ). ⊤) [] rule.module_name module_one

declare_step : Step kind.Declare Top Top
declare_step = flat_step kind.Declare any any [] refl refl (λ l. refl) refl refl

heading_keeps : Keeps Top rule.heading (λ _. Top)
unfolding rule.heading
heading_keeps =
    then kind.Declare Top Top declare_step (λ _. Top) _
    (λ line. bound Top (λ _. Top) (λ _. Top) (word (codes "module")) _ (only any any (λ (_ : ℕ). ⊤) [] (word (codes "module")) (word_one (codes "module") any refl (omega arith)))
    (λ _. bound Top (λ _. Top) (λ _. Top) rule.module_name _ module_name_keeps
    (λ m. ending kind.End Top Top (flat_step kind.End any any [] refl refl (λ l. refl) refl refl) (λ _. Top) _ (λ s w. w))))

declared_keeps : (l : Hlds) → Keeps Top (rule.declared l) (λ _. Top)
unfolding rule.declared rule.declared_procedure rule.declared_type_definition
declared_keeps l =
    then kind.Declare Top Top declare_step (λ _. Top) _
    (λ line i s g w. either_by (λ _. Top) s i (sees kind.Pred i) (rule.declared_procedure l line i) (rule.declared_type_definition l line i)
    (λ e. bound Top (λ _. Top) (λ _. Top) (rule.procedure line) _ (procedure_keeps line) (λ p. given Top (λ _. Top) (rule.with_procedure l p) (λ s w. w)) i s g w)
    (λ e. bound Top (λ _. Top) (λ _. Top) (rule.type_definition line) _ (type_definition_keeps line) (λ t. given Top (λ _. Top) (rule.with_type_definition l t) (λ s w. w)) i s g w))

declarations_from_keep : (n : ℕ) (l : Hlds) → Keeps Top (rule.declarations_from n l) (λ _. Top)
unfolding rule.declarations_from
declarations_from_keep zero l i s g w = faulty Top (λ (_ : Hlds). Top) i s g w
declarations_from_keep (suc n) l i s g w =
    either_by (λ _. Top) s i (sees kind.Stop i) (Ok (l, i)) ((rule.declared l >>= rule.declarations_from n) i)
    (λ e. given_at (λ _. Top) l i s g w)
    (λ e. bound Top (λ _. Top) (λ _. Top) (rule.declared l) (rule.declarations_from n) (declared_keeps l) (λ k. declarations_from_keep n k) i s g w)

declarations_keep : (l : Hlds) → Keeps Top (rule.declarations l) (λ _. Top)
unfolding rule.declarations
declarations_keep l i s g w = declarations_from_keep (length i.rest) l i s g w

pub program_keeps : Keeps Top rule.program (λ _. Top)
unfolding rule.program
program_keeps = bound Top (λ _. Top) (λ _. Top) rule.heading _ heading_keeps (λ l. declarations_keep l)

pub begins_top : Top beginning
begins_top = record { around = refl; last = refl; ready = refl }
