-- Each rule looks no further than where it stops: predicates and programs.
use Rattle.std.proofs.Common.{◌≡◌, ℕ, zero, suc, ◌<◌, List, [], ◌∷◌, ◌++◌, length, refl, Bool, true, false, cond, not, ◌&&◌, Option, Some, None, Ok, sym, ap, ◌∙◌}
use Rattle.md_hlds.specs.declared.types.Mode.{Mode}
use Rattle.md_hlds.specs.declared.goal.PredName.{PredName}
use Rattle.md_hlds.specs.Hlds.{HldsType, closure, gathered_types, Hlds}
use Rattle.md_token.specs.declared.kind.Kind.TheVariants as kind
use Rattle.md_token.specs.Kinds.{same_kind, is_final}
use Rattle.md_token.specs.Token.{Lexeme}
use Rattle.std.specs.Prelude.{codes}
use Rattle.md_token.specs.declared.kind.Kind.{Kind}
use Rattle.md_reader.specs.Input.{Input, Parser, ◌>>=◌, ◌>>◌, and_then, pure, refuse, limit, sees, token, expect, word, take_name, variable, end_clause}
use Rattle.md_reader.specs.Rules as rule
use Rattle.md_token.proofs.Ends.{is_end, is_empty}
use Rattle.md_reader.proofs.Steady.{Same, Steady, Goes, goes_by, cut, bound, given, faulty, limited, tested, tested_by, token_cut, same_when, same_bind, by_token, passing, expected, excess, turned, begun}
use Rattle.md_reader.proofs.SteadyRules.{kind_is, take_name_at, word_steady, ending, going, perhaps, variable_steady, end_clause_steady, declared_name_steady, this_name_steady, simple_type_steady, simple_types_steady, type_definition_steady}
use Rattle.md_reader.proofs.SteadyGoals.{conjunction_steady}

module _ (d : ℕ) (more : List Lexeme) where
  abbrev Stable : {A : Type 0} → Parser A → Type 0
  Stable p = Steady d more p

  take_word_at : {A : Type 0} (o : Option A) (i : Input) → ((x : A) → o ≡ Some x → Goes i) → Same d more i.rest (rule.take_word o i) (rule.take_word o (cut d more i))
  take_word_at None i g = faulty d more i
  take_word_at (Some x) i g = passing d more (pure x) i (g x refl) (given d more x)

  -- a token that isn't empty isn't the one behind which the text ends
  and_false : (b : Bool) → (b && false) ≡ false
  and_false true = refl
  and_false false = refl

  spelled_goes : {A : Type 0} (f : List ℕ → Option A) → f [] ≡ None → (k : Kind) (text : List ℕ) (x : A) → f text ≡ Some x → (is_final k && is_empty text) ≡ false
  spelled_goes f none k [] x h = absurd (let e = sym none ∙ h in cc)
  spelled_goes f none k (b ∷ bs) x h = and_false (is_final k)

  word_goes : {A : Type 0} (f : List ℕ → Option A) → f [] ≡ None → (t : Lexeme) (i : Input) (x : A) → token i ≡ t → f t.text ≡ Some x → Goes i
  word_goes f none t i x e h = ap is_end e ∙ spelled_goes f none t.kind t.text x h

  mode_word_steady : Stable rule.mode_word
  unfolding rule.mode_word
  mode_word_steady = by_token d more (λ t. rule.take_word (rule.mode_named t.text)) (λ t i e. take_word_at (rule.mode_named t.text) i (λ x h. word_goes rule.mode_named refl t i x e h))

  pub determinism_steady : Stable rule.determinism
  unfolding rule.determinism
  determinism_steady = by_token d more (λ t. rule.take_word (rule.det_named t.text)) (λ t i e. take_word_at (rule.det_named t.text) i (λ x h. word_goes rule.det_named refl t i x e h))

  ho_mode_steady : Stable rule.ho_mode
  unfolding rule.ho_mode
  ho_mode_steady = by_token d more (λ t. rule.take_word (rule.ho_mode_named t.text)) (λ t i e. take_word_at (rule.ho_mode_named t.text) i (λ x h. word_goes rule.ho_mode_named refl t i x e h))

  modes_from_steady : (n : ℕ) (found : List Mode) → Stable (rule.modes_from n found)
  unfolding rule.modes_from
  modes_from_steady zero found = excess d more rule.mode_word mode_word_steady
  modes_from_steady (suc n) found = going d more rule.mode_word kind.Comma kind.Close refl refl (λ t. rule.modes_from n (found ++ t ∷ [])) (λ t. found ++ t ∷ []) mode_word_steady (λ t. modes_from_steady n (found ++ t ∷ []))

  inst_modes_steady : Stable rule.inst_modes
  unfolding rule.inst_modes
  inst_modes_steady = bound d more (expect kind.Pred) _ (expected d more kind.Pred refl) (λ _. bound d more (expect kind.Open) _ (expected d more kind.Open refl) (λ _ j. modes_from_steady j.limits.items [] j))

  inst_steady : Stable rule.inst
  unfolding rule.inst
  inst_steady = bound d more (expect kind.Open) _ (expected d more kind.Open refl) (λ _. bound d more rule.inst_modes _ inst_modes_steady (λ ms. bound d more (expect kind.Is) _ (expected d more kind.Is refl) (λ _. bound d more rule.determinism _ determinism_steady (λ x. ending d more kind.Close refl (ms, x)))))

  ho_types_steady : Stable rule.ho_types
  unfolding rule.ho_types
  ho_types_steady = bound d more (expect kind.Pred) _ (expected d more kind.Pred refl) (λ _. bound d more (expect kind.Open) _ (expected d more kind.Open refl) (λ _. bound d more rule.simple_types _ (simple_types_steady d more) (λ ts. ending d more kind.HasMode refl ts)))

  ho_argument_steady : Stable rule.ho_argument
  unfolding rule.ho_argument
  ho_argument_steady = bound d more rule.ho_types _ ho_types_steady (λ ts. bound d more rule.ho_mode _ ho_mode_steady (λ m. bound d more rule.inst _ inst_steady (λ n. given d more (closure (gathered_types ts) n.0 n.1, m))))

  plain_argument_steady : Stable rule.plain_argument
  unfolding rule.plain_argument
  plain_argument_steady = bound d more rule.simple_type _ (simple_type_steady d more) (λ t. bound d more (expect kind.HasMode) _ (expected d more kind.HasMode refl) (λ _. bound d more rule.mode_word _ mode_word_steady (λ m. given d more (t, m))))

  pub argument_steady : Stable rule.argument
  unfolding rule.argument sees
  argument_steady = by_token d more (λ t i. cond (same_kind t.kind kind.Pred) (rule.ho_argument i) (rule.plain_argument i)) (λ t i e. tested d more i.rest (same_kind t.kind kind.Pred) _ _ _ _ (ho_argument_steady i) (plain_argument_steady i))

  excess_steady : Stable {A = List (HldsType × Mode)} rule.excess
  unfolding rule.excess sees
  excess_steady = by_token d more (λ t i. cond (same_kind t.kind kind.Pred) (limit i) (and_then (rule.simple_type i) (λ t j. limit i))) (λ t i e. tested d more i.rest (same_kind t.kind kind.Pred) _ _ _ _ (limited d more {A = List (HldsType × Mode)} i) (excess d more rule.simple_type (simple_type_steady d more) i))

  arguments_from_steady : (n : ℕ) (found : List (HldsType × Mode)) → Stable (rule.arguments_from n found)
  unfolding rule.arguments_from
  arguments_from_steady zero found = excess_steady
  arguments_from_steady (suc n) found = going d more rule.argument kind.Comma kind.Close refl refl (λ t. rule.arguments_from n (found ++ t ∷ [])) (λ t. found ++ t ∷ []) argument_steady (λ t. arguments_from_steady n (found ++ t ∷ []))

  pub declared_arguments_steady : Stable rule.declared_arguments
  unfolding rule.declared_arguments
  declared_arguments_steady = perhaps d more kind.Open refl rule.arguments_at_most (pure []) (λ j. arguments_from_steady j.limits.items [] j) (given d more [])

  head_from_steady : (n : ℕ) (found : List ℕ) → Stable (rule.head_from n found)
  unfolding rule.head_from
  head_from_steady zero found = bound d more (variable found) _ (variable_steady d more found) (λ x. ending d more kind.Close refl (found ++ x ∷ []))
  head_from_steady (suc n) found = bound d more (variable found) _ (variable_steady d more found) (λ x. bound d more (expect kind.Comma) _ (expected d more kind.Comma refl) (λ _. head_from_steady n (found ++ x ∷ [])))

  head_steady : (arity : ℕ) → Stable (rule.head arity)
  unfolding rule.head
  head_steady zero = given d more []
  head_steady (suc n) = bound d more (expect kind.Open) _ (expected d more kind.Open refl) (λ _. head_from_steady n [])

  declared_determinism_steady : Stable rule.declared_determinism
  unfolding rule.declared_determinism
  declared_determinism_steady = bound d more (expect kind.Is) _ (expected d more kind.Is refl) (λ _. bound d more rule.determinism _ determinism_steady (λ x. ending d more kind.End refl x))

  pub declaration_steady : Stable rule.declaration
  unfolding rule.declaration
  declaration_steady = bound d more (expect kind.Pred) _ (expected d more kind.Pred refl) (λ _. bound d more rule.declared_name _ (declared_name_steady d more) (λ q. bound d more rule.declared_arguments _ declared_arguments_steady (λ as'. bound d more rule.declared_determinism _ declared_determinism_steady (λ x. given d more (record { name = q; args = as'; det = x })))))

  body_steady : Stable rule.body
  unfolding rule.body
  body_steady = bound d more (expect kind.Declare) _ (expected d more kind.Declare refl) (λ _. bound d more rule.conjunction_at_most _ (λ j. conjunction_steady d more j.limits.goals j) (λ g. ending d more kind.End refl g))

  pub clause_steady : (q : PredName) (arity : ℕ) → Stable (rule.clause q arity)
  unfolding rule.clause
  clause_steady q arity = by_token d more (λ t. rule.this_name q >>= (λ _. rule.head arity >>= (λ xs. rule.body >>= (λ g. end_clause >>= (λ vs. pure (record { line = t.line; head = xs; body = g; vars = vs })))))) (λ t i e. (bound d more (rule.this_name q) _ (this_name_steady d more q) (λ _. bound d more (rule.head arity) _ (head_steady arity) (λ xs. bound d more rule.body _ body_steady (λ g. bound d more end_clause _ (end_clause_steady d more) (λ vs. given d more (record { line = t.line; head = xs; body = g; vars = vs })))))) i)

  procedure_steady : (line : ℕ) → Stable (rule.procedure line)
  unfolding rule.procedure
  procedure_steady line = bound d more rule.declaration _ declaration_steady (λ x. bound d more (rule.clause x.name (length x.args)) _ (clause_steady x.name (length x.args)) (λ c. given d more (rule.procedure_from line x c)))

  -- ---- programs

  declared_procedure_steady : (l : Hlds) (line : ℕ) → Stable (rule.declared_procedure l line)
  unfolding rule.declared_procedure
  declared_procedure_steady l line = bound d more (rule.procedure line) _ (procedure_steady line) (λ p. given d more (rule.with_procedure l p))

  declared_type_definition_steady : (l : Hlds) (line : ℕ) → Stable (rule.declared_type_definition l line)
  unfolding rule.declared_type_definition
  declared_type_definition_steady l line = bound d more (rule.type_definition line) _ (type_definition_steady d more line) (λ t. given d more (rule.with_type_definition l t))

  pub declared_rest_steady : (l : Hlds) (line : ℕ) → Stable (λ i. cond (sees kind.Pred i) (rule.declared_procedure l line i) (rule.declared_type_definition l line i))
  unfolding sees
  declared_rest_steady l line = by_token d more (λ t i. cond (same_kind t.kind kind.Pred) (rule.declared_procedure l line i) (rule.declared_type_definition l line i)) (λ t i e. tested d more i.rest (same_kind t.kind kind.Pred) _ _ _ _ (declared_procedure_steady l line i) (declared_type_definition_steady l line i))

  set_home_steady : (m : List ℕ) → Stable (rule.set_home m)
  set_home_steady m i = record { stop = i.rest; behind = record { prefix = []; all = refl; ends = λ h. h }; stands = refl; agrees = λ _. refl }

  name_goes : (k : Kind) → rule.is_name k ≡ true → is_final k ≡ false
  name_goes kind.Stop h = absurd (cc)
  name_goes kind.Bad h = absurd (cc)
  name_goes _ h = refl

  both : (a b : Bool) → (a && b) ≡ true → a ≡ true
  both true b h = refl
  both false b h = h

  pub module_name_steady : Stable rule.module_name
  unfolding rule.module_name
  module_name_steady =
      by_token d more (λ t i. cond (rule.is_name t.kind && not (rule.is_library t.text)) ((take_name t.text >>= (λ m. rule.set_home t.text >> pure m)) i) (refuse i))
      (λ t i e. tested_by d more i.rest (rule.is_name t.kind && not (rule.is_library t.text)) _ _ _ _
      (λ s. same_bind d more i.rest (take_name t.text i) (take_name t.text (cut d more i)) (λ m. rule.set_home t.text >> pure m) (take_name_at d more t.text i (goes_by i (ap is_final (kind_is d more t i e) ∙ name_goes t.kind (both _ _ s)))) (λ m. bound d more (rule.set_home t.text) (λ _. pure m) (set_home_steady t.text) (λ _. given d more m)))
      (λ _. faulty d more {A = List ℕ} i))

  pub heading_steady : Stable rule.heading
  unfolding rule.heading
  heading_steady = bound d more (expect kind.Declare) _ (expected d more kind.Declare refl) (λ line. bound d more (word (codes "module")) _ (word_steady d more (codes "module")) (λ _. bound d more rule.module_name _ module_name_steady (λ m. ending d more kind.End refl (record { module_name = m; module_line = line; types = []; procedures = [] }))))

  -- the end of the text, or a declaration and more of them
  declaring : (n m : ℕ) (l : Hlds) (i : Input) → ((k : Hlds) (j : Input) → length j.rest < length i.rest → Same d more j.rest (rule.declarations_from n k j) (rule.declarations_from m k (cut d more j)))
      → Same d more i.rest (rule.declarations_from (suc n) l i) (rule.declarations_from (suc m) l (cut d more i))
  unfolding rule.declarations_from rule.declared sees same_kind
  declaring n m l i rec =
      same_when d more i.rest (rule.declarations_from (suc n) l i) (cond (same_kind (token i).kind kind.Stop) (Ok (l, cut d more i)) ((rule.declared l >>= rule.declarations_from m) (cut d more i))) (rule.declarations_from (suc m) l (cut d more i))
      (λ h. rw (token_cut d more i h) refl)
      (tested d more i.rest (same_kind (token i).kind kind.Stop) _ _ _ _ (given d more l i)
      (begun d more kind.Declare i (λ line k. cond (sees kind.Pred k) (rule.declared_procedure l line k) (rule.declared_type_definition l line k)) (rule.declarations_from n) (rule.declarations_from m) refl refl (declared_rest_steady l) rec))

  declarations_steady : (l : Hlds) → Stable (rule.declarations l)
  unfolding rule.declarations rule.declarations_from rule.declared same_kind
  declarations_steady l =
      turned d more rule.declarations_from (λ s i. refl)
      declaring l

  pub program_steady : Stable rule.program
  unfolding rule.program
  program_steady = bound d more rule.heading _ heading_steady (λ l. declarations_steady l)
