-- What the rules of predicates and programs read is spelled by the grammar.
use Rattle.std.proofs.Common.{◌≡◌, ℕ, zero, suc, List, [], ◌∷◌, ◌++◌, length, refl, true, inl, inr, Option, Some, None, Ok, Err, sym, ap, ◌∙◌, append_assoc, subst}
use Rattle.std.specs.Prelude.{codes}
use Rattle.md_hlds.specs.declared.types.Mode.{Mode}
use Rattle.md_hlds.specs.declared.types.Det.{Det}
use Rattle.md_hlds.specs.declared.goal.PredName.{PredName}
use Rattle.md_hlds.specs.HldsGoal.{HldsGoal}
use Rattle.md_hlds.specs.Hlds.{HldsType, closure, gathered_types, Procedure, Hlds}
use Rattle.md_token.specs.declared.kind.Kind.TheVariants as kind
use Rattle.md_reader.specs.Input.{Input, Outcome, and_then, pure, limit, sees, next, after, token, expect, variable, word, turns, end_clause}
use Rattle.md_reader.specs.Rules as rule
use Rattle.md_reader.specs.Grammar as g
use Rattle.md_reader.specs.Grammar.{Is, Sign, sign, Listed, last, also, Enclosed, enclosed, AreNew}
use Rattle.md_reader.proofs.Steps.{bind_ok, closed, made, chosen, sign_of, eaten, Found, found_last, found_also, variable_new, nothing, enclosed_found}
use Rattle.md_reader.proofs.Sound.{simple_types_found, modes_found, type_definition_sound}
use Rattle.md_reader.proofs.SoundGoals.{conjunction_sound}
use Rattle.md_reader.specs.Input.{variable}
use Rattle.md_reader.specs.Grammar.{Spells, Repeats}
use Rattle.md_token.specs.Token.{tokens_of}
use Rattle.md_reader.specs.declared.refused.Refused.TheVariants as refused
use Rattle.md_reader.specs.declared.refused.Refusal.TheVariants as refusal
use Rattle.md_reader.specs.Duplicates.{duplicate}
use Rattle.md_reader.specs.Reading.{reading, outcome_of, without_duplicate}

-- ---- predicates

inst_sound : (x : List Mode × Det) (i j : Input) → rule.inst i ≡ Ok (x, j) → g.Inst x.0 x.1 i j
unfolding rule.inst rule.inst_modes
inst_sound x i j h =
    let a = bind_ok (expect kind.Open i) _ _ h in
    let b = bind_ok (rule.inst_modes a.0.1) _ _ a.2 in
    let b1 = bind_ok (expect kind.Pred a.0.1) _ _ b.1 in
    let b2 = bind_ok (expect kind.Open b1.0.1) _ _ b1.2 in
    let ms = enclosed_found (Is rule.mode_word) kind.Close b.0.0 b2.0.1 b.0.1 (modes_found b2.0.1.limits.items [] b.0.0 b2.0.1 b.0.1 b2.2) in
    let c = bind_ok (expect kind.Is b.0.1) _ _ b.2 in
    let d = bind_ok (rule.determinism c.0.1) _ _ c.2 in
    let e = closed kind.Close (b.0.0, d.0.0) x d.0.1 j d.2 in
    subst (λ (x : List Mode × Det). g.Inst x.0 x.1 i j) (sym e.1)
    (g.Inst.inst b.0.0 d.0.0 i a.0.1 b1.0.1 b2.0.1 b.0.1 c.0.1 d.0.1 j (sign_of kind.Open a.0.0 i a.0.1 a.1) (sign_of kind.Pred b1.0.0 a.0.1 b1.0.1 b1.1) (sign_of kind.Open b2.0.0 b1.0.1 b2.0.1 b2.1) ms (sign_of kind.Is c.0.0 b.0.1 c.0.1 c.1) d.1 e.0)

ho_argument_sound : (x : HldsType × Mode) (i j : Input) → rule.ho_argument i ≡ Ok (x, j) → g.Argument x i j
unfolding rule.ho_argument rule.ho_types
ho_argument_sound x i j h =
    let a = bind_ok (rule.ho_types i) _ _ h in
    let a1 = bind_ok (expect kind.Pred i) _ _ a.1 in
    let a2 = bind_ok (expect kind.Open a1.0.1) _ _ a1.2 in
    let a3 = bind_ok (rule.simple_types a2.0.1) _ _ a2.2 in
    let a4 = closed kind.HasMode a3.0.0 a.0.0 a3.0.1 a.0.1 a3.2 in
    let ts = enclosed_found (Is rule.simple_type) kind.Close a3.0.0 a2.0.1 a3.0.1 (simple_types_found a2.0.1.limits.items [] a3.0.0 a2.0.1 a3.0.1 a3.1) in
    let b = bind_ok (rule.ho_mode a.0.1) _ _ a.2 in
    let c = made rule.inst (λ n. (closure (gathered_types a.0.0) n.0 n.1, b.0.0)) x b.0.1 j b.2 in
    subst (λ (x : HldsType × Mode). g.Argument x i j) (sym c.2)
    (subst (λ (ts : List HldsType). g.Argument (closure (gathered_types ts) c.0.0 c.0.1, b.0.0) i j) (sym a4.1)
    (g.Argument.higher_order a3.0.0 b.0.0 c.0.0 c.0.1 i a1.0.1 a2.0.1 a3.0.1 a.0.1 b.0.1 j (sign_of kind.Pred a1.0.0 i a1.0.1 a1.1) (sign_of kind.Open a2.0.0 a1.0.1 a2.0.1 a2.1) ts a4.0 b.1 (inst_sound c.0 b.0.1 j c.1)))

plain_argument_sound : (x : HldsType × Mode) (i j : Input) → rule.plain_argument i ≡ Ok (x, j) → g.Argument x i j
unfolding rule.plain_argument
plain_argument_sound x i j h =
    let a = bind_ok (rule.simple_type i) _ _ h in
    let b = bind_ok (expect kind.HasMode a.0.1) _ _ a.2 in
    let c = made rule.mode_word (λ m. (a.0.0, m)) x b.0.1 j b.2 in
    subst (λ (x : HldsType × Mode). g.Argument x i j) (sym c.2)
    (g.Argument.plain a.0.0 c.0 i a.0.1 b.0.1 j a.1 (sign_of kind.HasMode b.0.0 a.0.1 b.0.1 b.1) c.1)

argument_sound : (x : HldsType × Mode) (i j : Input) → rule.argument i ≡ Ok (x, j) → g.Argument x i j
unfolding rule.argument
argument_sound x i j h =
    elim (chosen (sees kind.Pred i) (rule.ho_argument i) (rule.plain_argument i) (Ok (x, j)) h) [
      | inl l ↦ ho_argument_sound x i j l.1
      | inr r ↦ plain_argument_sound x i j r.1
    ]

excess_none : (i : Input) (x : List (HldsType × Mode) × Input) → rule.excess i ≡ Ok x → ⊥
unfolding rule.excess
excess_none i x h =
    elim (chosen (sees kind.Pred i) (limit i) (and_then (rule.simple_type i) (λ t j. limit i)) (Ok x) h) [ inl l ↦ cc | inr r ↦ let a = bind_ok (rule.simple_type i) _ _ r.1 in (let e = a.2 in cc) ]

arguments_found : (n : ℕ) (found xs : List (HldsType × Mode)) (i j : Input) → rule.arguments_from n found i ≡ Ok (xs, j) → Found g.Argument kind.Comma kind.Close n found xs i j
unfolding rule.arguments_from
arguments_found zero found xs i j h = absurd (excess_none i (xs, j) h)
arguments_found (suc n) found xs i j h =
    let a = bind_ok (rule.argument i) _ _ h in
    let p = argument_sound a.0.0 i a.0.1 a.1 in
    elim (eaten kind.Comma a.0.1 _ _ _ a.2) [
      | inl s ↦ found_also g.Argument kind.Comma kind.Close n found xs a.0.0 i a.0.1 (next a.0.1) j p s.0 (arguments_found n (found ++ a.0.0 ∷ []) xs (next a.0.1) j s.1)
      | inr q ↦ let b = closed kind.Close (found ++ a.0.0 ∷ []) xs a.0.1 j q in found_last g.Argument kind.Comma kind.Close n found xs a.0.0 i a.0.1 j p b.0 b.1
    ]

declared_arguments_sound : (xs : List (HldsType × Mode)) (i j : Input) → rule.declared_arguments i ≡ Ok (xs, j) → g.DeclaredArguments xs i j
unfolding rule.declared_arguments
declared_arguments_sound xs i j h =
    elim (eaten kind.Open i _ _ _ h) [
      | inl s ↦ g.DeclaredArguments.some xs i (next i) j s.0 (enclosed_found g.Argument kind.Close xs (next i) j (arguments_found (next i).limits.items [] xs (next i) j s.1))
      | inr q ↦ nothing (λ xs. g.DeclaredArguments xs i) [] xs i j q (g.DeclaredArguments.none i)
    ]

declaration_sound : (d : rule.Declaration) (i j : Input) → rule.declaration i ≡ Ok (d, j) → g.PredDeclaration d i j
unfolding rule.declaration rule.declared_determinism
declaration_sound d i j h =
    let a = bind_ok (expect kind.Pred i) _ _ h in
    let b = bind_ok (rule.declared_name a.0.1) _ _ a.2 in
    let c = bind_ok (rule.declared_arguments b.0.1) _ _ b.2 in
    let e = made rule.declared_determinism (λ x. record { name = b.0.0; args = c.0.0; det = x }) d c.0.1 j c.2 in
    let e1 = bind_ok (expect kind.Is c.0.1) _ _ e.1 in
    let e2 = bind_ok (rule.determinism e1.0.1) _ _ e1.2 in
    let e3 = closed kind.End e2.0.0 e.0 e2.0.1 j e2.2 in
    subst (λ (d : rule.Declaration). g.PredDeclaration d i j) (sym e.2)
    (subst (λ (x : Det). g.PredDeclaration (record { name = b.0.0; args = c.0.0; det = x }) i j) (sym e3.1)
    (g.PredDeclaration.pred_declaration b.0.0 c.0.0 e2.0.0 i a.0.1 b.0.1 c.0.1 e1.0.1 e2.0.1 j (sign_of kind.Pred a.0.0 i a.0.1 a.1) b.1 (declared_arguments_sound c.0.0 b.0.1 c.0.1 c.1) (sign_of kind.Is e1.0.0 c.0.1 e1.0.1 e1.1) e2.1 e3.0))

record HeadFound (n : ℕ) (found xs : List ℕ) (i j : Input) : Type 0 where
  pub more : List ℕ
  pub end : Input
  pub all : xs ≡ found ++ more
  pub listed : Listed (Is (variable [])) kind.Comma more i end
  pub new : AreNew found more
  pub count : length more ≡ suc n
  pub close : Sign kind.Close end j

head_found : (n : ℕ) (found xs : List ℕ) (i j : Input) → rule.head_from n found i ≡ Ok (xs, j) → HeadFound n found xs i j
unfolding rule.head_from
head_found zero found xs i j h =
    let a = bind_ok (variable found i) _ _ h in
    let v = variable_new found a.0.0 i a.0.1 a.1 in
    let b = closed kind.Close (found ++ a.0.0 ∷ []) xs a.0.1 j a.2 in
    record { more = a.0.0 ∷ []; end = a.0.1; all = b.1; listed = last a.0.0 i a.0.1 v.0; new = (v.1, tt); count = refl; close = b.0 }
head_found (suc n) found xs i j h =
    let a = bind_ok (variable found i) _ _ h in
    let v = variable_new found a.0.0 i a.0.1 a.1 in
    let b = bind_ok (expect kind.Comma a.0.1) _ _ a.2 in
    let f = head_found n (found ++ a.0.0 ∷ []) xs b.0.1 j b.2 in
    record {
      more = a.0.0 ∷ f.more;
      end = f.end;
      all = f.all ∙ append_assoc found (a.0.0 ∷ []) f.more;
      listed = also a.0.0 f.more i a.0.1 b.0.1 f.end v.0 (sign_of kind.Comma b.0.0 a.0.1 b.0.1 b.1) f.listed;
      new = (v.1, f.new);
      count = ap suc f.count;
      close = f.close;
    }

head_sound : (n : ℕ) (xs : List ℕ) (i j : Input) → rule.head n i ≡ Ok (xs, j) → g.Head n xs i j
unfolding rule.head
head_sound zero xs i j h = nothing (λ xs. g.Head 0 xs i) [] xs i j h (g.Head.none i)
head_sound (suc n) xs i j h =
    let a = bind_ok (expect kind.Open i) _ _ h in
    let f = head_found n [] xs a.0.1 j a.2 in
    subst (λ (ys : List ℕ). g.Head (suc n) ys i j) (sym f.all)
    (subst (λ (k : ℕ). g.Head k f.more i j) f.count
    (g.Head.some f.more i a.0.1 f.end j (sign_of kind.Open a.0.0 i a.0.1 a.1) f.listed f.new f.close))

clause_sound : (q : PredName) (n : ℕ) (c : rule.Clause) (i j : Input) → rule.clause q n i ≡ Ok (c, j) → g.PredClause q n c i j
unfolding rule.clause rule.body
clause_sound q n c i j h =
    let a = bind_ok (rule.this_name q i) _ _ h in
    let b = bind_ok (rule.head n a.0.1) _ _ a.2 in
    let d = bind_ok (rule.body b.0.1) _ _ b.2 in
    let d1 = bind_ok (expect kind.Declare b.0.1) _ _ d.1 in
    let d2 = bind_ok (rule.conjunction_at_most d1.0.1) _ _ d1.2 in
    let d3 = closed kind.End d2.0.0 d.0.0 d2.0.1 d.0.1 d2.2 in
    let e = made end_clause (λ vs. record { line = (token i).line; head = b.0.0; body = d.0.0; vars = vs }) c d.0.1 j d.2 in
    subst (λ (c : rule.Clause). g.PredClause q n c i j) (sym e.2)
    (subst (λ (p : HldsGoal). g.PredClause q n (record { line = (token i).line; head = b.0.0; body = p; vars = e.0 }) i j) (sym d3.1)
    (g.PredClause.pred_clause b.0.0 d2.0.0 e.0 i a.0.1 b.0.1 d1.0.1 d2.0.1 d.0.1 j a.1 (head_sound n b.0.0 a.0.1 b.0.1 b.1) (sign_of kind.Declare d1.0.0 b.0.1 d1.0.1 d1.1) (conjunction_sound d1.0.1.limits.goals d2.0.0 d1.0.1 d2.0.1 d2.1) d3.0 e.1))

-- ---- programs

declared_sound : (before after : Hlds) (i j : Input) → rule.declared before i ≡ Ok (after, j) → g.Declared before after i j
unfolding rule.declared rule.declared_procedure rule.declared_type_definition rule.procedure
declared_sound before after i j h =
    let a = bind_ok (expect kind.Declare i) _ _ h in
    elim (chosen (sees kind.Pred a.0.1) (rule.declared_procedure before a.0.0 a.0.1) (rule.declared_type_definition before a.0.0 a.0.1) (Ok (after, j)) a.2) [
      | inl l ↦
          let b = made (rule.procedure a.0.0) (rule.with_procedure before) after a.0.1 j l.1 in
          let d = bind_ok (rule.declaration a.0.1) _ _ b.1 in
          let c = made (rule.clause d.0.0.name (length d.0.0.args)) (rule.procedure_from a.0.0 d.0.0) b.0 d.0.1 j d.2 in
          subst (λ (l : Hlds). g.Declared before l i j) (sym b.2)
          (subst (λ (p : Procedure). g.Declared before (rule.with_procedure before p) i j) (sym c.2)
          (g.Declared.predicate d.0.0 c.0 a.0.0 i a.0.1 d.0.1 j a.1 (declaration_sound d.0.0 a.0.1 d.0.1 d.1) (clause_sound d.0.0.name (length d.0.0.args) c.0 d.0.1 j c.1)))
      | inr r ↦
          let b = made (rule.type_definition a.0.0) (rule.with_type_definition before) after a.0.1 j r.1 in
          subst (λ (l : Hlds). g.Declared before l i j) (sym b.2)
          (g.Declared.type b.0 a.0.0 i a.0.1 j a.1 (type_definition_sound a.0.0 b.0 a.0.1 j b.1))
    ]

declarations_sound : (n : ℕ) (before after : Hlds) (i j : Input) → rule.declarations_from n before i ≡ Ok (after, j) → g.Declarations before after i j × (sees kind.Stop j ≡ true)
unfolding rule.declarations_from
declarations_sound zero before after i j h = absurd (cc)
declarations_sound (suc n) before after i j h =
    elim (chosen (sees kind.Stop i) (pure before i) (and_then (rule.declared before i) (rule.declarations_from n)) (Ok (after, j)) h) [
      | inl l ↦ nothing (λ after j. g.Declarations before after i j × (sees kind.Stop j ≡ true)) before after i j l.1 (g.Declarations.none before i, l.0)
      | inr r ↦
          let a = bind_ok (rule.declared before i) _ _ r.1 in
          let d = declarations_sound n a.0.0 after a.0.1 j a.2 in
          (g.Declarations.also before a.0.0 after i a.0.1 j (declared_sound before a.0.0 i a.0.1 a.1) d.0, d.1)
    ]

pub program_sound : (l : Hlds) (i j : Input) → rule.program i ≡ Ok (l, j) → g.Program l i j × (sees kind.Stop j ≡ true)
unfolding rule.program rule.heading rule.declarations
program_sound l i j h =
    let w = bind_ok (rule.heading i) _ _ h in
    let a = bind_ok (expect kind.Declare i) _ _ w.1 in
    let b = bind_ok (word (codes "module") a.0.1) _ _ a.2 in
    let c = bind_ok (rule.module_name b.0.1) _ _ b.2 in
    let start : List ℕ → Hlds = λ m. record { module_name = m; module_line = a.0.0; types = []; procedures = [] } in
    let d = closed kind.End (start c.0.0) w.0.0 c.0.1 w.0.1 c.2 in
    let e = declarations_sound (turns w.0.1) w.0.0 l w.0.1 j w.2 in
    (g.Program.program c.0.0 a.0.0 b.0.0 l i a.0.1 b.0.1 c.0.1 w.0.1 j a.1 b.1 c.1 d.0 (subst (λ (s : Hlds). g.Declarations s l w.0.1 j) d.1 e.0), e.1)

once_of : (m l : Hlds) (d : Option ℕ) → duplicate m ≡ d → without_duplicate m d ≡ Ok l → (m ≡ l) × (duplicate m ≡ None)
once_of m l None e h = (cc, e)
once_of m l (Some line) e h = absurd (cc)

read_sound : (text : List ℕ) (r : Outcome Hlds) (l : Hlds) → rule.program (rule.start (tokens_of text)) ≡ r → outcome_of r ≡ Ok l → Spells text l
read_sound text (Err f) l e h = absurd (cc)
read_sound text (Ok p) l e h =
    let o = once_of p.0 l (duplicate p.0) refl h in
    let s = program_sound p.0 (rule.start (tokens_of text)) p.1 e in
    subst (Spells text) o.0 (record { end = p.1; program = s.0; whole = s.1; once = o.1 })

-- what a text is read as, it spells
pub reading_sound : (text : List ℕ) (l : Hlds) → reading text ≡ Ok l → Spells text l
unfolding reading
reading_sound text l h = read_sound text (rule.program (rule.start (tokens_of text))) l refl h

twice_of : (m : Hlds) (line : ℕ) (d : Option ℕ) → duplicate m ≡ d → without_duplicate m d ≡ Err (refused.Duplicate line) → duplicate m ≡ Some line
twice_of m line None e h = absurd (cc)
twice_of m line (Some other) e h = cc

read_repeats : (text : List ℕ) (r : Outcome Hlds) (line : ℕ) → rule.program (rule.start (tokens_of text)) ≡ r → outcome_of r ≡ Err (refused.Duplicate line) → Repeats text line
read_repeats text (Err (refusal.Syntax place)) line e h = absurd (cc)
read_repeats text (Err (refusal.Limit place)) line e h = absurd (cc)
read_repeats text (Err refusal.NoMemory) line e h = absurd (cc)
read_repeats text (Ok p) line e h =
    let s = program_sound p.0 (rule.start (tokens_of text)) p.1 e in
    record { listing = p.0; end = p.1; program = s.0; whole = s.1; second = twice_of p.0 line (duplicate p.0) refl h }

-- where a second declaration is answered, there is one
pub reading_repeats : (text : List ℕ) (line : ℕ) → reading text ≡ Err (refused.Duplicate line) → Repeats text line
unfolding reading
reading_repeats text line h = read_repeats text (rule.program (rule.start (tokens_of text))) line refl h
