-- The definitions on small texts and programs. The words of each theorem were worked out by hand from the rules.
use Rattle.std.proofs.Common.{◌≡◌, inl, inr, refl, sym, ◌∙◌, arith, ℕ, zero, suc, ◌≤◌, List, [], ◌∷◌, Some, None}
use Rattle.std.specs.Prelude.{codes}
use Rattle.std.specs.Fmt.{digits}
use Rattle.std.proofs.Math.Nat.{mul-le-mul_left}
use Rattle.std.proofs.lemmas.List.Elements.{All-nil, All-cons, All-head}
use Rattle.md_base.specs.declared.measure.Measure.TheVariants.{Calls}
use Rattle.md_hlds.specs.declared.types.Mode.TheVariants.{In, Out}
use Rattle.md_hlds.specs.declared.types.Det.TheVariants.{Det, Semidet}
use Rattle.md_hlds.specs.HldsGoal.{HldsGoal, At, CallGoal, Numbered, numbered_goal, gathered}
use Rattle.md_hlds.specs.Hlds.{Hlds, Procedure, number}
use Rattle.md_modes.specs.Notes.{program_notes}
use Rattle.md_modes.proofs.Worked.{conj, unqualified, same, succeed, predicate, main, program}
use Rattle.md_cost.specs.View.{View, OfSite}
use Rattle.md_feedback.specs.declared.pairs.Pair.{Pair}
use Rattle.md_feedback.specs.declared.pairs.Feedback.{Feedback}
use Rattle.md_feedback.specs.Text.{IsBefore, Rise, IsValidPair, AreValidPairs, feedback_text, Spells, IsFaultAt, pair_words}
use Rattle.md_feedback.specs.Lines.{BeginsWithLeast, BeginsWithModule, GivesPairAfter, IsPairFault}
use Rattle.md_feedback.specs.Candidates.{Takes, Depends, Directly, Through, parts_of}
use Rattle.md_feedback.specs.Search.{IsHeavy, StandsFrom, program_pairs}
use Rattle.md_feedback.proofs.Members.{some_is}
use Rattle.md_feedback.proofs.FaultLemmas.{free, from_free, title_fault, module_fault, pair_fault, wrong_pair, pair_one_line}

-- ---- texts

abbrev pair : (proc first second a b : ℕ) → Pair
pair proc first second a b = record { proc = proc; first = first; second = second; a = a; b = b }

-- two calls of procedure 1 with totals of 7, and two of procedure 2 with totals of 6
abbrev first_pair : Pair
first_pair = pair 1 1 2 7 7

abbrev second_pair : Pair
second_pair = pair 2 3 4 6 6

abbrev generated : Feedback
generated = record { «module» = codes "gen"; least = 3; pairs = first_pair ∷ second_pair ∷ [] }

text_of_two_pairs : feedback_text generated ≡ codes "feedback 1\nleast 3\nmodule gen\npair 1 1 2 7 7\npair 2 3 4 6 6\n"
unfolding digits
text_of_two_pairs = refl

-- without pairs there are three lines
text_of_none : feedback_text (record { «module» = codes "t"; least = 1; pairs = [] }) ≡ codes "feedback 1\nleast 1\nmodule t\n"
unfolding digits
text_of_none = refl

valid_first : IsValidPair first_pair
valid_first = record { proc = omega arith; first = omega arith; second = omega arith; a = omega arith; b = omega arith; order = omega arith }

valid_second : IsValidPair second_pair
valid_second = record { proc = omega arith; first = omega arith; second = omega arith; a = omega arith; b = omega arith; order = omega arith }

falls : Rise (second_pair ∷ first_pair ∷ []) → ⊥
falls rise = elim (All-head (IsBefore second_pair) first_pair [] rise.0) [ inl lower ↦ omega (arith, lower) | inr same' ↦ omega (arith, same'.0) ]

-- with the pairs exchanged, the fifth line is at fault
exchanged : IsFaultAt (codes "feedback 1\nleast 3\nmodule gen\npair 2 3 4 6 6\npair 1 1 2 7 7\n") 5
unfolding digits
exchanged =
    let least : BeginsWithLeast 3 (codes "least 3\nmodule gen\npair 2 3 4 6 6\npair 1 1 2 7 7\n") (codes "module gen\npair 2 3 4 6 6\npair 1 1 2 7 7\n") = ((omega arith, omega arith), refl) in
    let named : BeginsWithModule (codes "gen") (codes "module gen\npair 2 3 4 6 6\npair 1 1 2 7 7\n") (codes "pair 2 3 4 6 6\npair 1 1 2 7 7\n") = (refl, refl) in
    let fault : IsPairFault (codes "pair 2 3 4 6 6\npair 1 1 2 7 7\n") 5 = record {
      before = second_pair ∷ [];
      rest = codes "pair 1 1 2 7 7\n";
      valid = record { each = All-cons IsValidPair second_pair [] valid_second (All-nil IsValidPair); rise = (All-nil (IsBefore second_pair), tt) };
      is = refl;
      count = refl;
      some = omega arith;
      fault = wrong_pair (second_pair ∷ []) (codes "pair 1 1 2 7 7\n") (pair_words first_pair) [] first_pair (pair_one_line first_pair valid_first) refl (valid_first, refl) falls;
    } in
    pair_fault _ _ _ _ 3 5 (codes "gen") refl least named fault

-- ---- short texts

abbrev no_pairs : AreValidPairs []
no_pairs = record { each = All-nil IsValidPair; rise = tt }

-- refuses a rule by which a feedback has a pair at least
empty_feedback : Spells (codes "feedback 1\nleast 1\nmodule t\n") (record { «module» = codes "t"; least = 1; pairs = [] })
unfolding digits
empty_feedback = record { valid = record { least = (omega arith, omega arith); name = refl; pairs = no_pairs }; is = refl }

-- refuses a rule by which no text at all is an empty feedback
empty_text : IsFaultAt [] 1
empty_text = title_fault [] (inl (All-nil (λ b. b ≡ 10 → ⊥)))

-- refuses a rule by which a text may end behind any of its lines
without_a_module : IsFaultAt (codes "feedback 1\nleast 1\n") 3
unfolding digits
without_a_module = module_fault _ (codes "least 1\n") [] 1 refl ((omega arith, omega arith), refl) (inl (All-nil (λ b. b ≡ 10 → ⊥)))

-- refuses a rule by which the end of the text ends its last line too: among the first three
module_cut_off : IsFaultAt (codes "feedback 1\nleast 1\nmodule t") 3
unfolding digits free
module_cut_off = module_fault _ (codes "least 1\nmodule t") (codes "module t") 1 refl ((omega arith, omega arith), refl) (inl (from_free (codes "module t") refl))

-- and behind them, where the line's words are whole
pair_cut_off : IsFaultAt (codes "feedback 1\nleast 1\nmodule t\npair 1 1 2 7 7") 4
unfolding digits free
pair_cut_off =
    let least : BeginsWithLeast 1 (codes "least 1\nmodule t\npair 1 1 2 7 7") (codes "module t\npair 1 1 2 7 7") = ((omega arith, omega arith), refl) in
    let named : BeginsWithModule (codes "t") (codes "module t\npair 1 1 2 7 7") (codes "pair 1 1 2 7 7") = (refl, refl) in
    let fault : IsPairFault (codes "pair 1 1 2 7 7") 4 = record {
      before = [];
      rest = codes "pair 1 1 2 7 7";
      valid = no_pairs;
      is = refl;
      count = refl;
      some = omega arith;
      fault = inl (from_free (codes "pair 1 1 2 7 7") refl);
    } in
    pair_fault _ _ _ _ 1 4 (codes "t") refl least named fault

no_empty_line : GivesPairAfter [] [] → ⊥
no_empty_line gives = let is : [] ≡ pair_words gives.0 = gives.1.1 in absurd (cc)

-- refuses a rule by which empty lines behind the last one are no matter
empty_line_at_the_end : IsFaultAt (codes "feedback 1\nleast 1\nmodule t\n\n") 4
unfolding digits
empty_line_at_the_end =
    let least : BeginsWithLeast 1 (codes "least 1\nmodule t\n\n") (codes "module t\n\n") = ((omega arith, omega arith), refl) in
    let named : BeginsWithModule (codes "t") (codes "module t\n\n") (codes "\n") = (refl, refl) in
    let fault : IsPairFault (codes "\n") 4 = record {
      before = [];
      rest = codes "\n";
      valid = no_pairs;
      is = refl;
      count = refl;
      some = omega arith;
      fault = inr (record { words = []; after = []; one = All-nil (λ b. b ≡ 10 → ⊥); is = refl; wrong = no_empty_line });
    } in
    pair_fault _ _ _ _ 1 4 (codes "t") refl least named fault

-- ---- dependence

-- p(X, Y) :- Y = X.
abbrev copy : Procedure
copy = predicate 2 (codes "p") ((number, In) ∷ (number, Out) ∷ []) Det 2 (same 3 1 0)

-- a call of p at a site
abbrev call_p : (site from to : ℕ) → HldsGoal
call_p site from to = At 5 (CallGoal site (unqualified (codes "p")) (from ∷ to ∷ []))

-- q(A, D) :- p(A, B), p(B, C), p(C, D). A is variable 0, D 1, B 2 and C 3.
abbrev chain : Hlds
chain = program [] (copy ∷ predicate 4 (codes "q") ((number, In) ∷ (number, Out) ∷ []) Det 4 (conj 5 (call_p 0 0 2 ∷ call_p 1 2 3 ∷ call_p 2 3 1 ∷ [])) ∷ [])

-- the clause of p is goal 0 and that of q goal 1
abbrev chain_parts : List Numbered
chain_parts = parts_of 1 (gathered (call_p 0 0 2 ∷ call_p 1 2 3 ∷ call_p 2 3 1 ∷ []))

second_takes : Takes chain (numbered_goal 2 (call_p 0 0 2)) (numbered_goal 3 (call_p 1 2 3))
unfolding program_notes
second_takes = record { variable = 2; bound = (0, omega arith, refl); occurs = (0, omega arith, refl) }

third_takes : Takes chain (numbered_goal 3 (call_p 1 2 3)) (numbered_goal 4 (call_p 2 3 1))
unfolding program_notes
third_takes = record { variable = 3; bound = (0, omega arith, refl); occurs = (0, omega arith, refl) }

-- the third call depends on the first through the second, though it has no variable of the first
through_the_middle : Depends chain chain_parts 0 2
through_the_middle =
    Through {l = 1} (Directly (numbered_goal 2 (call_p 0 0 2)) (numbered_goal 3 (call_p 1 2 3)) (omega arith) refl refl second_takes)
    (Directly (numbered_goal 3 (call_p 1 2 3)) (numbered_goal 4 (call_p 2 3 1)) (omega arith) refl refl third_takes)

-- so no two of them are a pair
none_in_a_chain : program_pairs chain (Some 7 ∷ Some 7 ∷ Some 7 ∷ []) ≡ []
unfolding program_notes
none_in_a_chain = refl

-- q(A, B, C) :- p(A, B), p(A, C), p(B, D). D is variable 3.
abbrev fork : Hlds
fork = program [] (copy ∷ predicate 4 (codes "q") ((number, In) ∷ (number, Out) ∷ (number, Out) ∷ []) Det 4 (conj 5 (call_p 0 0 1 ∷ call_p 1 0 2 ∷ call_p 2 1 3 ∷ [])) ∷ [])

-- the second call depends on neither of the others, and the third on the first
two_pairs : program_pairs fork (Some 7 ∷ Some 8 ∷ Some 9 ∷ []) ≡ pair 1 0 1 7 8 ∷ pair 1 1 2 8 9 ∷ []
unfolding program_notes
two_pairs = refl

-- a call that isn't costly is in no pair
one_pair : program_pairs fork (Some 7 ∷ Some 8 ∷ None ∷ []) ≡ pair 1 0 1 7 8 ∷ []
unfolding program_notes
one_pair = refl

-- a call within parentheses is no direct part of the conjunction around them: q(A, B, C) :- p(A, B), (p(A, C), p(A, D)).
abbrev nested : Hlds
nested = program [] (copy ∷ predicate 4 (codes "q") ((number, In) ∷ (number, Out) ∷ (number, Out) ∷ []) Det 4 (conj 5 (call_p 0 0 1 ∷ conj 5 (call_p 1 0 2 ∷ call_p 2 0 3 ∷ []) ∷ [])) ∷ [])

inner_pair : program_pairs nested (Some 7 ∷ Some 8 ∷ Some 9 ∷ []) ≡ pair 1 1 2 8 9 ∷ []
unfolding program_notes
inner_pair = refl

-- a procedure that isn't declared `det` is called in no pair
abbrev semidet_copy : Procedure
semidet_copy = predicate 2 (codes "p") ((number, In) ∷ (number, Out) ∷ []) Semidet 2 (same 3 1 0)

not_of_semidet : program_pairs (program [] (semidet_copy ∷ predicate 4 (codes "q") ((number, In) ∷ (number, Out) ∷ (number, Out) ∷ []) Semidet 3 (conj 5 (call_p 0 0 1 ∷ call_p 1 0 2 ∷ [])) ∷ []))
    (Some 7 ∷ Some 8 ∷ []) ≡ []
unfolding program_notes
not_of_semidet = refl

-- Four procedures below main, each of which but the last calls the next one twice. In its run the sites of p2 have 1 own call
-- and 7 total ones, those of p3 have 2 and 6, and those of p4 have 4 and 4, which are fewer than three times as many.
abbrev call_at : (site : ℕ) → List ℕ → HldsGoal
call_at site name = At 4 (CallGoal site (unqualified name) [])

abbrev level : List ℕ → HldsGoal → Procedure
level name body = predicate 4 name [] Det 0 body

abbrev tree : Hlds
tree = program [] (
    main 2 (conj 3 (call_at 0 (codes "p1") ∷ same 3 1 0 ∷ []))
    ∷ level (codes "p1") (conj 4 (call_at 1 (codes "p2") ∷ call_at 2 (codes "p2") ∷ []))
    ∷ level (codes "p2") (conj 4 (call_at 3 (codes "p3") ∷ call_at 4 (codes "p3") ∷ []))
    ∷ level (codes "p3") (conj 4 (call_at 5 (codes "p4") ∷ call_at 6 (codes "p4") ∷ []))
    ∷ level (codes "p4") (succeed 4)
    ∷ [])

four_levels : program_pairs tree (Some 15 ∷ Some 7 ∷ Some 7 ∷ Some 6 ∷ Some 6 ∷ None ∷ None ∷ []) ≡ generated.pairs
unfolding program_notes
four_levels = refl

-- ---- totals

-- three times the own calls are enough for three
exactly_as_many : (v : View) → v.own (OfSite 0) Calls ≡ Some 2 → v.total (OfSite 0) Calls ≡ Some 6 → IsHeavy v 3 0 6
exactly_as_many v own total = record { own = 2; is_own = own; is_total = total; some = omega arith; many = omega arith }

-- a site whose calls stay within a clique has no total calls, and isn't costly whatever the least share
recursion_is_none : (v : View) (least total : ℕ) → 1 ≤ least → v.total (OfSite 0) Calls ≡ Some 0 → IsHeavy v least 0 total → ⊥
recursion_is_none v least total low none h =
    let nothing' : total ≡ 0 = some_is total 0 (sym h.is_total ∙ none) in
    omega (arith, nothing', h.many, low, mul-le-mul_left least h.some)

-- ---- goals that stand one after the other

-- The clause on line 4 has goal 0 alone, and the one on line 5 is goal 1, with goals 2 and 3 on lines 6 and 7.
abbrev two_clauses : Hlds
two_clauses = program [] (level (codes "p") (succeed 4) ∷ level (codes "q") (conj 5 (succeed 6 ∷ succeed 7 ∷ [])) ∷ [])

goals_from_two : StandsFrom two_clauses 2 (succeed 6 ∷ succeed 7 ∷ [])
goals_from_two zero p is = is
goals_from_two (suc zero) p is = is
goals_from_two (suc (suc m)) p is = let none : None ≡ Some p = is in absurd (cc)

-- refuses a rule that counts the goals of each clause from 0
goals_from_one : StandsFrom two_clauses 1 (succeed 6 ∷ succeed 7 ∷ []) → ⊥
goals_from_one stands = let first : Some (conj 5 (succeed 6 ∷ succeed 7 ∷ [])) ≡ Some (succeed 6) = stands 0 (succeed 6) refl in cc

-- refuses a rule by which they stand in any order
goals_exchanged : StandsFrom two_clauses 2 (succeed 7 ∷ succeed 6 ∷ []) → ⊥
goals_exchanged stands = let first : Some (succeed 6) ≡ Some (succeed 7) = stands 0 (succeed 7) refl in cc

-- refuses a rule that asks nothing where the program ends
goals_past_the_end : StandsFrom two_clauses 3 (succeed 7 ∷ succeed 8 ∷ []) → ⊥
goals_past_the_end stands = let second : None ≡ Some (succeed 8) = stands 1 (succeed 8) refl in cc
