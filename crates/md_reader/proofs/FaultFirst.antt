-- The token at which a text is refused: a program begins with the tokens before it, or with it too, but none with it.
use Rattle.std.proofs.Common.{◌⊎◌, ◌≡◌, ℕ, suc, ◌+◌, ◌-◌, ◌≤◌, ◌<◌, List, [], ◌∷◌, ◌++◌, length, take, drop, refl, inl, inr, Ok, Err, sym, ap, ◌∙◌, arith, subst, append_assoc, length-append, true}
use Rattle.md_hlds.specs.Hlds.{Hlds}
use Rattle.md_token.specs.Kinds.{is_final}
use Rattle.md_token.specs.Token.{Lexeme, tokens_of}
use Rattle.md_token.specs.declared.kind.Kind.TheVariants as kind
use Rattle.md_token.proofs.Ends.{HasEnd, tokens_end}
use Rattle.md_reader.specs.declared.refused.Place.{Place}
use Rattle.md_reader.specs.declared.refused.Refusal.{Refusal}
use Rattle.md_reader.specs.declared.refused.Refusal.TheVariants.{Syntax, Limit, NoMemory}
use Rattle.md_reader.specs.Input.{Input, Limits, standard, Outcome, first, sees, token}
use Rattle.md_reader.specs.Rules as rule
use Rattle.md_reader.specs.Grammar.{Program}
use Rattle.md_reader.specs.Excess.{Point, beginning, behind, past, Exceeds, AreWithin}
use Rattle.md_reader.specs.Faults.{the_end, BeginsWithin, Begins, IsSyntaxFault, IsLimitFault, TextBegins, IsAtFault}
use Rattle.md_reader.proofs.Steady.{Stands, FaultAt, Agree, cut, recut, at}
use Rattle.md_reader.proofs.SteadyPrograms.{program_steady}
use Rattle.md_reader.proofs.SoundPrograms.{program_sound}
use Rattle.md_reader.proofs.CompleteTexts.{program_complete}
use Rattle.md_reader.proofs.Fills.{all, upon, Or, Every, Done, Took, Broke, Over, Law}
use Rattle.md_reader.proofs.FillsPrograms.{Top, IsStop, whole_program, program_is, program_law, ended_some, left_behind}
use Rattle.md_reader.proofs.Taking.{kind_seen}
use Rattle.md_reader.proofs.Within as kept
use Rattle.md_reader.proofs.WithinTokens.{sign_within, any}
use Rattle.md_reader.proofs.WithinPredicates as named
use Rattle.md_token.proofs.Proper.{tokens_proper, tokens_last}

-- ---- the end behind tokens

end_behind : (ts us : List Lexeme) → HasEnd us → HasEnd (ts ++ us)
end_behind [] us h = h
end_behind (t ∷ ts) us h = inr (end_behind ts us h)

-- up to the end
abbrev up_to_end : List Lexeme → List Lexeme → List Lexeme
up_to_end ts later = ts ++ (later ++ the_end ∷ [])

up_to_end_ends : (ts later : List Lexeme) → HasEnd (up_to_end ts later)
up_to_end_ends ts later = end_behind ts (later ++ the_end ∷ []) (end_behind later (the_end ∷ []) (inl refl))

-- ---- tokens that are filled up begin a program

begun : (us prefix fill : List Lexeme) → Done (λ _. Top) (Or Every (rule.start us)) IsStop (λ n. whole_program) (rule.start us) (prefix ++ fill) → Begins prefix
begun us prefix fill d =
    let n = d.run.bound in
    let i : Input = rule.start_within (all n) (up_to_end prefix fill) in
    let read : whole_program (upon n ((prefix ++ fill) ++ the_end ∷ []) (rule.start us)) ≡ Ok (d.value, upon n (the_end ∷ []) d.end) = d.run.runs n (the_end ∷ []) (omega arith) (omega arith, refl) in
    let moved : whole_program i ≡ Ok (d.value, upon n (the_end ∷ []) d.end) = subst (λ (ts : List Lexeme). whole_program (rule.start_within (all n) ts) ≡ Ok (d.value, upon n (the_end ∷ []) d.end)) (append_assoc prefix fill (the_end ∷ [])) read in
    let s = program_sound d.value i (upon n (the_end ∷ []) d.end) (program_is i (up_to_end_ends prefix fill) ∙ moved) in
    record { limits = all n; within = record { later = fill; listing = d.value; end = upon n (the_end ∷ []) d.end; program = s.0; whole = s.1 } }

-- ---- a program is read where the limits are wide enough

read_at : (limits : Limits) (ts : List Lexeme) (b : BeginsWithin limits ts) → rule.program (rule.start_within limits (up_to_end ts b.later)) ≡ Ok (b.listing, b.end)
read_at limits ts b = program_complete b.listing (rule.start_within limits (up_to_end ts b.later)) b.end b.program (up_to_end_ends ts b.later) b.whole

read_wider : (limits : Limits) (ts : List Lexeme) (b : BeginsWithin limits ts) → (m : ℕ) × ((n : ℕ) → m ≤ n → whole_program (rule.start_within (all n) (up_to_end ts b.later)) ≡ Ok (b.listing, upon n b.end.rest b.end))
read_wider limits ts b =
    let us = up_to_end ts b.later in
    let i : Input = rule.start_within limits us in
    let ends = up_to_end_ends ts b.later in
    let read = read_at limits ts b in
    let same : whole_program i ≡ Ok (b.listing, b.end) = sym (program_is i ends) ∙ read in
    let w : Took (λ _. Top) Every IsStop (λ n. whole_program) i b.listing b.end = subst (λ (r : Outcome Hlds). Law (λ _. Top) Every IsStop (λ n. whole_program) i r) same (program_law i) in
    let some : 0 < length b.end.rest = ended_some b.end.rest (left_behind rule.program (program_steady 0 []) b.listing i b.end read ends) in (
      w.run.bound,
      λ n le. subst (λ (vs : List Lexeme). whole_program (rule.start_within (all n) vs) ≡ Ok (b.listing, upon n b.end.rest b.end)) (sym w.whole) (w.run.runs n b.end.rest le (some, inr (refl, refl))),
    )

-- no program begins with the tokens up to a fault for syntax and with it
none_begins : (us : List Lexeme) (place : Place) (w : Broke (λ _. Top) Every IsStop (λ n. whole_program) (rule.start us) place) (t : Lexeme) (later : List Lexeme) → w.rest ≡ t ∷ later → Begins (w.prefix ++ t ∷ []) → ⊥
none_begins us place w t later e b =
    let m = read_wider b.limits (w.prefix ++ t ∷ []) b.within in
    let n = m.0 + w.bound in
    let behind = b.within.later ++ the_end ∷ [] in
    let s = w.stuck n behind (omega arith) in
    let stuck : whole_program (rule.start_within (all n) (w.prefix ++ t ∷ behind)) ≡ Err (Syntax s.0) = subst (λ (u : Lexeme). whole_program (rule.start_within (all n) (w.prefix ++ u ∷ behind)) ≡ Err (Syntax s.0)) (ap first e) s.1 in
    let read : whole_program (rule.start_within (all n) (w.prefix ++ t ∷ behind)) ≡ Ok (b.within.listing, upon n b.within.end.rest b.within.end) = subst (λ (ts : List Lexeme). whole_program (rule.start_within (all n) ts) ≡ Ok (b.within.listing, upon n b.within.end.rest b.within.end)) (append_assoc w.prefix (t ∷ []) behind) (m.1 n (omega arith)) in
    absurd (cc)

-- ---- the tokens up to the stop, with others behind them

-- the tokens up to the first one of the last ones
prefix_of : (prefix : List Lexeme) (t : Lexeme) (later more : List Lexeme) → recut (length later) more (prefix ++ t ∷ later) ≡ (prefix ++ t ∷ []) ++ more
prefix_of [] t later more = let e : suc (length later) - length later ≡ 1 = omega arith in rw e refl
prefix_of (f ∷ prefix) t later more =
    let l = length-append prefix (t ∷ later) in
    let e : suc (length (prefix ++ t ∷ later)) - length later ≡ suc (length (prefix ++ t ∷ later) - length later) = omega (arith, l) in
    rw e (ap (λ (ts : List Lexeme). f ∷ ts) (prefix_of prefix t later more))

-- two stops of one refusal are as long
as_long : (us vs : List Lexeme) (e : Refusal) → FaultAt us e → FaultAt vs e → length us ≡ length vs
as_long us vs (Syntax place) a b = ap (λ (p : Place). p.left) (sym a ∙ b)
as_long us vs (Limit place) a b = ap (λ (p : Place). p.left) (sym a ∙ b)
as_long us vs NoMemory a b = absurd a

-- tokens that are refused are refused whatever stands behind the stop
pub stops : (ts : List Lexeme) (e : Refusal) (prefix : List Lexeme) (t : Lexeme) (later more : List Lexeme) (l : Hlds) (end : Input) → rule.program (rule.start ts) ≡ Err e → ts ≡ prefix ++ t ∷ later → FaultAt (t ∷ later) e → rule.program (rule.start ((prefix ++ t ∷ []) ++ more)) ≡ Ok (l, end) → ⊥
stops ts e prefix t later more l end r whole here read =
    let w = program_steady (length later) more (rule.start ts) in
    let stands : FaultAt w.stop e = subst (Stands w.stop) r w.stands in
    let long : length w.stop ≡ suc (length later) = as_long w.stop (t ∷ later) e stands here in
    let other = subst (λ (q : Outcome Hlds). Agree (length later) more q (rule.program (cut (length later) more (rule.start ts)))) r (w.agrees (omega (arith, long))) in
    let same : recut (length later) more ts ≡ (prefix ++ t ∷ []) ++ more = ap (recut (length later) more) whole ∙ prefix_of prefix t later more in
    let refused : rule.program (rule.start ((prefix ++ t ∷ []) ++ more)) ≡ Err other.0 = ap (λ (us : List Lexeme). rule.program (rule.start us)) (sym same) ∙ other.1 in
    absurd (cc)

-- ---- the stop

some_left : (ts us : List Lexeme) (e : Refusal) → rule.program (rule.start ts) ≡ Err e → HasEnd ts → FaultAt us e → (t : Lexeme) × (later : List Lexeme) × (us ≡ t ∷ later)
some_left ts [] e r h here =
    let w = program_steady 0 [] (rule.start ts) in
    let stands : FaultAt w.stop e = subst (Stands w.stop) r w.stands in
    let long : length w.stop ≡ 0 = as_long w.stop [] e stands here in
    absurd (let s = ended_some w.stop (w.behind.ends h) in omega (arith, long, s))
some_left ts (t ∷ later) e r h here = (t, later, refl)

line_of : (us : List Lexeme) (place : Place) (t : Lexeme) (later : List Lexeme) → place ≡ at us → us ≡ t ∷ later → t.line ≡ place.line
line_of us place t later here e = sym (ap (λ (p : Place). p.line) here ∙ ap (λ (vs : List Lexeme). (first vs).line) e)

-- ---- what the tokens before it are within

-- the last tokens of a list are as many, and so are those before them
same_split : (a b c d : List Lexeme) → a ++ b ≡ c ++ d → length b ≡ length d → (a ≡ c) × (b ≡ d)
same_split [] b [] d e l = (refl, e)
same_split [] b (u ∷ c) d e l = absurd (let m = ap length e in let n = length-append c d in omega (arith, l, m, n))
same_split (t ∷ a) b [] d e l = absurd (let m = ap length e in let n = length-append a b in omega (arith, l, m, n))
same_split (t ∷ a) b (u ∷ c) d e l =
    let head : t ≡ u = ap first e in
    let p = same_split a b c d (ap (drop 1) e) l in
    (rw (head, p.0) refl, p.1)

-- what a reader of the whole text does
kept_by : (text : List ℕ) (r : Outcome Hlds) → rule.program (rule.start (tokens_of text)) ≡ r → kept.Case (λ _. named.Top) beginning (rule.start (tokens_of text)) r
kept_by text r e =
    let good : kept.Good (rule.start (tokens_of text)) = record { limits = refl; proper = tokens_proper text; home = omega arith } in
    subst (kept.Case (λ _. named.Top) beginning (rule.start (tokens_of text))) e (named.program_keeps (rule.start (tokens_of text)) beginning good named.begins_top)

-- two stops at one place
same_stop : (ts prefix rest before later : List Lexeme) (t : Lexeme) (place : Place) → ts ≡ prefix ++ rest → place ≡ at rest → ts ≡ before ++ t ∷ later → place ≡ at (t ∷ later) → (prefix ≡ before) × (rest ≡ t ∷ later)
same_stop ts prefix rest before later t place e h f g =
    same_split prefix rest before (t ∷ later) (sym e ∙ f) (ap (λ (p : Place). p.left) (sym h ∙ g))

kept_before : (text : List ℕ) (place : Place) (before later : List Lexeme) (t : Lexeme) → kept.Broke beginning (rule.start (tokens_of text)) place → tokens_of text ≡ before ++ t ∷ later → place ≡ at (t ∷ later) → AreWithin standard beginning before
kept_before text place before later t w e h = subst (AreWithin standard beginning) (same_stop (tokens_of text) w.prefix w.rest before later t place w.whole w.here e h).0 w.within

over_there : (text : List ℕ) (place : Place) (before later : List Lexeme) (t : Lexeme) → kept.Over beginning (rule.start (tokens_of text)) place → tokens_of text ≡ before ++ t ∷ later → place ≡ at (t ∷ later) → Exceeds standard (past beginning before) t
over_there text place before later t w e h =
    let p = same_stop (tokens_of text) w.broke.prefix w.broke.rest before later t place w.broke.whole w.broke.here e h in
    subst (λ (u : Lexeme). Exceeds standard (past beginning before) u) (ap first p.1) (subst (λ (ts : List Lexeme). Exceeds standard (past beginning ts) (first w.broke.rest)) p.0 w.exceeds)

pub syntax_fault : (text : List ℕ) (place : Place) → rule.program (rule.start (tokens_of text)) ≡ Err (Syntax place) → IsSyntaxFault text place.line
syntax_fault text place r =
    let i : Input = rule.start (tokens_of text) in
    let same : whole_program i ≡ Err (Syntax place) = sym (program_is i (tokens_end text)) ∙ r in
    let w : Broke (λ _. Top) Every IsStop (λ n. whole_program) i place = subst (λ (r : Outcome Hlds). Law (λ _. Top) Every IsStop (λ n. whole_program) i r) same (program_law i) in
    let s = some_left (tokens_of text) w.rest (Syntax place) r (tokens_end text) w.here in
    record {
      before = w.prefix;
      token = s.0;
      later = s.1;
      tokens = w.whole ∙ ap (λ (vs : List Lexeme). w.prefix ++ vs) s.2;
      here = line_of w.rest place s.0 s.1 w.here s.2;
      begins = begun (tokens_of text) w.prefix w.fill w.done;
      within = kept_before text place w.prefix s.1 s.0 (kept_by text (Err (Syntax place)) r) (w.whole ∙ ap (λ (vs : List Lexeme). w.prefix ++ vs) s.2) (w.here ∙ ap at s.2);
      none = none_begins (tokens_of text) place w s.0 s.1 s.2;
    }

pub limit_fault : (text : List ℕ) (place : Place) → rule.program (rule.start (tokens_of text)) ≡ Err (Limit place) → IsLimitFault text place.line
limit_fault text place r =
    let i : Input = rule.start (tokens_of text) in
    let same : whole_program i ≡ Err (Limit place) = sym (program_is i (tokens_end text)) ∙ r in
    let w : Over (λ _. Top) Every IsStop (λ n. whole_program) i place = subst (λ (r : Outcome Hlds). Law (λ _. Top) Every IsStop (λ n. whole_program) i r) same (program_law i) in
    let s = some_left (tokens_of text) w.rest (Limit place) r (tokens_end text) w.here in
    let whole : tokens_of text ≡ w.prefix ++ s.0 ∷ s.1 = w.whole ∙ ap (λ (vs : List Lexeme). w.prefix ++ vs) s.2 in
    let done : Done (λ _. Top) (Or Every i) IsStop (λ n. whole_program) i (w.prefix ++ s.0 ∷ w.fill) = subst (λ (u : Lexeme). Done (λ _. Top) (Or Every i) IsStop (λ n. whole_program) i (w.prefix ++ u ∷ w.fill)) (ap first s.2) w.done in
    record {
      before = w.prefix;
      token = s.0;
      later = s.1;
      tokens = whole;
      here = line_of w.rest place s.0 s.1 w.here s.2;
      begins = begun (tokens_of text) (w.prefix ++ s.0 ∷ []) w.fill (subst (λ (ts : List Lexeme). Done (λ _. Top) (Or Every i) IsStop (λ n. whole_program) i ts) (sym (append_assoc w.prefix (s.0 ∷ []) w.fill)) done);
      within = kept_before text place w.prefix s.1 s.0 (kept_by text (Err (Limit place)) r).broke whole (w.here ∙ ap at s.2);
      exceeds = over_there text place w.prefix s.1 s.0 (kept_by text (Err (Limit place)) r) whole (w.here ∙ ap at s.2);
    }

-- ---- the tokens of a text that is a program's

take_whole : (ts : List Lexeme) → take (length ts - 0) ts ≡ ts
take_whole [] = refl
take_whole (t ∷ ts) = let e : suc (length ts) - 0 ≡ suc (length ts - 0) = omega arith in rw e (ap (λ (us : List Lexeme). t ∷ us) (take_whole ts))

-- one more end behind a text changes nothing
pub text_begins : (ts : List Lexeme) → TextBegins ts → BeginsWithin standard ts
text_begins ts b =
    let i : Input = rule.start (tokens_of b.text) in
    let read : rule.program i ≡ Ok (b.listing, b.end) = program_complete b.listing i b.end b.program (tokens_end b.text) b.whole in
    let w = program_steady 0 (the_end ∷ []) i in
    let some : 0 < length w.stop = ended_some w.stop (w.behind.ends (tokens_end b.text)) in
    let more : rule.program (cut 0 (the_end ∷ []) i) ≡ Ok (b.listing, cut 0 (the_end ∷ []) b.end) = subst (λ (q : Outcome Hlds). Agree 0 (the_end ∷ []) q (rule.program (cut 0 (the_end ∷ []) i))) read (w.agrees some) in
    let tokens : recut 0 (the_end ∷ []) (tokens_of b.text) ≡ up_to_end ts b.later = ap (λ (us : List Lexeme). us ++ the_end ∷ []) (take_whole (tokens_of b.text) ∙ b.tokens) ∙ append_assoc ts b.later (the_end ∷ []) in
    let moved : rule.program (rule.start (up_to_end ts b.later)) ≡ Ok (b.listing, cut 0 (the_end ∷ []) b.end) = subst (λ (us : List Lexeme). rule.program (rule.start us) ≡ Ok (b.listing, cut 0 (the_end ∷ []) b.end)) tokens more in
    let s = program_sound b.listing (rule.start (up_to_end ts b.later)) (cut 0 (the_end ∷ []) b.end) moved in
    record { later = b.later; listing = b.listing; end = cut 0 (the_end ∷ []) b.end; program = s.0; whole = s.1 }

-- a token at fault for syntax is at fault
pub syntax_at_fault : (text : List ℕ) (line : ℕ) → IsSyntaxFault text line → IsAtFault text line
syntax_at_fault text line f = record { before = f.before; token = f.token; later = f.later; tokens = f.tokens; here = f.here; none = λ b. f.none (record { limits = standard; within = text_begins (f.before ++ f.token ∷ []) b }) }

-- ---- there is one such token

pub begins_shorter : (ts us : List Lexeme) → Begins (ts ++ us) → Begins ts
begins_shorter ts us b =
    let e : up_to_end (ts ++ us) b.within.later ≡ up_to_end ts (us ++ b.within.later) = append_assoc ts us (b.within.later ++ the_end ∷ []) ∙ ap (λ (vs : List Lexeme). ts ++ vs) (sym (append_assoc us b.within.later (the_end ∷ []))) in
    record {
      limits = b.limits;
      within = record {
        later = us ++ b.within.later;
        listing = b.within.listing;
        end = b.within.end;
        program = subst (λ (vs : List Lexeme). Program b.within.listing (rule.start_within b.limits vs) b.within.end) e b.within.program;
        whole = b.within.whole;
      };
    }

-- of two tokens of a list one stands before the other, or they are one
splits : (a b : List Lexeme) (t u : Lexeme) (x y : List Lexeme) → a ++ t ∷ x ≡ b ++ u ∷ y → ((c : List Lexeme) × (b ≡ (a ++ t ∷ []) ++ c)) ⊎ (((a ≡ b) × (t ≡ u)) ⊎ ((c : List Lexeme) × (a ≡ (b ++ u ∷ []) ++ c)))
splits [] [] t u x y e = inr (inl (refl, ap first e))
splits [] (v ∷ b) t u x y e = inl (b, ap (λ (w : Lexeme). w ∷ b) (sym (ap first e)))
splits (w ∷ a) [] t u x y e = inr (inr (a, ap (λ (v : Lexeme). v ∷ a) (ap first e)))
splits (w ∷ a) (v ∷ b) t u x y e =
    let head : w ≡ v = ap first e in
    elim (splits a b t u x y (ap (drop 1) e)) [
      | inl p ↦ inl (p.0, rw (head, p.1) refl)
      | inr q ↦ elim q [
        | inl same ↦ inr (inl (rw (head, same.0) refl, same.1))
        | inr p ↦ inr (inr (p.0, rw (head, p.1) refl))
      ]
    ]

same_line : (t u : Lexeme) (line other : ℕ) → t.line ≡ line → u.line ≡ other → t ≡ u → line ≡ other
same_line t u line other e f same = sym e ∙ (ap (λ (w : Lexeme). w.line) same ∙ f)

pub one_syntax_fault : (text : List ℕ) (line other : ℕ) → IsSyntaxFault text line → IsSyntaxFault text other → line ≡ other
one_syntax_fault text line other f g =
    elim (splits f.before g.before f.token g.token f.later g.later (sym f.tokens ∙ g.tokens)) [
      | inl p ↦ absurd (f.none (begins_shorter (f.before ++ f.token ∷ []) p.0 (subst Begins p.1 g.begins)))
      | inr q ↦ elim q [
        | inl same ↦ same_line f.token g.token line other f.here g.here same.1
        | inr p ↦ absurd (g.none (begins_shorter (g.before ++ g.token ∷ []) p.0 (subst Begins p.1 f.begins)))
      ]
    ]

-- a token that is among others which are within the limits is so too
pub within_at : (s : Point) (before later : List Lexeme) (t : Lexeme) → AreWithin standard s ((before ++ t ∷ []) ++ later) → Exceeds standard (past s before) t → ⊥
within_at s [] later t h e = h.0 e
within_at s (u ∷ before) later t h e = within_at (behind u.kind s) before later t h.1 e

pub one_limit_fault : (text : List ℕ) (line other : ℕ) → IsLimitFault text line → IsLimitFault text other → line ≡ other
one_limit_fault text line other f g =
    elim (splits f.before g.before f.token g.token f.later g.later (sym f.tokens ∙ g.tokens)) [
      | inl p ↦ absurd (within_at beginning f.before p.0 f.token (subst (AreWithin standard beginning) p.1 g.within) f.exceeds)
      | inr q ↦ elim q [
        | inl same ↦ same_line f.token g.token line other f.here g.here same.1
        | inr p ↦ absurd (within_at beginning g.before p.0 g.token (subst (AreWithin standard beginning) p.1 f.within) g.exceeds)
      ]
    ]

-- the first token at fault is at fault for syntax or for a limit, not for both
pub one_kind_of_fault : (text : List ℕ) (line other : ℕ) → IsSyntaxFault text line → IsLimitFault text other → ⊥
one_kind_of_fault text line other f g =
    elim (splits f.before g.before f.token g.token f.later g.later (sym f.tokens ∙ g.tokens)) [
      | inl p ↦ f.none (begins_shorter (f.before ++ f.token ∷ []) (p.0 ++ g.token ∷ []) (subst Begins (ap (λ (ts : List Lexeme). ts ++ g.token ∷ []) p.1 ∙ append_assoc (f.before ++ f.token ∷ []) p.0 (g.token ∷ [])) g.begins))
      | inr q ↦ elim q [
        | inl same ↦ f.none (subst Begins (rw (same.0, same.1) refl) g.begins)
        | inr p ↦ within_at beginning g.before p.0 g.token (subst (AreWithin standard beginning) p.1 f.within) g.exceeds
      ]
    ]

-- ---- the tokens of a program are within the limits

pub accepted_within : (text : List ℕ) (l : Hlds) (end : Input) → rule.program (rule.start (tokens_of text)) ≡ Ok (l, end) → sees kind.Stop end ≡ true → AreWithin standard beginning (tokens_of text)
unfolding token
accepted_within text l end r seen =
    let w = kept_by text (Ok (l, end)) r in
    let stop : (first end.rest).kind ≡ kind.Stop = kind_seen kind.Stop end seen in
    let some : 0 < length end.rest = ended_some end.rest (left_behind rule.program (program_steady 0 []) l (rule.start (tokens_of text)) end r (tokens_end text)) in
    let split : end.rest ≡ first end.rest ∷ drop 1 end.rest = some_first end.rest some in
    let whole : tokens_of text ≡ w.prefix ++ first end.rest ∷ drop 1 end.rest = w.whole ∙ ap (λ (ts : List Lexeme). w.prefix ++ ts) split in
    let last : drop 1 end.rest ≡ [] = tokens_last text w.prefix (drop 1 end.rest) (first end.rest) whole (ap is_final stop) in
    let all : tokens_of text ≡ w.prefix ++ first end.rest ∷ [] = whole ∙ ap (λ (ts : List Lexeme). w.prefix ++ first end.rest ∷ ts) last in
    subst (AreWithin standard beginning) (sym all) (kept.within_append beginning w.prefix (first end.rest ∷ []) w.within (sign_within kind.Stop any [] refl (past beginning w.prefix) (first end.rest) w.post stop, tt))
  where
    some_first : (ts : List Lexeme) → 0 < length ts → ts ≡ first ts ∷ drop 1 ts
    some_first [] h = absurd (omega (arith, h))
    some_first (t ∷ ts) h = refl

pub no_limit_fault : (text : List ℕ) (line : ℕ) → AreWithin standard beginning (tokens_of text) → IsLimitFault text line → ⊥
no_limit_fault text line w f = within_at beginning f.before f.later f.token (subst (AreWithin standard beginning) (f.tokens ∙ sym (append_assoc f.before (f.token ∷ []) f.later)) w) f.exceeds
