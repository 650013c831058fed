-- A history later than another: what a trace has changed, and what it has left as it was.
use Rattle.std.specs.Prelude.{⊤}
use Rattle.std.proofs.Common.{◌≡◌, ◌≢◌, refl, ◌∙◌, ℕ, suc, ◌+◌, ◌-◌, ◌<◌, ◌≤◌, List, [], ◌∷◌, Option, Some, arith}
use Rattle.std.proofs.lemmas.Bool.{ne_eqb}
use Rattle.md_trace.specs.declared.event.Event.{Event}
use Rattle.md_trace.specs.declared.event.Event.TheVariants.{Call as CallOf, Exit as ExitOf, Redo as RedoOf, Fail as FailOf, Excp as ExcpOf, Alloc as AllocOf}
use Rattle.md_trace.specs.Activation.{activations, numbered, parent_of, procedure_of}
use Rattle.md_trace.specs.PortHistory.{current, has_exited}
use Rattle.md_trace.proofs.Numbered.{numbered-more}
use Rattle.law_events.proofs.Goes.{count}

-- an activation is none of these
abbrev pub Outside : ℕ → List ℕ → Type 0
Outside b [] = ⊤
Outside b (a ∷ those) = (b ≢ a) × Outside b those

-- After i, which is later than h, `now` runs. The activations before are the same, only those that are named and new ones
-- had ports, and what is left of the budget has paid for the calls.
pub record Later (those : List ℕ) (now : Option ℕ) (left : ℕ) (h : List Event) (less : ℕ) (i : List Event) : Type 0 where
  pub runs : current i ≡ now
  pub more : count h ≤ count i
  pub same : (b : ℕ) → b < count h → numbered (activations i) b ≡ numbered (activations h) b
  pub still : (b : ℕ) → b < count h → Outside b those → has_exited i b ≡ has_exited h b
  pub paid : count i + less ≤ count h + left

-- an activation is one of those, or new
abbrev pub Inside : ℕ → List ℕ → List Event → Type 0
Inside a those h = (b : ℕ) → b < count h → Outside b those → b ≢ a

-- an activation that was called before keeps its parent and its procedure
pub same_parent : {those : List ℕ} {now : Option ℕ} {left less : ℕ} {h i : List Event} (a : ℕ) → Later those now left h less i → a < count h
    → parent_of (activations i) a ≡ parent_of (activations h) a
same_parent a l below = rw (l.same a below) refl

pub same_procedure : {those : List ℕ} {now : Option ℕ} {left less : ℕ} {h i : List Event} (a : ℕ) → Later those now left h less i → a < count h
    → procedure_of (activations i) a ≡ procedure_of (activations h) a
same_procedure a l below = rw (l.same a below) refl

-- nothing has happened, but perhaps a turn
pub later_now : (those : List ℕ) (now : Option ℕ) (left less : ℕ) (h : List Event) → current h ≡ now → less ≤ left → Later those now left h less h
later_now those now left less h is le = record { runs = is; more = omega arith; same = λ b below. refl; still = λ b below out. refl; paid = omega (arith, le) }

-- later than what is later
pub later_then : {those others : List ℕ} {now then' : Option ℕ} {left less least : ℕ} {h i j : List Event}
    → Later those now left h less i → ((b : ℕ) → b < count h → Outside b those → Outside b others) → Later others then' less i least j → Later those then' left h least j
later_then l cover m = record {
  runs = m.runs;
  more = omega (arith, l.more, m.more);
  same = λ b below. m.same b (omega (arith, below, l.more)) ∙ l.same b below;
  still = λ b below out. m.still b (omega (arith, below, l.more)) (cover b below out) ∙ l.still b below out;
  paid = omega (arith, l.paid, m.paid);
}

-- later among more activations
pub later_among : {those others : List ℕ} {now : Option ℕ} {left less : ℕ} {h i : List Event}
    → Later others now left h less i → ((b : ℕ) → b < count h → Outside b those → Outside b others) → Later those now left h less i
later_among l cover = record { runs = l.runs; more = l.more; same = l.same; still = λ b below out. l.still b below (cover b below out); paid = l.paid }

-- who runs, said otherwise
pub later_as : {those : List ℕ} {now other : Option ℕ} {left less : ℕ} {h i : List Event} → Later those now left h less i → now ≡ other → Later those other left h less i
later_as l is = record { runs = l.runs ∙ is; more = l.more; same = l.same; still = l.still; paid = l.paid }

pub later_exit : {those : List ℕ} {now : Option ℕ} {left less : ℕ} {h i : List Event} (a : ℕ) → Later those now left h less i → Inside a those h
    → Later those (parent_of (activations i) a) left h less (ExitOf a ∷ i)
later_exit a l inside = record {
  runs = refl;
  more = l.more;
  same = l.same;
  still = λ b below out. rw (ne_eqb b a (inside b below out)) (l.still b below out);
  paid = l.paid;
}

pub later_redo : {those : List ℕ} {now : Option ℕ} {left less : ℕ} {h i : List Event} (a : ℕ) → Later those now left h less i → Inside a those h
    → Later those (Some a) left h less (RedoOf a ∷ i)
later_redo a l inside = record {
  runs = refl;
  more = l.more;
  same = l.same;
  still = λ b below out. rw (ne_eqb b a (inside b below out)) (l.still b below out);
  paid = l.paid;
}

pub later_fail : {those : List ℕ} {now : Option ℕ} {left less : ℕ} {h i : List Event} (a : ℕ) → Later those now left h less i → Inside a those h
    → Later those (parent_of (activations i) a) left h less (FailOf a ∷ i)
later_fail a l inside = record {
  runs = refl;
  more = l.more;
  same = l.same;
  still = λ b below out. rw (ne_eqb b a (inside b below out)) (l.still b below out);
  paid = l.paid;
}

pub later_excp : {those : List ℕ} {now : Option ℕ} {left less : ℕ} {h i : List Event} (a : ℕ) → Later those now left h less i → Inside a those h
    → Later those (parent_of (activations i) a) left h less (ExcpOf a ∷ i)
later_excp a l inside = record {
  runs = refl;
  more = l.more;
  same = l.same;
  still = λ b below out. rw (ne_eqb b a (inside b below out)) (l.still b below out);
  paid = l.paid;
}

pub later_alloc : {those : List ℕ} {now : Option ℕ} {left less : ℕ} {h i : List Event} (a w : ℕ) → Later those now left h less i → Later those now left h less (AllocOf a w ∷ i)
later_alloc a w l = record { runs = l.runs; more = l.more; same = l.same; still = l.still; paid = l.paid }

-- a call, which a turn of at least 1 has paid for
pub later_call : {those : List ℕ} {now : Option ℕ} {left less : ℕ} {h i : List Event} (p s : Option ℕ) (q w : ℕ) → Later those now left h less i → suc w ≤ less
    → Later those (Some (count i)) left h (less - suc w) (CallOf (count i) p s q ∷ i)
later_call {i = i} p s q w l fits = record {
  runs = refl;
  more = omega (arith, l.more);
  same = λ b below. numbered-more _ (activations i) b (omega (arith, below, l.more)) ∙ l.same b below;
  still = λ b below out. rw (ne_eqb b (count i) (λ e. absurd (omega (arith, e, below, l.more)))) (l.still b below out);
  paid = omega (arith, l.paid, fits);
}
