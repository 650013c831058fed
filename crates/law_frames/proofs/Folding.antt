-- Weights that are charged later.
use Rattle.std.proofs.Common.{◌≡◌, refl, ap, sym, ◌∙◌, subst, arith, ℕ, ◌+◌, ◌-◌, ◌<◌, ◌≤◌, Bool, true, false, nat_le, List, [], ◌∷◌, ◌++◌, Option, Some, append-nil}
use Rattle.std.proofs.lemmas.Bool.{leb-true, leb-false}
use Rattle.md_hlds.specs.Hlds.{Hlds}
use Rattle.md_hlds.specs.Trace.{Item, Turn, Call, Exit, Redo, Fail, Excp, Alloc, Out, Throw, Answer, Stuck, Deep, Items}
use Rattle.md_hlds.specs.Run.{run, cut, events, output, is_finished, error}
use Rattle.md_hlds.proofs.TraceLemmas.{cut_allowed, cut_refused}
use Rattle.law_steps.specs.State.{State}
use Rattle.law_steps.specs.Steps.{Turns}
use Rattle.law_steps.specs.Standing.{StandsIn}
use Rattle.law_frames.specs.Ways.{Leaves}
use Rattle.law_frames.specs.Stores.{Store, Choice}
use Rattle.law_frames.specs.Standing.{Doing}
use Rattle.law_frames.specs.Moves.{Moves, Stops, Unfolds, MovesTo, TurnsTo}
use Rattle.law_frames.specs.Running.{InRun, visible, Pends, PendRun, TurnsCharged, IsSeen, Folds, folds_end, defers, charges, shows}
use Rattle.law_frames.proofs.RunLemmas.{moves_in, stops_in, unfolds_there}

-- ---- what is seen

turn_unseen : (xs : Items) (a : ℕ) (g : Option ℕ) (w : ℕ) → visible (xs ++ (Turn a g w ∷ [])) ≡ visible xs
turn_unseen [] a g w = refl
turn_unseen (Turn b h v ∷ xs) a g w = turn_unseen xs a g w
turn_unseen (Call b p q r ∷ xs) a g w = ap (λ ys. Call b p q r ∷ ys) (turn_unseen xs a g w)
turn_unseen (Exit b ∷ xs) a g w = ap (λ ys. Exit b ∷ ys) (turn_unseen xs a g w)
turn_unseen (Redo b ∷ xs) a g w = ap (λ ys. Redo b ∷ ys) (turn_unseen xs a g w)
turn_unseen (Fail b ∷ xs) a g w = ap (λ ys. Fail b ∷ ys) (turn_unseen xs a g w)
turn_unseen (Excp b ∷ xs) a g w = ap (λ ys. Excp b ∷ ys) (turn_unseen xs a g w)
turn_unseen (Alloc b n ∷ xs) a g w = ap (λ ys. Alloc b n ∷ ys) (turn_unseen xs a g w)
turn_unseen (Out bytes ∷ xs) a g w = ap (λ ys. Out bytes ∷ ys) (turn_unseen xs a g w)
turn_unseen (Throw bytes ∷ xs) a g w = ap (λ ys. Throw bytes ∷ ys) (turn_unseen xs a g w)
turn_unseen (Answer e ∷ xs) a g w = ap (λ ys. Answer e ∷ ys) (turn_unseen xs a g w)
turn_unseen (Stuck ∷ xs) a g w = ap (λ ys. Stuck ∷ ys) (turn_unseen xs a g w)
turn_unseen (Deep ∷ xs) a g w = ap (λ ys. Deep ∷ ys) (turn_unseen xs a g w)

-- events, output, end and error are what is seen
seen_events : (xs : Items) → events xs ≡ events (visible xs)
seen_events [] = refl
seen_events (Turn b h v ∷ xs) = seen_events xs
seen_events (Call b p q r ∷ xs) = ap (λ ys. Call b p q r ∷ ys) (seen_events xs)
seen_events (Exit b ∷ xs) = ap (λ ys. Exit b ∷ ys) (seen_events xs)
seen_events (Redo b ∷ xs) = ap (λ ys. Redo b ∷ ys) (seen_events xs)
seen_events (Fail b ∷ xs) = ap (λ ys. Fail b ∷ ys) (seen_events xs)
seen_events (Excp b ∷ xs) = ap (λ ys. Excp b ∷ ys) (seen_events xs)
seen_events (Alloc b n ∷ xs) = ap (λ ys. Alloc b n ∷ ys) (seen_events xs)
seen_events (Out bytes ∷ xs) = seen_events xs
seen_events (Throw bytes ∷ xs) = seen_events xs
seen_events (Answer e ∷ xs) = seen_events xs
seen_events (Stuck ∷ xs) = seen_events xs
seen_events (Deep ∷ xs) = seen_events xs

seen_output : (xs : Items) → output xs ≡ output (visible xs)
seen_output [] = refl
seen_output (Turn b h v ∷ xs) = seen_output xs
seen_output (Call b p q r ∷ xs) = seen_output xs
seen_output (Exit b ∷ xs) = seen_output xs
seen_output (Redo b ∷ xs) = seen_output xs
seen_output (Fail b ∷ xs) = seen_output xs
seen_output (Excp b ∷ xs) = seen_output xs
seen_output (Alloc b n ∷ xs) = seen_output xs
seen_output (Out bytes ∷ xs) = ap (λ ys. bytes ++ ys) (seen_output xs)
seen_output (Throw bytes ∷ xs) = seen_output xs
seen_output (Answer e ∷ xs) = seen_output xs
seen_output (Stuck ∷ xs) = seen_output xs
seen_output (Deep ∷ xs) = seen_output xs

seen_finished : (xs : Items) → is_finished xs ≡ is_finished (visible xs)
seen_finished [] = refl
seen_finished (Turn b h v ∷ xs) = seen_finished xs
seen_finished (Call b p q r ∷ xs) = seen_finished xs
seen_finished (Exit b ∷ xs) = seen_finished xs
seen_finished (Redo b ∷ xs) = seen_finished xs
seen_finished (Fail b ∷ xs) = seen_finished xs
seen_finished (Excp b ∷ xs) = seen_finished xs
seen_finished (Alloc b n ∷ xs) = seen_finished xs
seen_finished (Out bytes ∷ xs) = seen_finished xs
seen_finished (Throw bytes ∷ xs) = seen_finished xs
seen_finished (Answer e ∷ xs) = refl
seen_finished (Stuck ∷ xs) = seen_finished xs
seen_finished (Deep ∷ xs) = seen_finished xs

seen_error : (xs : Items) → error xs ≡ error (visible xs)
seen_error [] = refl
seen_error (Turn b h v ∷ xs) = seen_error xs
seen_error (Call b p q r ∷ xs) = seen_error xs
seen_error (Exit b ∷ xs) = seen_error xs
seen_error (Redo b ∷ xs) = seen_error xs
seen_error (Fail b ∷ xs) = seen_error xs
seen_error (Excp b ∷ xs) = seen_error xs
seen_error (Alloc b n ∷ xs) = seen_error xs
seen_error (Out bytes ∷ xs) = seen_error xs
seen_error (Throw bytes ∷ xs) = refl
seen_error (Answer e ∷ xs) = seen_error xs
seen_error (Stuck ∷ xs) = seen_error xs
seen_error (Deep ∷ xs) = seen_error xs

pub seen_alike : (xs ys : Items) → visible xs ≡ visible ys → (events xs ≡ events ys) × (output xs ≡ output ys) × (is_finished xs ≡ is_finished ys) × (error xs ≡ error ys)
seen_alike xs ys same = (
  seen_events xs ∙ (ap events same ∙ sym (seen_events ys)),
  seen_output xs ∙ (ap output same ∙ sym (seen_output ys)),
  seen_finished xs ∙ (ap is_finished same ∙ sym (seen_finished ys)),
  seen_error xs ∙ (ap error same ∙ sym (seen_error ys)),
)

-- ---- turns that are charged together

cut_seen : (left : ℕ) (x : Item) (xs : Items) → IsSeen x → cut left (x ∷ xs) ≡ x ∷ cut left xs
cut_seen left (Turn a g w) xs seen = absurd seen
cut_seen left (Call a p q r) xs seen = refl
cut_seen left (Exit a) xs seen = refl
cut_seen left (Redo a) xs seen = refl
cut_seen left (Fail a) xs seen = refl
cut_seen left (Excp a) xs seen = refl
cut_seen left (Alloc a n) xs seen = refl
cut_seen left (Out bytes) xs seen = refl
cut_seen left (Throw bytes) xs seen = refl
cut_seen left (Answer e) xs seen = refl
cut_seen left Stuck xs seen = refl
cut_seen left Deep xs seen = refl

visible_seen : (x : Item) (xs : Items) → IsSeen x → visible (x ∷ xs) ≡ x ∷ visible xs
visible_seen (Turn a g w) xs seen = absurd seen
visible_seen (Call a p q r) xs seen = refl
visible_seen (Exit a) xs seen = refl
visible_seen (Redo a) xs seen = refl
visible_seen (Fail a) xs seen = refl
visible_seen (Excp a) xs seen = refl
visible_seen (Alloc a n) xs seen = refl
visible_seen (Out bytes) xs seen = refl
visible_seen (Throw bytes) xs seen = refl
visible_seen (Answer e) xs seen = refl
visible_seen Stuck xs seen = refl
visible_seen Deep xs seen = refl

-- at most or more
at_most_or_more : {C : Type 0} (m n : ℕ) → (m ≤ n → C) → (n < m → C) → C
at_most_or_more {C} m n at_most more = by_test (nat_le m n) refl
  where
    by_test : (b : Bool) → nat_le m n ≡ b → C
    by_test true is = at_most (leb-true m n is)
    by_test false is = more (leb-false m n is)

-- within a budget what is seen is the same, while p is pending
record SeenAlike (p left : ℕ) (xs ys : Items) : Type 0 where
  within : p ≤ left → visible (cut (left - p) xs) ≡ visible (cut left ys)
  past : left < p → visible (cut left ys) ≡ []

seen_turn : (left a : ℕ) (g : Option ℕ) (w : ℕ) (xs : Items) → w ≤ left → visible (cut left (Turn a g w ∷ xs)) ≡ visible (cut (left - w) xs)
seen_turn left a g w xs le = ap visible (cut_allowed left a g w xs le)

unseen_turn : (left a : ℕ) (g : Option ℕ) (w : ℕ) (xs : Items) → left < w → visible (cut left (Turn a g w ∷ xs)) ≡ []
unseen_turn left a g w xs lt = ap visible (cut_refused left a g w xs lt)

deferred : (p a : ℕ) (g : Option ℕ) (w : ℕ) (xs ys : Items) (left : ℕ) → SeenAlike (p + w) left xs ys → SeenAlike p left (Turn a g w ∷ xs) ys
deferred p a g w xs ys left more = record {
  within = λ le. at_most_or_more w (left - p)
      (λ fits. seen_turn (left - p) a g w xs fits ∙ (ap (λ n. visible (cut n xs)) (omega (arith, le, fits)) ∙ more.within (omega (arith, le, fits))))
      (λ over. unseen_turn (left - p) a g w xs over ∙ sym (more.past (omega (arith, le, over))));
  past = λ lt. more.past (omega (arith, lt));
}

charged_now : (p a : ℕ) (g : Option ℕ) (w c : ℕ) (h : Option ℕ) (xs ys : Items) (left : ℕ) → SeenAlike 0 (left - (p + w)) xs ys → SeenAlike p left (Turn a g w ∷ xs) (Turn c h (p + w) ∷ ys)
charged_now p a g w c h xs ys left more = record {
  within = λ le. at_most_or_more w (left - p)
      (λ fits. seen_turn (left - p) a g w xs fits
      ∙ (ap (λ n. visible (cut n xs)) (omega (arith, le, fits))
      ∙ (more.within (omega arith)
      ∙ sym (seen_turn left c h (p + w) ys (omega (arith, le, fits))))))
      (λ over. unseen_turn (left - p) a g w xs over ∙ sym (unseen_turn left c h (p + w) ys (omega (arith, le, over))));
  past = λ lt. unseen_turn left c h (p + w) ys (omega (arith, lt));
}

shown_now : (x : Item) (xs ys : Items) (left : ℕ) → IsSeen x → SeenAlike 0 left xs ys → SeenAlike 0 left (x ∷ xs) (x ∷ ys)
shown_now x xs ys left seen more = record {
  within = λ le. ap visible (cut_seen (left - 0) x xs seen)
      ∙ (visible_seen x (cut (left - 0) xs) seen ∙ (ap (λ zs. x ∷ zs) (more.within le) ∙ (sym (visible_seen x (cut left ys) seen) ∙ sym (ap visible (cut_seen left x ys seen)))));
  past = λ lt. absurd (omega (arith, lt));
}

folds_seen : {p : ℕ} {xs ys : Items} → Folds p xs ys → (left : ℕ) → SeenAlike p left xs ys
folds_seen (folds_end p) left = record { within = λ le. refl; past = λ lt. refl }
folds_seen (defers p a g w xs ys more) left = deferred p a g w xs ys left (folds_seen more left)
folds_seen (charges p a g w c h xs ys more) left = charged_now p a g w c h xs ys left (folds_seen more (left - (p + w)))
folds_seen (shows x xs ys seen more) left = shown_now x xs ys left seen (folds_seen more left)

pub folds_alike : (xs ys : Items) → Folds 0 xs ys → (left : ℕ) → visible (cut left xs) ≡ visible (cut left ys)
folds_alike xs ys folds left = ap (λ n. visible (cut n xs)) (omega arith) ∙ (folds_seen folds left).within (omega arith)

-- ---- what is pending

pub nothing_pends : {s : Hlds} {b left : ℕ} {done : Items} {st : State} → StandsIn s b left done st → Pends s b left 0 done st
nothing_pends {s} {b} {left} {done} {st} stands = record {
  stands = λ le. subst (λ (n : ℕ). StandsIn s b n done st) (omega arith) stands;
  over = λ lt. absurd (omega (arith, lt));
}

-- a turn that is seen at once
turned_now : {s : Hlds} {b left p : ℕ} {done : Items} {st there : State} {a g w : ℕ} {items : Items} → Pends s b left p done st → Unfolds s st a g (Turns w items there) → p + w ≤ left
    → StandsIn s b (left - (p + w)) (done ++ (Turn a (Some g) w ∷ items)) there
turned_now {s} {b} {left} {p} {done} {st} {there} {a} {g} {w} {items} pends by le =
    subst (λ (n : ℕ). StandsIn s b n (done ++ (Turn a (Some g) w ∷ items)) there) (omega (arith, le)) ((unfolds_there by (pends.stands (omega (arith, le)))).0 (omega (arith, le)))

turned_over : {s : Hlds} {b left p : ℕ} {done : Items} {st there : State} {a g w : ℕ} {items : Items} → Pends s b left p done st → Unfolds s st a g (Turns w items there) → left < p + w → visible (run s b) ≡ visible done
turned_over {left = left} {p = p} {w = w} pends by lt = at_most_or_more p left
    (λ fits. ap visible ((unfolds_there by (pends.stands fits)).1 (omega (arith, lt, fits))))
    (λ over. pends.over over)

pub silent_turn : {s : Hlds} {b left p : ℕ} {done : Items} {st there : State} {a g w : ℕ} → Pends s b left p done st → Unfolds s st a g (Turns w [] there) → Pends s b left (p + w) (done ++ (Turn a (Some g) w ∷ [])) there
silent_turn {done = done} {a = a} {g = g} {w = w} pends by = record { stands = λ le. turned_now pends by le; over = λ lt. turned_over pends by lt ∙ sym (turn_unseen done a (Some g) w) }

pub silent_steps : {s : Hlds} {b left p : ℕ} {done : Items} {st there : State} → Pends s b left p done st → Moves st [] there → Pends s b left p done there
silent_steps {s} {b} {left} {p} {done} {st} {there} pends by = record {
  stands = λ le. subst (λ (xs : Items). StandsIn s b (left - p) xs there) (append-nil done) (moves_in by done (pends.stands le));
  over = pends.over;
}

-- ---- the machine in place, with what is pending

pub nothing_is_pending : {s : Hlds} {lv : Leaves} {b left : ℕ} {done : Items} {S : Store} {d : Doing} {cs : List Choice} {k : ℕ} → InRun s lv b left done S d cs k → PendRun s lv b left 0 done S d cs k
nothing_is_pending r = record { st = r.st; pends = nothing_pends r.stands; is = r.is }

pub turns_silently : {s : Hlds} {lv : Leaves} {b left p : ℕ} {done : Items} {a g weight : ℕ} {S T : Store} {d e : Doing} {cs ds : List Choice} {k m : ℕ} → (r : PendRun s lv b left p done S d cs k)
    → TurnsTo s lv r.st a g weight [] T e ds m → PendRun s lv b left (p + weight) (done ++ (Turn a (Some g) weight ∷ [])) T e ds m
turns_silently r to = record { st = to.there; pends = silent_turn r.pends to.by; is = to.is }

pub moves_silently : {s : Hlds} {lv : Leaves} {b left p : ℕ} {done : Items} {S T : Store} {d e : Doing} {cs ds : List Choice} {k m : ℕ} → (r : PendRun s lv b left p done S d cs k)
    → MovesTo lv r.st [] T e ds m → PendRun s lv b left p done T e ds m
moves_silently r to = record { st = to.there; pends = silent_steps r.pends to.by; is = to.is }

pub turns_charged : {s : Hlds} {lv : Leaves} {b left p : ℕ} {done : Items} {a g weight : ℕ} {items : Items} {S T : Store} {d e : Doing} {cs ds : List Choice} {k m : ℕ} → (r : PendRun s lv b left p done S d cs k)
    → TurnsTo s lv r.st a g weight items T e ds m → TurnsCharged s lv b left p done a g weight items T e ds m
turns_charged r to = record { fits = λ le. record { st = to.there; stands = turned_now r.pends to.by le; is = to.is }; over = λ lt. turned_over r.pends to.by lt }

pub charged : {s : Hlds} {lv : Leaves} {b left p : ℕ} {done : Items} {S : Store} {d : Doing} {cs : List Choice} {k : ℕ} → p ≤ left → PendRun s lv b left p done S d cs k → InRun s lv b (left - p) done S d cs k
charged le r = record { st = r.st; stands = r.pends.stands le; is = r.is }

pub refused : {s : Hlds} {lv : Leaves} {b left p : ℕ} {done : Items} {S : Store} {d : Doing} {cs : List Choice} {k : ℕ} → left < p → PendRun s lv b left p done S d cs k → visible (run s b) ≡ visible done
refused lt r = r.pends.over lt

pub moves_charged : {s : Hlds} {lv : Leaves} {b left p : ℕ} {done items : Items} {S T : Store} {d e : Doing} {cs ds : List Choice} {k m : ℕ} → (r : PendRun s lv b left p done S d cs k) → p ≤ left → MovesTo lv r.st items T e ds m
    → InRun s lv b (left - p) (done ++ items) T e ds m
moves_charged {done = done} r le to = record { st = to.there; stands = moves_in to.by done (r.pends.stands le); is = to.is }

pub stops_charged : {s : Hlds} {lv : Leaves} {b left p : ℕ} {done items : Items} {S : Store} {d : Doing} {cs : List Choice} {k : ℕ} → (r : PendRun s lv b left p done S d cs k) → p ≤ left → Stops r.st items → run s b ≡ done ++ items
stops_charged r le ends = stops_in ends (r.pends.stands le)
