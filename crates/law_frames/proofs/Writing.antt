-- A simple goal writes the slots of variables that had no value.
use Rattle.std.proofs.Common.{◌≡◌, ap, sym, ◌∙◌, ℕ, true, List, [], ◌∷◌, None}
use Rattle.md_hlds.specs.HldsGoal.{HldsGoal}
use Rattle.md_hlds.specs.Value.{Value, Env, value_at, bound}
use Rattle.law_frames.specs.Ways.{Mentions}
use Rattle.law_frames.specs.Stores.{Store, slot, Perm, Same, with_value, with_values, bind_all, AreFresh, AreMentioned}
use Rattle.law_frames.proofs.Leave.{same_refl, same_trans}
use Rattle.law_frames.proofs.Cells.{value_here, value_elsewhere, value_same, bound_none, bound_same, bound_other, same_or_not}
use Rattle.law_frames.proofs.Sealing.{Shows}

pub bind_none : (bs : List (ℕ × Value)) (e : Env) (y : ℕ) → value_at (bind_all bs e) y ≡ None → value_at e y ≡ None
bind_none [] e y is = is
bind_none (b ∷ bs) e y is = bound_none e b.0 b.1 y (bind_none bs (bound e b.0 b.1) y is)

-- one slot is written as its variable gets the value
pub shows_bound : (R : ℕ → Type 0) (S : Store) (i : ℕ) (e : Env) (x : ℕ) (v : Value) → Shows R S i e → Shows R (with_value S i x v) i (bound e x v)
shows_bound R S i e x v shows y u reads is = same_or_not y x
    (λ same. ap (λ z. (with_value S i x v).values i z) same ∙ (value_here S i x v ∙ bound_same e x v u (sym (ap (value_at (bound e x v)) same) ∙ is)))
    (λ other. value_elsewhere S i x v i y (λ frame cell. other cell) ∙ shows y u reads (sym (bound_other e x v y other) ∙ is))

pub shows_written : (R : ℕ → Type 0) (bs : List (ℕ × Value)) (S : Store) (i : ℕ) (e : Env) → Shows R S i e → Shows R (with_values bs S i) i (bind_all bs e)
shows_written R [] S i e shows = shows
shows_written R (b ∷ bs) S i e shows = shows_written R bs (with_value S i b.0 b.1) i (bound e b.0 b.1) (shows_bound R S i e b.0 b.1 shows)

-- the slots that are written are open
pub written_same : (W : Perm) (g : HldsGoal) (bs : List (ℕ × Value)) (S : Store) (i : ℕ) (e : Env) → AreFresh bs e → AreMentioned bs g → ((y : ℕ) → Mentions g y → value_at e y ≡ None → W i (slot y) ≡ true)
    → Same W S (with_values bs S i)
written_same W g [] S i e fresh mentioned free = same_refl
written_same W g (b ∷ bs) S i e fresh mentioned free =
    same_trans (value_same W S i b.0 b.1 (free b.0 mentioned.0 fresh.0))
    (written_same W g bs (with_value S i b.0 b.1) i (bound e b.0 b.1) fresh.1 mentioned.1 (λ y m none. free y m (bound_none e b.0 b.1 y none)))
