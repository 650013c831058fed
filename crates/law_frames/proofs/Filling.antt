-- One way to write the frame of a call, and that it is one.
use Rattle.std.proofs.Common.{Some, ◌≤◌, ◌≡◌, refl, ap, sym, ◌∙◌, subst, arith, ℕ, zero, suc, ◌<◌, Bool, true, false, cond, nat_eq, List, [], ◌∷◌, length, Option, None, inl, inr}
use Rattle.std.proofs.lemmas.Bool.{eq-eqb, eqb-true}
use Rattle.md_hlds.specs.Hlds.{Procedure}
use Rattle.md_hlds.specs.Value.{Value, Env, value_at, bound, blank}
use Rattle.md_hlds.specs.Trace.{back_value, passed, given, entered, pairs_of, without}
use Rattle.law_frames.specs.Ways.{IsAmong}
use Rattle.law_frames.specs.Stores.{Act, Store, with_value, with_values, with_height, copy_all, bind_all, at_place}
use Rattle.law_frames.specs.Calls.{NewFrame, AgreeBelow, with_frame, with_act, captured, PassesIn, none_in, passed_in, held_back, copy_in, frame_written}
use Rattle.law_frames.proofs.Cells.{value_elsewhere, height_here, not_none, same_frame}
use Rattle.law_frames.proofs.Sealing.{Shows}
use Rattle.law_frames.proofs.Writing.{shows_bound, shows_written}

abbrev Any : ℕ → Type 0
Any y = Unit {0}

-- ---- the callee's slots

blank_none : (n y : ℕ) → value_at (blank n) y ≡ None
blank_none zero y = refl
blank_none (suc n) zero = refl
blank_none (suc n) (suc y) = blank_none n y

blank_shows : (S : Store) (i n : ℕ) → Shows Any S i (blank n)
blank_shows S i n y v any is = absurd (not_none v (sym is ∙ blank_none n y))

given_bound : (vs : List Value) (hs : List ℕ) (e : Env) → given vs hs e ≡ bind_all (captured vs hs) e
given_bound [] [] e = refl
given_bound [] (h ∷ hs) e = refl
given_bound (v ∷ vs) [] e = refl
given_bound (v ∷ vs) (h ∷ hs) e = given_bound vs hs (bound e h v)

-- what the caller's slots show is still shown
caller_same : (S : Store) (i j y : ℕ) (v : Value) (R : ℕ → Type 0) (e : Env) → (i ≡ j → ⊥) → Shows R S i e → Shows R (with_value S j y v) i e
caller_same S i j y v R e apart shows h u among is = value_elsewhere S j y v i h (λ frame cell. apart frame) ∙ shows h u among is

callers_same : (bs : List (ℕ × Value)) (S : Store) (i j : ℕ) (R : ℕ → Type 0) (e : Env) → (i ≡ j → ⊥) → Shows R S i e → Shows R (with_values bs S j) i e
callers_same [] S i j R e apart shows = shows
callers_same (b ∷ bs) S i j R e apart shows = callers_same bs (with_value S j b.0 b.1) i j R e apart (caller_same S i j b.0 b.1 R e apart shows)

-- the variables of the caller in these pairs
abbrev pub seconds : List (ℕ × ℕ) → List ℕ
seconds [] = []
seconds (p ∷ ps) = p.1 ∷ seconds ps

shows_passed : (i j : ℕ) (c : Env) → (i ≡ j → ⊥) → {ps ins : List (ℕ × ℕ)} → PassesIn c ps ins → (S : Store) (e : Env) → Shows (λ y. IsAmong y (seconds ps)) S i c → Shows Any S j e
    → Shows Any (copy_in ins S i j) j (passed ps c e)
shows_passed i j c apart none_in S e caller shows = shows
shows_passed i j c apart (passed_in p ps ins v is more) S e caller shows =
    let T : Store = with_value S j p.0 (S.values i p.1) in
    let there : Shows Any T j (back_value p.0 None (value_at c p.1) e)
    = subst (λ (o : Option Value). Shows Any T j (back_value p.0 None o e)) (sym is)
    (subst (λ (u : Value). Shows Any (with_value S j p.0 u) j (bound e p.0 v)) (sym (caller p.1 v (inl refl) is)) (shows_bound Any S j e p.0 v shows)) in
    shows_passed i j c apart more T (back_value p.0 None (value_at c p.1) e)
    (caller_same S i j p.0 (S.values i p.1) (λ y. IsAmong y (seconds ps)) c apart (λ y u among is. caller y u (inr among) is)) there
shows_passed i j c apart (held_back p ps ins none more) S e caller shows =
    subst (λ (o : Option Value). Shows Any (copy_in ins S i j) j (passed ps c (back_value p.0 None o e))) (sym none)
    (shows_passed i j c apart more S e (λ y u among is. caller y u (inr among) is) shows)

-- ---- the frames below

other_frame : {C : Type 0} (b : Bool) (u v : C) → (b ≡ true → ⊥) → cond b u v ≡ v
other_frame true u v other = absurd (other refl)
other_frame false u v other = refl

pub written_below : (bs : List (ℕ × Value)) (S : Store) (i j y : ℕ) → (j ≡ i → ⊥) → (with_values bs S i).values j y ≡ S.values j y
written_below [] S i j y other = refl
written_below (b ∷ bs) S i j y other = written_below bs (with_value S i b.0 b.1) i j y other ∙ value_elsewhere S i b.0 b.1 j y (λ frame cell. other frame)

copied_below : (ins : List (ℕ × ℕ)) (S : Store) (from i j y : ℕ) → (j ≡ i → ⊥) → (copy_in ins S from i).values j y ≡ S.values j y
copied_below [] S from i j y other = refl
copied_below (p ∷ ps) S from i j y other = copied_below ps (with_value S i p.0 (S.values from p.1)) from i j y other ∙ value_elsewhere S i p.0 (S.values from p.1) j y (λ frame cell. other frame)

pub written_heights : (bs : List (ℕ × Value)) (S : Store) (i j n : ℕ) → (with_values bs S i).heights j n ≡ S.heights j n
written_heights [] S i j n = refl
written_heights (b ∷ bs) S i j n = written_heights bs (with_value S i b.0 b.1) i j n

copied_heights : (ins : List (ℕ × ℕ)) (S : Store) (from i j n : ℕ) → (copy_in ins S from i).heights j n ≡ S.heights j n
copied_heights [] S from i j n = refl
copied_heights (p ∷ ps) S from i j n = copied_heights ps (with_value S i p.0 (S.values from p.1)) from i j n

pub written_acts : (bs : List (ℕ × Value)) (S : Store) (i j : ℕ) → (with_values bs S i).acts j ≡ S.acts j
written_acts [] S i j = refl
written_acts (b ∷ bs) S i j = written_acts bs (with_value S i b.0 b.1) i j

copied_acts : (ins : List (ℕ × ℕ)) (S : Store) (from i j : ℕ) → (copy_in ins S from i).acts j ≡ S.acts j
copied_acts [] S from i j = refl
copied_acts (p ∷ ps) S from i j = copied_acts ps (with_value S i p.0 (S.values from p.1)) from i j

height_elsewhere : (S : Store) (i j n m h : ℕ) → (j ≡ i → ⊥) → (with_height S i m h).heights j n ≡ S.heights j n
height_elsewhere S i j n m h other = other_frame (at_place i m j n) h (S.heights j n) (λ is. other (same_frame i m j n is))

-- ---- the frame

pub frame_filled : (S : Store) (x z : Act) (i h : ℕ) (q : Procedure) (vs : List Value) (ys : List ℕ) (ins : List (ℕ × ℕ)) (e : Env) → x.index < i → z.index ≡ i → PassesIn e (pairs_of (without vs q.head) ys) ins
    → Shows (λ y. IsAmong y (seconds (pairs_of (without vs q.head) ys))) S x.index e
    → NewFrame S (frame_written S x.index i z h (captured vs q.head) ins) i z (entered q vs ys e) h
frame_filled S x z i h q vs ys ins e lt is passes caller =
    let held : List (ℕ × Value) = captured vs q.head in
    let T : Store = with_values held S i in
    let V : Store = with_act (copy_in ins T x.index i) i z in
    let apart : x.index ≡ i → ⊥ = λ same. omega (arith, lt, same) in
    record {
      is = is;
      values = λ j y below. (let other : j ≡ i → ⊥ = λ same. omega (arith, below, same) in copied_below ins T x.index i j y other ∙ written_below held S i j y other);
      heights = λ j n below. height_elsewhere V i j n 0 h (λ same. omega (arith, below, same)) ∙ (copied_heights ins T x.index i j n ∙ written_heights held S i j n);
      acts = λ j below. other_frame (nat_eq j i) z ((copy_in ins T x.index i).acts j) (λ eq. (let same = eqb-true j i eq in omega (arith, below, same))) ∙ (copied_acts ins T x.index i j ∙ written_acts held S i j);
      act = ap (λ b. cond b z ((copy_in ins T x.index i).acts i)) (eq-eqb i i refl);
      entered = λ y v has. shows_passed x.index i e apart passes T (given vs q.head (blank (length q.vars))) (callers_same held S x.index i _ e apart caller)
          (subst (Shows Any T i) (sym (given_bound vs q.head (blank (length q.vars)))) (shows_written Any held S i (blank (length q.vars)) (blank_shows S i (length q.vars)))) y v tt has;
      height = height_here V i 0 h;
    }

-- ---- any frame

-- a frame that is replaced is a new one, where it has the values
pub any_frame : (S : Store) (i : ℕ) (slots : ℕ → Value) (heights : ℕ → ℕ) (x : Act) (e : Env) → x.index ≡ i → ((y : ℕ) (v : Value) → value_at e y ≡ Some v → slots y ≡ v) → NewFrame S (with_frame S i slots heights x) i x e (heights 0)
any_frame S i slots heights x e is shown = record {
  is = is;
  values = λ j y below. other_frame (nat_eq j i) (slots y) (S.values j y) (λ eq. (let same = eqb-true j i eq in omega (arith, below, same)));
  heights = λ j n below. other_frame (nat_eq j i) (heights n) (S.heights j n) (λ eq. (let same = eqb-true j i eq in omega (arith, below, same)));
  acts = λ j below. other_frame (nat_eq j i) x (S.acts j) (λ eq. (let same = eqb-true j i eq in omega (arith, below, same)));
  act = ap (λ b. cond b x (S.acts i)) (eq-eqb i i refl);
  entered = λ y v has. ap (λ b. cond b (slots y) (S.values i y)) (eq-eqb i i refl) ∙ shown y v has;
  height = ap (λ b. cond b (heights 0) (S.heights i 0)) (eq-eqb i i refl);
}

-- and where it lies above the others, these are as they were
pub replaced_above : (S : Store) (i : ℕ) (slots : ℕ → Value) (heights : ℕ → ℕ) (x : Act) (n : ℕ) → n ≤ i → AgreeBelow n S (with_frame S i slots heights x)
replaced_above S i slots heights x n le = record {
  values = λ j y below. other_frame (nat_eq j i) (slots y) (S.values j y) (λ eq. (let same = eqb-true j i eq in omega (arith, below, le, same)));
  heights = λ j m below. other_frame (nat_eq j i) (heights m) (S.heights j m) (λ eq. (let same = eqb-true j i eq in omega (arith, below, le, same)));
  acts = λ j below. other_frame (nat_eq j i) x (S.acts j) (λ eq. (let same = eqb-true j i eq in omega (arith, below, le, same)));
}

-- ---- an exit's copies

pub handed_elsewhere : (outs : List (ℕ × ℕ)) (S : Store) (from into j y : ℕ) → (j ≡ into → ⊥) → (copy_all outs S from into).values j y ≡ S.values j y
handed_elsewhere [] S from into j y other = refl
handed_elsewhere (p ∷ ps) S from into j y other =
    handed_elsewhere ps (with_value S into p.1 (S.values from p.0)) from into j y other ∙ value_elsewhere S into p.1 (S.values from p.0) j y (λ frame cell. other frame)

pub handed_heights : (outs : List (ℕ × ℕ)) (S : Store) (from into j n : ℕ) → (copy_all outs S from into).heights j n ≡ S.heights j n
handed_heights [] S from into j n = refl
handed_heights (p ∷ ps) S from into j n = handed_heights ps (with_value S into p.1 (S.values from p.0)) from into j n

pub handed_acts : (outs : List (ℕ × ℕ)) (S : Store) (from into j : ℕ) → (copy_all outs S from into).acts j ≡ S.acts j
handed_acts [] S from into j = refl
handed_acts (p ∷ ps) S from into j = handed_acts ps (with_value S into p.1 (S.values from p.0)) from into j
