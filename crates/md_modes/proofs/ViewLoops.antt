-- Views of variables, one variable after the other.
use Rattle.std.proofs.Common.{◌≡◌, refl, sym, ap, ◌∙◌, arith, append_assoc, append-nil, add-one, ℕ, zero, suc, ◌+◌, ◌<◌, ◌≤◌, Bool, true, false, cond, ◌||◌, List, [], ◌∷◌, ◌++◌, length, drop, slice_index}
use Rattle.md_inst.specs.declared.inst.Inst.{Inst}
use Rattle.md_inst.specs.Instantiation.{Instantiation, InstMap, known_at, put, is_newly_bound}
use Rattle.md_inst.specs.Kinds.{instantiation_of, inst_map_of}
use Rattle.md_inst.proofs.Insts.{inst_map_of-append}
use Rattle.md_modes.specs.Notes.{is_state}
use Rattle.md_modes.specs.Views.{seen, put_all, picked, some_state}

seen-more : (xs : List ℕ) (i : ℕ) (s : InstMap) → i < length xs → seen (drop i xs) s ≡ known_at s (slice_index xs i) ∷ seen (drop (suc i) xs) s
seen-more [] i s lt = absurd (omega (arith, lt))
seen-more (x ∷ xs) zero s lt = refl
seen-more (x ∷ xs) (suc i) s lt = seen-more xs i s (omega (arith, lt))

pub seen-loop : (view more : List Inst) (m : Inst) (xs : List ℕ) (i x : ℕ) (s whole : InstMap) → i < length xs → x ≡ slice_index xs i
    → instantiation_of m ≡ known_at s x → more ≡ view ++ m ∷ [] → inst_map_of view ++ seen (drop i xs) s ≡ whole → inst_map_of more ++ seen (drop (i + 1) xs) s ≡ whole
seen-loop view more m xs i x s whole lt is marked is_more so_far =
    rw (is_more, add-one, inst_map_of-append, marked, is)
    (append_assoc (inst_map_of view) (known_at s (slice_index xs i) ∷ []) (seen (drop (suc i) xs) s) ∙ (ap (λ ks. inst_map_of view ++ ks) (sym (seen-more xs i s lt)) ∙ so_far))

drop-past : {A : Type 0} (xs : List A) (i : ℕ) → length xs ≤ i → drop i xs ≡ []
drop-past [] zero le = refl
drop-past [] (suc i) le = refl
drop-past (x ∷ xs) zero le = absurd (omega (arith, le))
drop-past (x ∷ xs) (suc i) le = drop-past xs i (omega (arith, le))

pub seen-end : (view : List Inst) (xs : List ℕ) (i : ℕ) (s whole : InstMap) → length xs ≤ i → inst_map_of view ++ seen (drop i xs) s ≡ whole → inst_map_of view ≡ whole
seen-end view xs i s whole le so_far = sym (append-nil (inst_map_of view)) ∙ (sym (ap (λ ys. inst_map_of view ++ seen ys s) (drop-past xs i le)) ∙ so_far)

-- one variable more is put
put-more : (xs : List ℕ) (ks : InstMap) (i : ℕ) (s : InstMap) → i < length xs → i < length ks
    → put_all (drop i xs) (drop i ks) s ≡ put_all (drop (suc i) xs) (drop (suc i) ks) (put s (slice_index xs i) (known_at ks i))
put-more [] ks i s lt inside = absurd (omega (arith, lt))
put-more (x ∷ xs) [] i s lt inside = absurd (omega (arith, inside))
put-more (x ∷ xs) (k ∷ ks) zero s lt inside = refl
put-more (x ∷ xs) (k ∷ ks) (suc i) s lt inside = put-more xs ks i s (omega (arith, lt)) (omega (arith, inside))

pub put-loop : (xs : List ℕ) (ks : InstMap) (i x : ℕ) (k : Instantiation) (s r whole : InstMap) → i < length xs → i < length ks → x ≡ slice_index xs i → k ≡ known_at ks i
    → r ≡ put s x k → put_all (drop i xs) (drop i ks) s ≡ whole → put_all (drop (i + 1) xs) (drop (i + 1) ks) r ≡ whole
put-loop xs ks i x k s r whole lt inside is_x is_k is_r so_far = rw (is_r, is_x, is_k, add-one) (sym (put-more xs ks i s lt inside) ∙ so_far)

put_all-none : (xs : List ℕ) (s : InstMap) → put_all xs [] s ≡ s
put_all-none [] s = refl
put_all-none (x ∷ xs) s = refl

-- past the end of the view nothing is put
pub put-skip : (xs : List ℕ) (ks : InstMap) (i : ℕ) (s whole : InstMap) → length ks ≤ i → put_all (drop i xs) (drop i ks) s ≡ whole
    → put_all (drop (i + 1) xs) (drop (i + 1) ks) s ≡ whole
put-skip xs ks i s whole le so_far =
    let now : put_all (drop i xs) (drop i ks) s ≡ s = rw (drop-past ks i le) (put_all-none (drop i xs) s) in
    let next : put_all (drop (i + 1) xs) (drop (i + 1) ks) s ≡ s = rw (drop-past ks (i + 1) (omega (arith, le))) (put_all-none (drop (i + 1) xs) s) in
    next ∙ (sym now ∙ so_far)

pub put-end : (xs : List ℕ) (ks : InstMap) (i : ℕ) (s whole : InstMap) → length xs ≤ i → put_all (drop i xs) (drop i ks) s ≡ whole → s ≡ whole
put-end xs ks i s whole le so_far = sym (ap (λ ys. put_all ys (drop i ks) s) (drop-past xs i le)) ∙ so_far

-- ---- variables that are newly bound

picked-here : (b : Bool) (x : ℕ) (xs : List ℕ) → cond b (x ∷ xs) xs ≡ cond b (x ∷ []) [] ++ xs
picked-here true x xs = refl
picked-here false x xs = refl

picked-more : (xs : List ℕ) (s r : InstMap) (i : ℕ) → i < length xs → length s ≡ length xs → length r ≡ length xs
    → picked (drop i xs) (drop i s) (drop i r)
    ≡ cond (is_newly_bound (known_at s i) (known_at r i)) (slice_index xs i ∷ []) [] ++ picked (drop (suc i) xs) (drop (suc i) s) (drop (suc i) r)
picked-more [] s r i lt e f = absurd (omega (arith, lt))
picked-more (x ∷ xs) [] r i lt e f = absurd (omega (arith, e))
picked-more (x ∷ xs) (k ∷ s) [] i lt e f = absurd (omega (arith, f))
picked-more (x ∷ xs) (k ∷ s) (j ∷ r) zero lt e f = picked-here (is_newly_bound k j) x (picked xs s r)
picked-more (x ∷ xs) (k ∷ s) (j ∷ r) (suc i) lt e f = picked-more xs s r i (omega (arith, lt)) (omega (arith, e)) (omega (arith, f))

pub picked-loop : (bound more whole xs : List ℕ) (s r : InstMap) (i : ℕ) → i < length xs → length s ≡ length xs → length r ≡ length xs
    → more ≡ bound ++ cond (is_newly_bound (known_at s i) (known_at r i)) (slice_index xs i ∷ []) []
    → bound ++ picked (drop i xs) (drop i s) (drop i r) ≡ whole → more ++ picked (drop (i + 1) xs) (drop (i + 1) s) (drop (i + 1) r) ≡ whole
picked-loop bound more whole xs s r i lt e f is_more so_far =
    rw (is_more, add-one)
    (append_assoc bound (cond (is_newly_bound (known_at s i) (known_at r i)) (slice_index xs i ∷ []) []) (picked (drop (suc i) xs) (drop (suc i) s) (drop (suc i) r))
    ∙ (ap (λ ys. bound ++ ys) (sym (picked-more xs s r i lt e f)) ∙ so_far))

pub picked-end : (bound whole xs : List ℕ) (s r : InstMap) (i : ℕ) → length xs ≤ i → bound ++ picked (drop i xs) (drop i s) (drop i r) ≡ whole → bound ≡ whole
picked-end bound whole xs s r i le so_far =
    sym (append-nil bound) ∙ (sym (ap (λ ys. bound ++ picked ys (drop i s) (drop i r)) (drop-past xs i le)) ∙ so_far)

-- ---- io states

state-more : (s r : InstMap) (i : ℕ) → i < length s → length r ≡ length s
    → some_state (drop i s) (drop i r) ≡ ((is_state (known_at s i) || is_state (known_at r i)) || some_state (drop (suc i) s) (drop (suc i) r))
state-more [] r i lt e = absurd (omega (arith, lt))
state-more (k ∷ s) [] i lt e = absurd (omega (arith, e))
state-more (k ∷ s) (j ∷ r) zero lt e = refl
state-more (k ∷ s) (j ∷ r) (suc i) lt e = state-more s r i (omega (arith, lt)) (omega (arith, e))

pub state-found : (s r : InstMap) (i : ℕ) → i < length s → length r ≡ length s → (is_state (known_at s i) || is_state (known_at r i)) ≡ true
    → some_state s r ≡ some_state (drop i s) (drop i r) → true ≡ some_state s r
state-found s r i lt e hit so_far = sym (so_far ∙ (state-more s r i lt e ∙ ap (λ b. b || some_state (drop (suc i) s) (drop (suc i) r)) hit))

pub state-missed : (s r : InstMap) (i : ℕ) → i < length s → length r ≡ length s → (is_state (known_at s i) || is_state (known_at r i)) ≡ false
    → some_state s r ≡ some_state (drop i s) (drop i r) → some_state s r ≡ some_state (drop (i + 1) s) (drop (i + 1) r)
state-missed s r i lt e miss so_far =
    so_far ∙ (state-more s r i lt e ∙ (ap (λ b. b || some_state (drop (suc i) s) (drop (suc i) r)) miss ∙ rw add-one refl))

pub state-end : (s r : InstMap) (i : ℕ) → length s ≤ i → some_state s r ≡ some_state (drop i s) (drop i r) → false ≡ some_state s r
state-end s r i le so_far = sym (so_far ∙ ap (λ ks. some_state ks (drop i r)) (drop-past s i le))
