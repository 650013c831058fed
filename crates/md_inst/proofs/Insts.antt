-- What the code knows of the variables, place by place.
use Rattle.std.proofs.Common.{◌≡◌, refl, ap, arith, ℕ, zero, suc, ◌<◌, ◌≤◌, List, [], ◌∷◌, ◌++◌, length, get_or, slice_set}
use Rattle.md_inst.specs.declared.inst.Inst.{Inst}
use Rattle.md_inst.specs.Instantiation.{Instantiation, free, InstMap, known_at, put, nothing_known}
use Rattle.md_inst.specs.Kinds.{instantiation_of, inst_map_of}

-- a write past the end does nothing
put-past_end : (s : InstMap) (x : ℕ) (k : Instantiation) → length s ≤ x → s ≡ put s x k
put-past_end [] x k le = refl
put-past_end (j ∷ s) zero k le = absurd (omega (arith, le))
put-past_end (j ∷ s) (suc x) k le = ap (λ r. j ∷ r) (put-past_end s x k (omega (arith, le)))

pub length-inst_map_of : (ms : List Inst) → length (inst_map_of ms) ≡ length ms
length-inst_map_of [] = refl
length-inst_map_of (m ∷ ms) = ap suc (length-inst_map_of ms)

pub inst_map_of-put : (ms : List Inst) (x : ℕ) (m : Inst) → x < length ms → inst_map_of (slice_set ms x m) ≡ put (inst_map_of ms) x (instantiation_of m)
inst_map_of-put [] x m lt = absurd (omega (arith, lt))
inst_map_of-put (n ∷ ms) zero m lt = refl
inst_map_of-put (n ∷ ms) (suc x) m lt = ap (λ s. instantiation_of n ∷ s) (inst_map_of-put ms x m (omega (arith, lt)))

pub put-past : (ms : List Inst) (x : ℕ) (k : Instantiation) → length ms ≤ x → inst_map_of ms ≡ put (inst_map_of ms) x k
put-past ms x k le = put-past_end (inst_map_of ms) x k (omega (arith, le, length-inst_map_of ms))

pub known_at-inst : (ms : List Inst) (x : ℕ) (m : Inst) → x < length ms → m ≡ get_or ms x m → instantiation_of m ≡ known_at (inst_map_of ms) x
known_at-inst [] x m lt is = absurd (omega (arith, lt))
known_at-inst (n ∷ ms) zero m lt is = ap instantiation_of is
known_at-inst (n ∷ ms) (suc x) m lt is = known_at-inst ms x m (omega (arith, lt)) is

pub known_at-past : (ms : List Inst) (x : ℕ) → length ms ≤ x → free ≡ known_at (inst_map_of ms) x
known_at-past [] x le = refl
known_at-past (m ∷ ms) zero le = absurd (omega (arith, le))
known_at-past (m ∷ ms) (suc x) le = known_at-past ms x (omega (arith, le))

pub inst_map_of-append : (ms ns : List Inst) → inst_map_of (ms ++ ns) ≡ inst_map_of ms ++ inst_map_of ns
inst_map_of-append [] ns = refl
inst_map_of-append (m ∷ ms) ns = ap (λ s. instantiation_of m ∷ s) (inst_map_of-append ms ns)

pub nothing_known-more : (n : ℕ) → nothing_known n ++ free ∷ [] ≡ nothing_known (suc n)
nothing_known-more zero = refl
nothing_known-more (suc n) = ap (λ s. free ∷ s) (nothing_known-more n)
