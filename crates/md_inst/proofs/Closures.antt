-- Closures: types and modes apart and in one list, and the arguments that a closure holds.
use Rattle.std.proofs.Common.{◌≡◌, refl, ap, ℕ, suc, ◌<◌, Bool, false, List, [], ◌∷◌, length, take, drop, Result}
use Rattle.std.proofs.lemmas.Bool.{lt-ltb}
use Rattle.md_hlds.specs.declared.types.Mode.{Mode}
use Rattle.md_hlds.specs.declared.types.Det.{Det}
use Rattle.md_hlds.specs.Hlds.{HldsType, closure, gathered_types, Procedure}
use Rattle.md_hlds.proofs.Bridge.{listed_types-gathered}
use Rattle.md_inst.specs.declared.fault.ModeFault.{ModeFault}
use Rattle.md_inst.specs.Instantiation.{Instantiation, free, has, InstMap, known_at, is_bound}
use Rattle.md_inst.specs.Simple.{types_of, modes_of, left_open, pairs, apply_pairs, apply_sort, call_with, capture, close, close_known}
use Rattle.md_inst.specs.Kinds.{Leads}

pub applied_closure : (r : Result (Unit {0}) ModeFault) (k : InstMap) (strict : Bool) (l : ℕ) (ys : List ℕ) (ts : List HldsType) (ms : List Mode) (d : Det) (s : InstMap)
    → Leads r k (apply_pairs strict l ys ts ms s) → Leads r k (apply_sort strict l ys (closure (gathered_types ts) ms d) s)
applied_closure r k strict l ys ts ms d s h = rw listed_types-gathered h

pairs_again : (args : List (HldsType × Mode)) → pairs (types_of args) (modes_of args) ≡ args
pairs_again [] = refl
pairs_again (a ∷ args) = ap (λ as'. a ∷ as') (pairs_again args)

length_types_of : (args : List (HldsType × Mode)) → length (types_of args) ≡ length args
length_types_of [] = refl
length_types_of (a ∷ args) = ap suc (length_types_of args)

pub applied_open : (r : Result (Unit {0}) ModeFault) (k : InstMap) (strict : Bool) (l : ℕ) (ys : List ℕ) (args : List (HldsType × Mode)) (d : Det) (s : InstMap)
    → Leads r k (call_with strict l ys args s) → Leads r k (apply_sort strict l ys (left_open args d) s)
applied_open r k strict l ys args d s h = rw (listed_types-gathered, pairs_again, length_types_of) h

closed_known : (r : Result (Unit {0}) ModeFault) (k : InstMap) (l x : ℕ) (q : Procedure) (ys : List ℕ) (j : Instantiation) (s : InstMap)
    → is_bound j ≡ false → Leads r k (capture l x (take (length ys) q.args) (drop (length ys) q.args) q.det ys s) → Leads r k (close_known l x q ys j s)
closed_known r k l x q ys free s e h = h
closed_known r k l x q ys (has t used) s e h = absurd (cc)

pub closed : (r : Result (Unit {0}) ModeFault) (k : InstMap) (l x : ℕ) (q : Procedure) (ys : List ℕ) (s : InstMap)
    → length ys < length q.args → is_bound (known_at s x) ≡ false
    → Leads r k (capture l x (take (length ys) q.args) (drop (length ys) q.args) q.det ys s) → Leads r k (close l x q ys s)
closed r k l x q ys s lt e h = rw (lt-ltb (length ys) (length q.args) lt) (closed_known r k l x q ys (known_at s x) s e h)
