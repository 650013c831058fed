-- Notes of goals, one after the other.
use Rattle.std.proofs.Common.{◌≡◌, refl, slice_get, sym, ap, ◌∙◌, subst, arith, append-nil, append_assoc, length-append, add-one, ℕ, zero, suc, ◌+◌, ◌<◌, List, [], ◌∷◌, ◌++◌, length, drop, get_or, slice_set, Vec, Box, Bool, Some, Result, Ok, Err, IfOk, Bor}
use Rattle.std.specs.declared.alloc.Global.{Global}
use Rattle.md_hlds.specs.declared.goal.Goal.{Goal}
use Rattle.md_hlds.specs.declared.goal.GoalKind.{GoalKind, Conj, Disj, If, Not}
use Rattle.md_hlds.specs.declared.goal.GoalKind.TheVariants as kinds
use Rattle.md_hlds.specs.declared.types.Det.{Det}
use Rattle.md_hlds.specs.declared.types.HoTy.{HoTy}
use Rattle.md_hlds.specs.declared.types.Mode.{Mode}
use Rattle.md_hlds.specs.declared.types.Ty.{Ty, Ho}
use Rattle.md_hlds.specs.HldsGoal.{HldsGoal, gathered, goal_of, goals_of, expr_of}
use Rattle.md_hlds.specs.Hlds.{HldsType, closure, gathered_types, hlds_type_of, hlds_types_of, args_of}
use Rattle.md_hlds.proofs.Bridge.{expr_of-Conj, expr_of-Disj, hlds_type_of-Ho}
use Rattle.md_modes.specs.declared.class.Class.TheVariants as class
use Rattle.md_modes.specs.declared.class.Note as code
use Rattle.md_inst.specs.declared.kind.Kind.{Kind}
use Rattle.md_inst.specs.declared.kind.Kind.TheVariants.{Closure, Open}
use Rattle.md_inst.specs.declared.fault.ModeFault.{ModeFault}
use Rattle.md_inst.specs.Instantiation.{InstMap}
use Rattle.md_inst.specs.Kinds.{kind_sort}
use Rattle.md_inst.specs.Simple.{types_of, modes_of}
use Rattle.md_modes.specs.Branches.{After}
use Rattle.md_modes.specs.Goals.{Scope, within, goal}
use Rattle.md_modes.specs.Notes.{Note, applies, role_of_sort, known_after, notes, inner_notes, each_notes, arm_notes}
use Rattle.md_modes.specs.Classes.{class_told, note_told, notes_told}

pub hlds_types_of-append : (ts us : List Ty) → hlds_types_of (ts ++ us) ≡ hlds_types_of ts ++ hlds_types_of us
hlds_types_of-append [] us = refl
hlds_types_of-append (t ∷ ts) us = ap (λ xs. hlds_type_of t ∷ xs) (hlds_types_of-append ts us)

pub notes_told-append : (ns ms : List code.Note) → notes_told (ns ++ ms) ≡ notes_told ns ++ notes_told ms
notes_told-append [] ms = refl
notes_told-append (n ∷ ns) ms = ap (λ xs. note_told n ∷ xs) (notes_told-append ns ms)

-- the notes within a conjunction, and within a disjunction
pub each_notes_is : (c : Scope) (k : GoalKind) (v : Vec Goal Global) (s : InstMap) → k ≡ Conj v → inner_notes c (expr_of k) s ≡ each_notes c (gathered (goals_of v.items)) s
each_notes_is c k v s is = ap (λ j. inner_notes c (expr_of j) s) is ∙ ap (λ t. inner_notes c t s) (expr_of-Conj v)

pub arm_notes_is : (c : Scope) (k : GoalKind) (v : Vec Goal Global) (s : InstMap) → k ≡ Disj v → inner_notes c (expr_of k) s ≡ arm_notes c (gathered (goals_of v.items)) s
arm_notes_is c k v s is = ap (λ j. inner_notes c (expr_of j) s) is ∙ ap (λ t. inner_notes c t s) (expr_of-Disj v)

pub choice_notes_is : (c : Scope) (k : GoalKind) (p t e : Box Goal Global) (g h j : Goal) (s : InstMap) → k ≡ If p t e → g ≡ p.value → h ≡ t.value → j ≡ e.value
    → inner_notes c (expr_of k) s
    ≡ notes (within c) (goal_of g) s ++ (notes c (goal_of h) (known_after s (goal (within c) (goal_of g) s)) ++ notes c (goal_of j) s)
choice_notes_is c k p t e g h j s is gs hs js = ap (λ i. inner_notes c (expr_of i) s) is ∙ rw (gs, hs, js) refl

-- the notes within a goal that is negated or quantified
pub not_notes_is : (c : Scope) (k : GoalKind) (b : Box Goal Global) (g : Goal) (s : InstMap) → k ≡ Not b → g ≡ b.value → inner_notes c (expr_of k) s ≡ notes (within c) (goal_of g) s
not_notes_is c k b g s is gs = ap (λ i. inner_notes c (expr_of i) s) is ∙ rw gs refl

pub some_notes_is : (c : Scope) (k : GoalKind) (vs : List ℕ) (b : Box Goal Global) (g : Goal) (s : InstMap) → k ≡ kinds.Some vs b → g ≡ b.value
    → inner_notes c (expr_of k) s ≡ notes (within c) (goal_of g) s
some_notes_is c k vs b g s is gs = ap (λ i. inner_notes c (expr_of i) s) is ∙ rw gs refl

pub always : {A : Type 0} (r : Result Bool ModeFault) → A → IfOk r (λ reach. A)
always (Ok reach) a = a
always (Err e) a = tt

pub notes_along : (r : Result Bool ModeFault) (a b xs ys : List Note) → xs ≡ ys → IfOk r (λ reach. b ≡ a ++ ys) → IfOk r (λ reach. b ≡ a ++ xs)
notes_along r a b xs ys e h = subst (λ (zs : List Note). IfOk r (λ reach. b ≡ a ++ zs)) (sym e) h

-- one goal more, of those that are left
pub each_notes-more : (c : Scope) (gs : List Goal) (i : ℕ) (g : Goal) (s : InstMap) → i < length gs → g ≡ get_or gs i g
    → each_notes c (gathered (goals_of (drop i gs))) s
    ≡ notes c (goal_of g) s ++ each_notes c (gathered (goals_of (drop (suc i) gs))) (known_after s (goal c (goal_of g) s))
each_notes-more c [] i g s lt is = absurd (omega (arith, lt))
each_notes-more c (k ∷ gs) zero g s lt is = rw is refl
each_notes-more c (k ∷ gs) (suc i) g s lt is = each_notes-more c gs i g s (omega (arith, lt)) is

pub arm_notes-more : (c : Scope) (gs : List Goal) (i : ℕ) (g : Goal) (s : InstMap) → i < length gs → g ≡ get_or gs i g
    → arm_notes c (gathered (goals_of (drop i gs))) s ≡ notes c (goal_of g) s ++ arm_notes c (gathered (goals_of (drop (suc i) gs))) s
arm_notes-more c [] i g s lt is = absurd (omega (arith, lt))
arm_notes-more c (k ∷ gs) zero g s lt is = rw is refl
arm_notes-more c (k ∷ gs) (suc i) g s lt is = arm_notes-more c gs i g s (omega (arith, lt)) is

-- ---- types of closures

ho_sort : (a : HoTy) (ts : List HldsType) (ms : List Mode) (d : Det) → hlds_types_of a.types.items ≡ ts → a.modes.items ≡ ms → a.det ≡ d → hlds_type_of (Ho a) ≡ closure (gathered_types ts) ms d
ho_sort a ts ms d types modes det = hlds_type_of-Ho a ∙ rw (types, modes, det) refl

pub ho_same : (a b : HoTy) (t : Ty) → t ≡ Ho b → hlds_types_of a.types.items ≡ hlds_types_of b.types.items → a.modes.items ≡ b.modes.items → a.det ≡ b.det → hlds_type_of (Ho a) ≡ hlds_type_of t
ho_same a b t is types modes det = ho_sort a (hlds_types_of b.types.items) b.modes.items b.det types modes det ∙ (sym (hlds_type_of-Ho b) ∙ ap hlds_type_of (sym is))

pub class_closure : (h : HoTy) (k : Kind) (b : Bor HoTy) → k ≡ Closure b → hlds_types_of h.types.items ≡ hlds_types_of b.now.types.items → h.modes.items ≡ b.now.modes.items → h.det ≡ b.now.det
    → class_told (Some (class.Closure h)) ≡ role_of_sort (kind_sort k)
class_closure h k b is types modes det =
    ap (λ (t : HldsType). Some (applies t)) (ho_sort h (hlds_types_of b.now.types.items) b.now.modes.items b.now.det types modes det) ∙ ap (λ (x : Kind). role_of_sort (kind_sort x)) (sym is)

pub class_open : (h : HoTy) (k : Kind) (args : Bor (List (Ty × Mode))) (d : Det) → k ≡ Open args d → hlds_types_of h.types.items ≡ types_of (args_of args.now)
    → h.modes.items ≡ modes_of (args_of args.now) → h.det ≡ d → class_told (Some (class.Closure h)) ≡ role_of_sort (kind_sort k)
class_open h k args d is types modes det =
    ap (λ (t : HldsType). Some (applies t)) (ho_sort h (types_of (args_of args.now)) (modes_of (args_of args.now)) d types modes det) ∙ ap (λ (x : Kind). role_of_sort (kind_sort x)) (sym is)

sorts-step : (ts : List Ty) (i : ℕ) (t : Ty) → i < length ts → t ≡ get_or ts i t → hlds_types_of (drop i ts) ≡ hlds_type_of t ∷ hlds_types_of (drop (suc i) ts)
sorts-step [] i t lt is = absurd (omega (arith, lt))
sorts-step (u ∷ ts) zero t lt is = rw is refl
sorts-step (u ∷ ts) (suc i) t lt is = sorts-step ts i t (omega (arith, lt)) is

pub copied-more : (cs more ts : List Ty) (i : ℕ) (t u : Ty) (whole : List HldsType) → i < length ts → t ≡ get_or ts i t → more ≡ cs ++ u ∷ [] → hlds_type_of u ≡ hlds_type_of t
    → hlds_types_of cs ++ hlds_types_of (drop i ts) ≡ whole → hlds_types_of more ++ hlds_types_of (drop (i + 1) ts) ≡ whole
copied-more cs more ts i t u whole lt is is_more same so_far =
    rw (is_more, add-one)
    (ap (λ xs. xs ++ hlds_types_of (drop (suc i) ts)) (hlds_types_of-append cs (u ∷ []))
    ∙ (append_assoc (hlds_types_of cs) (hlds_type_of u ∷ []) (hlds_types_of (drop (suc i) ts))
    ∙ (ap (λ (x : HldsType). hlds_types_of cs ++ x ∷ hlds_types_of (drop (suc i) ts)) same
    ∙ (ap (λ xs. hlds_types_of cs ++ xs) (sym (sorts-step ts i t lt is)) ∙ so_far))))

args-step : (args : List (Ty × Mode)) (i : ℕ) (a : Ty × Mode) → i < length args → a ≡ get_or args i a
    → types_of (args_of (drop i args)) ≡ hlds_type_of a.0 ∷ types_of (args_of (drop (suc i) args))
args-step [] i a lt is = absurd (omega (arith, lt))
args-step (b ∷ args) zero a lt is = rw is refl
args-step (b ∷ args) (suc i) a lt is = args-step args i a (omega (arith, lt)) is

pub opened-more : (cs more : List Ty) (args : List (Ty × Mode)) (i : ℕ) (a : Ty × Mode) (u : Ty) (whole : List HldsType) → i < length args → a ≡ get_or args i a
    → more ≡ cs ++ u ∷ [] → hlds_type_of u ≡ hlds_type_of a.0
    → hlds_types_of cs ++ types_of (args_of (drop i args)) ≡ whole → hlds_types_of more ++ types_of (args_of (drop (i + 1) args)) ≡ whole
opened-more cs more args i a u whole lt is is_more same so_far =
    rw (is_more, add-one)
    (ap (λ xs. xs ++ types_of (args_of (drop (suc i) args))) (hlds_types_of-append cs (u ∷ []))
    ∙ (append_assoc (hlds_types_of cs) (hlds_type_of u ∷ []) (types_of (args_of (drop (suc i) args)))
    ∙ (ap (λ (x : HldsType). hlds_types_of cs ++ x ∷ types_of (args_of (drop (suc i) args))) same
    ∙ (ap (λ xs. hlds_types_of cs ++ xs) (sym (args-step args i a lt is)) ∙ so_far))))

modes-step : (args : List (Ty × Mode)) (i : ℕ) (a : Ty × Mode) → i < length args → a ≡ get_or args i a
    → modes_of (args_of (drop i args)) ≡ a.1 ∷ modes_of (args_of (drop (suc i) args))
modes-step [] i a lt is = absurd (omega (arith, lt))
modes-step (b ∷ args) zero a lt is = rw is refl
modes-step (b ∷ args) (suc i) a lt is = modes-step args i a (omega (arith, lt)) is

pub modes-more : (ms more : List Mode) (args : List (Ty × Mode)) (i : ℕ) (a : Ty × Mode) (whole : List Mode) → i < length args → a ≡ get_or args i a → more ≡ ms ++ a.1 ∷ []
    → ms ++ modes_of (args_of (drop i args)) ≡ whole → more ++ modes_of (args_of (drop (i + 1) args)) ≡ whole
modes-more ms more args i a whole lt is is_more so_far =
    rw (is_more, add-one)
    (append_assoc ms (a.1 ∷ []) (modes_of (args_of (drop (suc i) args))) ∙ (ap (λ xs. ms ++ xs) (sym (modes-step args i a lt is)) ∙ so_far))

no_args_left : (args : List (Ty × Mode)) (i : ℕ) → length args ≡ i → drop i args ≡ []
no_args_left [] zero e = refl
no_args_left [] (suc i) e = refl
no_args_left (a ∷ args) zero e = absurd (omega (arith, e))
no_args_left (a ∷ args) (suc i) e = no_args_left args i (omega (arith, e))

pub modes-end : (ms whole : List Mode) (args : List (Ty × Mode)) (i : ℕ) → length args ≡ i → ms ++ modes_of (args_of (drop i args)) ≡ whole → ms ≡ whole
modes-end ms whole args i e so_far = sym (append-nil ms) ∙ rw (← ap (λ left. modes_of (args_of left)) (no_args_left args i e)) so_far

pub opened-end : (ts : List Ty) (whole : List HldsType) (args : List (Ty × Mode)) (i : ℕ) → length args ≡ i
    → hlds_types_of ts ++ types_of (args_of (drop i args)) ≡ whole → hlds_types_of ts ≡ whole
opened-end ts whole args i e so_far = sym (append-nil (hlds_types_of ts)) ∙ rw (← ap (λ left. types_of (args_of left)) (no_args_left args i e)) so_far

-- ---- loops over goals

pub each-loop : (c : Scope) (gs : List Goal) (i : ℕ) (g : Goal) (s : InstMap) (a : After) (old new whole : List Note) → i < length gs → g ≡ get_or gs i g
    → new ≡ old ++ notes c (goal_of g) s → goal c (goal_of g) s ≡ Ok a → old ++ each_notes c (gathered (goals_of (drop i gs))) s ≡ whole
    → new ++ each_notes c (gathered (goals_of (drop (i + 1) gs))) a.known ≡ whole
each-loop c gs i g s a old new whole lt is is_new is_a so_far =
    let known : known_after s (goal c (goal_of g) s) ≡ a.known = rw is_a refl in
    rw (is_new, add-one, ← known)
    (append_assoc old (notes c (goal_of g) s) (each_notes c (gathered (goals_of (drop (suc i) gs))) (known_after s (goal c (goal_of g) s)))
    ∙ (ap (λ ns. old ++ ns) (sym (each_notes-more c gs i g s lt is)) ∙ so_far))

pub arms-loop : (c : Scope) (gs : List Goal) (i : ℕ) (g : Goal) (s : InstMap) (old new whole : List Note) → i < length gs → g ≡ get_or gs i g
    → new ≡ old ++ notes c (goal_of g) s → old ++ arm_notes c (gathered (goals_of (drop i gs))) s ≡ whole
    → new ++ arm_notes c (gathered (goals_of (drop (i + 1) gs))) s ≡ whole
arms-loop c gs i g s old new whole lt is is_new so_far =
    rw (is_new, add-one)
    (append_assoc old (notes c (goal_of g) s) (arm_notes c (gathered (goals_of (drop (suc i) gs))) s)
    ∙ (ap (λ ns. old ++ ns) (sym (arm_notes-more c gs i g s lt is)) ∙ so_far))

none_left : (gs : List Goal) (i : ℕ) → length gs ≡ i → drop i gs ≡ []
none_left [] zero e = refl
none_left [] (suc i) e = refl
none_left (g ∷ gs) zero e = absurd (omega (arith, e))
none_left (g ∷ gs) (suc i) e = none_left gs i (omega (arith, e))

pub each-loop-end : (c : Scope) (gs : List Goal) (i : ℕ) (s : InstMap) (now whole : List Note) → length gs ≡ i → now ++ each_notes c (gathered (goals_of (drop i gs))) s ≡ whole → now ≡ whole
each-loop-end c gs i s now whole e so_far = sym (append-nil now) ∙ rw (← ap (λ hs. each_notes c (gathered (goals_of hs)) s) (none_left gs i e)) so_far

pub arms-loop-end : (c : Scope) (gs : List Goal) (i : ℕ) (s : InstMap) (now whole : List Note) → length gs ≡ i → now ++ arm_notes c (gathered (goals_of (drop i gs))) s ≡ whole → now ≡ whole
arms-loop-end c gs i s now whole e so_far = sym (append-nil now) ∙ rw (← ap (λ hs. arm_notes c (gathered (goals_of hs)) s) (none_left gs i e)) so_far

-- the notes of the parts of an if-then-else, one after the other
pub choice_notes : (c d : Scope) (p t e : HldsGoal) (s : InstMap) (a : After) (old first second third : List Note)
    → goal d p s ≡ Ok a → first ≡ old ++ notes d p s → second ≡ first ++ notes c t a.known → third ≡ second ++ notes c e s
    → third ≡ old ++ (notes d p s ++ (notes c t (known_after s (goal d p s)) ++ notes c e s))
choice_notes c d p t e s a old first second third is f g h =
    let known : known_after s (goal d p s) ≡ a.known = rw is refl in
    h ∙ (ap (λ ns. ns ++ notes c e s) g ∙ (ap (λ ns. (ns ++ notes c t a.known) ++ notes c e s) f
    ∙ (append_assoc (old ++ notes d p s) (notes c t a.known) (notes c e s) ∙ (append_assoc old (notes d p s) (notes c t a.known ++ notes c e s)
    ∙ ap (λ k. old ++ (notes d p s ++ (notes c t k ++ notes c e s))) (sym known)))))

-- the same where the other arm may be at fault
pub choice_noted : (c d : Scope) (p t e : HldsGoal) (s n : InstMap) (a : After) (r : Result Bool ModeFault) (old first second third : List Note)
    → goal d p s ≡ Ok a → first ≡ old ++ notes d p s → second ≡ first ++ notes c t a.known → n ≡ s → IfOk r (λ reach. third ≡ second ++ notes c e n)
    → IfOk r (λ reach. third ≡ old ++ (notes d p s ++ (notes c t (known_after s (goal d p s)) ++ notes c e s)))
choice_noted c d p t e s n a (Ok reach) old first second third is f g back h = choice_notes c d p t e s a old first second third is f g (rw (← back) h)
choice_noted c d p t e s n a (Err x) old first second third is f g back h = tt

-- ---- a goal's own note before those within it

notes_told-set : (ns : List code.Note) (i : ℕ) (n : code.Note) → notes_told (slice_set ns i n) ≡ slice_set (notes_told ns) i (note_told n)
notes_told-set [] i n = refl
notes_told-set (m ∷ ns) zero n = refl
notes_told-set (m ∷ ns) (suc i) n = ap (λ xs. note_told m ∷ xs) (notes_told-set ns i n)

pub length-notes_told : (ns : List code.Note) → length (notes_told ns) ≡ length ns
length-notes_told [] = refl
length-notes_told (n ∷ ns) = ap suc (length-notes_told ns)

set-middle : (xs : List Note) (x y : Note) (ys : List Note) → slice_set ((xs ++ x ∷ []) ++ ys) (length xs) y ≡ xs ++ y ∷ ys
set-middle [] x y ys = refl
set-middle (z ∷ xs) x y ys = ap (λ zs. z ∷ zs) (set-middle xs x y ys)

pub within_notes : (old begun more : List code.Note) (n : code.Note) (inner : List Note) → begun ≡ old ++ n ∷ [] → notes_told more ≡ notes_told begun ++ inner → length old < length more
within_notes old begun more n inner e h =
    let l = ap length h in
    let m = length-append (notes_told begun) inner in
    let k = ap length e in
    let j = length-append old (n ∷ []) in
    omega (arith, l, m, k, j, length-notes_told more, length-notes_told begun)

pub goal_notes : (old begun more final : List code.Note) (i : ℕ) (n own : code.Note) (m : Note) (inner : List Note) → begun ≡ old ++ n ∷ [] → i ≡ length old
    → notes_told more ≡ notes_told begun ++ inner → final ≡ slice_set more i own → note_told own ≡ m → notes_told final ≡ notes_told old ++ m ∷ inner
goal_notes old begun more final i n own m inner e at h f is =
    let told : notes_told begun ≡ notes_told old ++ note_told n ∷ [] = ap notes_told e ∙ notes_told-append old (n ∷ []) in
    let place : i ≡ length (notes_told old) = at ∙ sym (length-notes_told old) in
    ap notes_told f ∙ (notes_told-set more i own ∙ rw (h, told, place, is) (set-middle (notes_told old) (note_told n) m inner))

get-middle : (xs : List Note) (x : Note) (ys : List Note) → slice_get ((xs ++ x ∷ []) ++ ys) (length xs) ≡ Some x
get-middle [] x ys = refl
get-middle (z ∷ xs) x ys = get-middle xs x ys

told_at : (ns : List code.Note) (i : ℕ) (m : code.Note) → i < length ns → m ≡ get_or ns i m → slice_get (notes_told ns) i ≡ Some (note_told m)
told_at [] i m lt is = absurd (omega (arith, lt))
told_at (n ∷ ns) zero m lt is = rw (← is) refl
told_at (n ∷ ns) (suc i) m lt is = told_at ns i m (omega (arith, lt)) is

some_same : {A : Type 0} (x y : A) → Some x ≡ Some y → x ≡ y
some_same x y e = cc

-- a note is what it was before those within were added
pub kept_note : (old begun more : List code.Note) (i : ℕ) (n m : code.Note) (inner : List Note) → begun ≡ old ++ n ∷ [] → i ≡ length old
    → notes_told more ≡ notes_told begun ++ inner → i < length more → m ≡ get_or more i m → note_told m ≡ note_told n
kept_note old begun more i n m inner e at h lt is =
    let told : notes_told begun ≡ notes_told old ++ note_told n ∷ [] = ap notes_told e ∙ notes_told-append old (n ∷ []) in
    let place : i ≡ length (notes_told old) = at ∙ sym (length-notes_told old) in
    some_same (note_told m) (note_told n) (sym (told_at more i m lt is) ∙ rw (h, told, place) (get-middle (notes_told old) (note_told n) inner))
