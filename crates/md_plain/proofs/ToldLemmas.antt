-- How traces are told that are joined, that go on after their first answer, and that begin with a turn; and that a trace told
-- within a budget is what the budget leaves of it.
use Rattle.std.proofs.Common.{◌≡◌, refl, ap, ◌∙◌, sym, ℕ, suc, ◌-◌, Bool, true, false, [], ◌∷◌, ◌++◌, Option, Some, None, cond, nat_le, append_assoc, append-nil}
use Rattle.std.proofs.lemmas.Option.{same_Some}
use Rattle.std.proofs.Common.{arith}
use Rattle.md_hlds.specs.Value.{Env}
use Rattle.md_hlds.specs.Trace.{Item, Turn, Call, Exit, Redo, Fail, Excp, Alloc, Out, Throw, Answer, Stuck, Deep, Items, joined, first}
use Rattle.md_hlds.specs.Run.{cut, cut_turn}
use Rattle.md_plain.specs.Told.{Run, End, Answered, Missed, Thrown, Over, Told, ended, put, called, turned, turn, leaves, tells, goes_on, then_misses}

-- ---- turns

turn_goes_on : (b : Bool) (r : Run) (found : Env → ℕ → Items) (missed : ℕ → Items) (thrown : Items) (t u : Told)
    → u ≡ goes_on found missed thrown t → cond b u (ended r Over) ≡ goes_on found missed thrown (cond b t (ended r Over))
turn_goes_on true r found missed thrown t u h = h
turn_goes_on false r found missed thrown t u h = refl

refused_by : (b : Bool) (t : Run) (u o : Told) → None ≡ cond b (Some t) None → o ≡ cond b u o
refused_by true t u o is = absurd (grind (arith, is))
refused_by false t u o is = refl

allowed_by : (b : Bool) (t v : Run) (f : Run → Told) (o : Told) → Some t ≡ cond b (Some v) None → f t ≡ cond b (f v) o
allowed_by true t v f o is = ap f (same_Some t v is)
allowed_by false t v f o is = absurd (grind (arith, is))

-- a turn that is refused, and one that is made
pub refused : (xs : Items) (r : Run) (a : ℕ) (g : Option ℕ) (w : ℕ) → None ≡ turn r a g w → ended r Over ≡ tells (Turn a g w ∷ xs) r
refused xs r a g w is = refused_by (nat_le w r.left) (turned r a g w) (tells xs (turned r a g w)) (ended r Over) is

pub allowed : (xs : ℕ → Items) (r t : Run) (a : ℕ) (g : Option ℕ) (w : ℕ) → Some t ≡ turn r a g w → tells (xs t.next) t ≡ tells (Turn a g w ∷ xs r.next) r
allowed xs r t a g w is = allowed_by (nat_le w r.left) t (turned r a g w) (λ v. tells (xs v.next) v) (ended r Over) is

-- ---- one trace and then another

leaves_on : (xs : Items) (r : Run) (found : Env → ℕ → Items) (missed : ℕ → Items) (thrown : Items) → leaves (xs ++ thrown) r ≡ goes_on found missed thrown (leaves xs r)
leaves_on [] r found missed thrown = refl
leaves_on (Turn a g w ∷ xs) r found missed thrown =
    turn_goes_on (nat_le w r.left) r found missed thrown (leaves xs (turned r a g w)) (leaves (xs ++ thrown) (turned r a g w)) (leaves_on xs (turned r a g w) found missed thrown)
leaves_on (Call a p s q ∷ xs) r found missed thrown = leaves_on xs (put r (Call a p s q)) found missed thrown
leaves_on (Exit a ∷ xs) r found missed thrown = leaves_on xs (put r (Exit a)) found missed thrown
leaves_on (Redo a ∷ xs) r found missed thrown = leaves_on xs (put r (Redo a)) found missed thrown
leaves_on (Fail a ∷ xs) r found missed thrown = leaves_on xs (put r (Fail a)) found missed thrown
leaves_on (Excp a ∷ xs) r found missed thrown = leaves_on xs (put r (Excp a)) found missed thrown
leaves_on (Alloc a w ∷ xs) r found missed thrown = leaves_on xs (put r (Alloc a w)) found missed thrown
leaves_on (Out bytes ∷ xs) r found missed thrown = leaves_on xs (put r (Out bytes)) found missed thrown
leaves_on (Throw bytes ∷ xs) r found missed thrown = leaves_on xs (put r (Throw bytes)) found missed thrown
leaves_on (Answer e ∷ xs) r found missed thrown = leaves_on xs (put r (Answer e)) found missed thrown
leaves_on (Stuck ∷ xs) r found missed thrown = leaves_on xs (put r Stuck) found missed thrown
leaves_on (Deep ∷ xs) r found missed thrown = leaves_on xs (put r Deep) found missed thrown

-- a trace up to its first answer, and what follows it
pub tells_first : (xs : Items) (r : Run) (found : Env → ℕ → Items) (missed : ℕ → Items) (thrown : Items) → tells (first xs r.next found missed thrown) r ≡ goes_on found missed thrown (tells xs r)
tells_first [] r found missed thrown = refl
tells_first (Turn a g w ∷ xs) r found missed thrown =
    turn_goes_on (nat_le w r.left) r found missed thrown (tells xs (turned r a g w)) (tells (first xs r.next found missed thrown) (turned r a g w))
    (tells_first xs (turned r a g w) found missed thrown)
tells_first (Call a p s q ∷ xs) r found missed thrown = tells_first xs (called r a p s q) found missed thrown
tells_first (Exit a ∷ xs) r found missed thrown = tells_first xs (put r (Exit a)) found missed thrown
tells_first (Redo a ∷ xs) r found missed thrown = tells_first xs (put r (Redo a)) found missed thrown
tells_first (Fail a ∷ xs) r found missed thrown = tells_first xs (put r (Fail a)) found missed thrown
tells_first (Excp a ∷ xs) r found missed thrown = tells_first xs (put r (Excp a)) found missed thrown
tells_first (Alloc a w ∷ xs) r found missed thrown = tells_first xs (put r (Alloc a w)) found missed thrown
tells_first (Out bytes ∷ xs) r found missed thrown = tells_first xs (put r (Out bytes)) found missed thrown
tells_first (Throw bytes ∷ xs) r found missed thrown = leaves_on xs (put r (Throw bytes)) found missed thrown
tells_first (Answer e ∷ xs) r found missed thrown = refl
tells_first (Stuck ∷ xs) r found missed thrown = refl
tells_first (Deep ∷ xs) r found missed thrown = refl

-- two traces that are joined
pub tells_joined : (xs : Items) (r : Run) (rest : ℕ → Items) → tells (joined xs r.next rest) r ≡ then_misses rest (tells xs r)
tells_joined [] r rest = refl
tells_joined (Turn a g w ∷ xs) r rest =
    turn_goes_on (nat_le w r.left) r (λ e k. Answer e ∷ []) rest [] (tells xs (turned r a g w)) (tells (joined xs r.next rest) (turned r a g w))
    (tells_joined xs (turned r a g w) rest)
tells_joined (Call a p s q ∷ xs) r rest = tells_joined xs (called r a p s q) rest
tells_joined (Exit a ∷ xs) r rest = tells_joined xs (put r (Exit a)) rest
tells_joined (Redo a ∷ xs) r rest = tells_joined xs (put r (Redo a)) rest
tells_joined (Fail a ∷ xs) r rest = tells_joined xs (put r (Fail a)) rest
tells_joined (Excp a ∷ xs) r rest = tells_joined xs (put r (Excp a)) rest
tells_joined (Alloc a w ∷ xs) r rest = tells_joined xs (put r (Alloc a w)) rest
tells_joined (Out bytes ∷ xs) r rest = tells_joined xs (put r (Out bytes)) rest
tells_joined (Throw bytes ∷ xs) r rest =
    ap (λ ys. leaves ys (put r (Throw bytes))) (sym (append-nil xs)) ∙ leaves_on xs (put r (Throw bytes)) (λ e k. Answer e ∷ []) rest []
tells_joined (Answer e ∷ xs) r rest = refl
tells_joined (Stuck ∷ xs) r rest = refl
tells_joined (Deep ∷ xs) r rest = refl

-- ---- what the budget leaves of a trace

-- the items of what is told, and what the budget leaves of what follows
abbrev cut_after : (Env → ℕ → Items) → (ℕ → Items) → Items → Run → End → Items
cut_after found missed thrown r (Answered e) = r.items ++ cut r.left (found e r.next)
cut_after found missed thrown r Missed = r.items ++ cut r.left (missed r.next)
cut_after found missed thrown r Thrown = r.items ++ cut r.left thrown
cut_after found missed thrown r Over = r.items

abbrev pub cut_on : (Env → ℕ → Items) → (ℕ → Items) → Items → Told → Items
cut_on found missed thrown t = cut_after found missed thrown t.run t.end

one_more : (r : Run) (x : Item) (xs ys : Items) → (r.items ++ (x ∷ [])) ++ xs ≡ ys → r.items ++ (x ∷ xs) ≡ ys
one_more r x xs ys h = sym (append_assoc r.items (x ∷ []) xs) ∙ h

cut_turned : (b : Bool) (r : Run) (a : ℕ) (g : Option ℕ) (w : ℕ) (xs : Items) (found : Env → ℕ → Items) (missed : ℕ → Items) (thrown : Items) (t : Told)
    → (r.items ++ (Turn a g w ∷ [])) ++ xs ≡ cut_on found missed thrown t
    → r.items ++ cut_turn a g w xs b ≡ cut_on found missed thrown (cond b t (ended r Over))
cut_turned true r a g w xs found missed thrown t h = one_more r (Turn a g w) xs (cut_on found missed thrown t) h
cut_turned false r a g w xs found missed thrown t h = append-nil r.items

cut_leaves : (xs : Items) (r : Run) (found : Env → ℕ → Items) (missed : ℕ → Items) (thrown : Items) → r.items ++ cut r.left (xs ++ thrown) ≡ cut_on found missed thrown (leaves xs r)
cut_leaves [] r found missed thrown = refl
cut_leaves (Turn a g w ∷ xs) r found missed thrown =
    cut_turned (nat_le w r.left) r a g w (cut (r.left - w) (xs ++ thrown)) found missed thrown (leaves xs (turned r a g w)) (cut_leaves xs (turned r a g w) found missed thrown)
cut_leaves (Call a p s q ∷ xs) r found missed thrown = one_more r (Call a p s q) (cut r.left (xs ++ thrown)) (cut_on found missed thrown (leaves xs (put r (Call a p s q)))) (cut_leaves xs (put r (Call a p s q)) found missed thrown)
cut_leaves (Exit a ∷ xs) r found missed thrown = one_more r (Exit a) (cut r.left (xs ++ thrown)) (cut_on found missed thrown (leaves xs (put r (Exit a)))) (cut_leaves xs (put r (Exit a)) found missed thrown)
cut_leaves (Redo a ∷ xs) r found missed thrown = one_more r (Redo a) (cut r.left (xs ++ thrown)) (cut_on found missed thrown (leaves xs (put r (Redo a)))) (cut_leaves xs (put r (Redo a)) found missed thrown)
cut_leaves (Fail a ∷ xs) r found missed thrown = one_more r (Fail a) (cut r.left (xs ++ thrown)) (cut_on found missed thrown (leaves xs (put r (Fail a)))) (cut_leaves xs (put r (Fail a)) found missed thrown)
cut_leaves (Excp a ∷ xs) r found missed thrown = one_more r (Excp a) (cut r.left (xs ++ thrown)) (cut_on found missed thrown (leaves xs (put r (Excp a)))) (cut_leaves xs (put r (Excp a)) found missed thrown)
cut_leaves (Alloc a w ∷ xs) r found missed thrown = one_more r (Alloc a w) (cut r.left (xs ++ thrown)) (cut_on found missed thrown (leaves xs (put r (Alloc a w)))) (cut_leaves xs (put r (Alloc a w)) found missed thrown)
cut_leaves (Out bytes ∷ xs) r found missed thrown = one_more r (Out bytes) (cut r.left (xs ++ thrown)) (cut_on found missed thrown (leaves xs (put r (Out bytes)))) (cut_leaves xs (put r (Out bytes)) found missed thrown)
cut_leaves (Throw bytes ∷ xs) r found missed thrown = one_more r (Throw bytes) (cut r.left (xs ++ thrown)) (cut_on found missed thrown (leaves xs (put r (Throw bytes)))) (cut_leaves xs (put r (Throw bytes)) found missed thrown)
cut_leaves (Answer e ∷ xs) r found missed thrown = one_more r (Answer e) (cut r.left (xs ++ thrown)) (cut_on found missed thrown (leaves xs (put r (Answer e)))) (cut_leaves xs (put r (Answer e)) found missed thrown)
cut_leaves (Stuck ∷ xs) r found missed thrown = one_more r Stuck (cut r.left (xs ++ thrown)) (cut_on found missed thrown (leaves xs (put r Stuck))) (cut_leaves xs (put r Stuck) found missed thrown)
cut_leaves (Deep ∷ xs) r found missed thrown = one_more r Deep (cut r.left (xs ++ thrown)) (cut_on found missed thrown (leaves xs (put r Deep))) (cut_leaves xs (put r Deep) found missed thrown)

pub cut_first : (xs : Items) (r : Run) (found : Env → ℕ → Items) (missed : ℕ → Items) (thrown : Items) → r.items ++ cut r.left (first xs r.next found missed thrown) ≡ cut_on found missed thrown (tells xs r)
cut_first [] r found missed thrown = refl
cut_first (Turn a g w ∷ xs) r found missed thrown =
    cut_turned (nat_le w r.left) r a g w (cut (r.left - w) (first xs r.next found missed thrown)) found missed thrown (tells xs (turned r a g w)) (cut_first xs (turned r a g w) found missed thrown)
cut_first (Call a p s q ∷ xs) r found missed thrown =
    one_more r (Call a p s q) (cut r.left (first xs (suc r.next) found missed thrown)) (cut_on found missed thrown (tells xs (called r a p s q))) (cut_first xs (called r a p s q) found missed thrown)
cut_first (Exit a ∷ xs) r found missed thrown = one_more r (Exit a) (cut r.left (first xs r.next found missed thrown)) (cut_on found missed thrown (tells xs (put r (Exit a)))) (cut_first xs (put r (Exit a)) found missed thrown)
cut_first (Redo a ∷ xs) r found missed thrown = one_more r (Redo a) (cut r.left (first xs r.next found missed thrown)) (cut_on found missed thrown (tells xs (put r (Redo a)))) (cut_first xs (put r (Redo a)) found missed thrown)
cut_first (Fail a ∷ xs) r found missed thrown = one_more r (Fail a) (cut r.left (first xs r.next found missed thrown)) (cut_on found missed thrown (tells xs (put r (Fail a)))) (cut_first xs (put r (Fail a)) found missed thrown)
cut_first (Excp a ∷ xs) r found missed thrown = one_more r (Excp a) (cut r.left (first xs r.next found missed thrown)) (cut_on found missed thrown (tells xs (put r (Excp a)))) (cut_first xs (put r (Excp a)) found missed thrown)
cut_first (Alloc a w ∷ xs) r found missed thrown = one_more r (Alloc a w) (cut r.left (first xs r.next found missed thrown)) (cut_on found missed thrown (tells xs (put r (Alloc a w)))) (cut_first xs (put r (Alloc a w)) found missed thrown)
cut_first (Out bytes ∷ xs) r found missed thrown = one_more r (Out bytes) (cut r.left (first xs r.next found missed thrown)) (cut_on found missed thrown (tells xs (put r (Out bytes)))) (cut_first xs (put r (Out bytes)) found missed thrown)
cut_first (Throw bytes ∷ xs) r found missed thrown =
    one_more r (Throw bytes) (cut r.left (xs ++ thrown)) (cut_on found missed thrown (leaves xs (put r (Throw bytes)))) (cut_leaves xs (put r (Throw bytes)) found missed thrown)
cut_first (Answer e ∷ xs) r found missed thrown = refl
cut_first (Stuck ∷ xs) r found missed thrown = refl
cut_first (Deep ∷ xs) r found missed thrown = refl
