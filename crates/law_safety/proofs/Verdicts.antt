-- What the parts of an accepted check are.
use Rattle.std.proofs.Common.{◌≡◌, refl, sym, ap, Bool, true, false, cond, Ok, Err}
use Rattle.md_inst.specs.declared.fault.ModeFault.{ModeFault}
use Rattle.md_inst.specs.Verdict.{Verdict, ◌>>=◌, ◌>>◌, fault_unless}
use Rattle.md_inst.specs.Instantiation.{InstMap}
use Rattle.md_modes.specs.Branches.{After, after}
use Rattle.md_modes.specs.Goals.{reached}

-- one check and then another
pub ok_then : {A B : Type 0} (v : Verdict A) (f : A → Verdict B) (b : B) → (v >>= f) ≡ Ok b → (a : A) × (v ≡ Ok a) × (f a ≡ Ok b)
ok_then (Ok a) f b h = (a, refl, h)
ok_then (Err e) f b h = absurd (cc h)

pub ok_after : {A B : Type 0} (v : Verdict A) (w : Verdict B) (b : B) → (v >> w) ≡ Ok b → (a : A) × (v ≡ Ok a) × (w ≡ Ok b)
ok_after (Ok a) w b h = (a, refl, h)
ok_after (Err e) w b h = absurd (cc h)

-- a fault where the test fails, or where it holds
pub ok_where : {A : Type 0} (b : Bool) (e : ModeFault) (v : Verdict A) (a : A) → cond b v (Err e) ≡ Ok a → (b ≡ true) × (v ≡ Ok a)
ok_where true e v a h = (refl, h)
ok_where false e v a h = absurd (cc h)

pub ok_unless : {A : Type 0} (b : Bool) (e : ModeFault) (v : Verdict A) (a : A) → cond b (Err e) v ≡ Ok a → (b ≡ false) × (v ≡ Ok a)
ok_unless true e v a h = absurd (cc h)
ok_unless false e v a h = (refl, h)

pub ok_fault : (b : Bool) (e : ModeFault) (u : Unit {0}) → fault_unless b e ≡ Ok u → b ≡ true
ok_fault true e u h = refl
ok_fault false e u h = absurd (cc h)

pub ok_is : {A : Type 0} (v : Verdict A) (a b : A) → v ≡ Ok a → v ≡ Ok b → a ≡ b
ok_is v a b h g = cc

told : (reach : Bool) (v : Verdict InstMap) (s : InstMap) (w : Verdict After) (a : After) → v ≡ Ok s → w ≡ Ok (after s reach) → w ≡ Ok a → (v ≡ Ok a.known) × (a.reach ≡ reach)
told reach v s w a is at h =
    let same : after s reach ≡ a = ok_is w (after s reach) a at h in
    (rw is (ap (λ (b : After). Ok b.known) same), sym (ap (λ (b : After). b.reach) same))

pub ok_reached : (reach : Bool) (v : Verdict InstMap) (a : After) → reached reach v ≡ Ok a → (v ≡ Ok a.known) × (a.reach ≡ reach)
ok_reached reach v a h =
    let parts = ok_then v (λ s. Ok (after s reach)) a h in
    told reach v parts.0 (Ok (after parts.0 reach)) a parts.1 refl parts.2
