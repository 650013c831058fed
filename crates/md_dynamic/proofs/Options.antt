-- Facts of a value that may be there.
use Rattle.std.proofs.Common.{◌≡◌, Option, Some, None, IfSome, IsSomeAnd, refl, sym, subst}

-- the value of which a fact is told
pub some-and : {A : Type 0} (P : A → Type 0) (o : Option A) → IsSomeAnd o P → (x : A) × (o ≡ Some x) × P x
some-and P None is = absurd is
some-and P (Some x) is = (x, refl, is)

-- a fact of a value that is there
pub and-some : {A : Type 0} (P : A → Type 0) (o : Option A) (x : A) → o ≡ Some x → P x → IsSomeAnd o P
and-some P o x is holds = subst (λ z. IsSomeAnd z P) (sym is) holds

pub if-some : {A : Type 0} (P Q : A → Type 0) (o : Option A) → ((x : A) → P x → Q x) → IfSome o P → IfSome o Q
if-some P Q None all is = tt
if-some P Q (Some x) all is = all x is
