-- Where nothing of the pairs is to be decoded.
use Rattle.std.proofs.Common.{Result, Ok, Err}
use Rattle.std.specs.Result.{IfErr}

-- what holds of an error there
pub plain_error : {A E : Type 0} (r : Result A E) (Plain Held : Type 0) → (Plain → IfErr r (λ _. Held)) → IfErr r (λ _. Plain → Held)
plain_error (Ok a) Plain Held h = tt
plain_error (Err e) Plain Held h = h
