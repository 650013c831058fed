-- A call for which all is at hand takes no memory.
use Rattle.std.proofs.Common.{ℕ, ◌+◌, ◌≡◌, ◌<◌, List, length, reverse, Option, Some, OnErr, Result, Ok, Err, sym, ap, ◌∙◌, arith}
use Rattle.std.proofs.lemmas.Bool.{false≢true}
use Rattle.std.proofs.lemmas.List.{length-reverse}
use Rattle.md_trace.specs.declared.event.Event.{Event}
use Rattle.md_trace.specs.Activation.{activations}
use Rattle.md_trace.specs.PortHistory.{SiteTable, current, MayFollow}
use Rattle.md_trace.specs.Context.{placed_of, current_chain}
use Rattle.md_trace.specs.Links.{links}
use Rattle.md_trace.proofs.Histories.{orderly, chain-call}
use Rattle.md_dynamic.specs.Rows.{IsFresh}
use Rattle.md_record.specs.Kept.{Kept, Stands}
use Rattle.md_record.specs.Memory.{IsAtHand}
use Rattle.md_record.proofs.Callings.{Calling, fresh-link}
use Rattle.md_record.proofs.Calls.{the_call}
use Rattle.md_record.proofs.PointerSteps.{steps-length}

-- a kept chain with no room for one more tells that the new chain is longer than each before it
pub full-chain : (t : SiteTable) (h : List Event) (k : Kept) (s : Option ℕ) (q : ℕ) → Stands k t h → MayFollow t h (the_call h s q) → k.room < length k.chain + 1 → IsAtHand t.main h s q → ⊥
full-chain t h k s q st may full at =
    let m = t.main in
    let chained = ap length (chain-call t m (length (activations h)) (current h) s q h (orderly t m h st.history) may) in
    let len : length k.chain ≡ length (current_chain m h) = sym (length-reverse k.chain) ∙ steps-length (links m (placed_of m h)) (current_chain m h) (reverse k.chain) st.chain_is in
    absurd (omega (arith, chained, len, at.chain_fits, st.room_is, full))

-- a site without the link tells that it is not there
pub missing-link : (t : SiteTable) (h : List Event) (k : Kept) (s q v : ℕ) → Stands k t h → Calling t h k s q v → IsFresh k.rows v s q → IsAtHand t.main h (Some s) q → ⊥
missing-link t h k s q v st c fresh at = false≢true (sym (fresh-link t h k s q v st c fresh) ∙ at.link_there)

-- what holds holds of an error
pub on-err : {T E : Type 0} (r : Result T E) (P : Type 0) → P → OnErr r P
on-err (Ok x) P p = tt
on-err (Err e) P p = p
