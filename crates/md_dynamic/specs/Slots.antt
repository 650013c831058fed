-- How the links of call sites are kept: a slot for each call site of each context, all in one list, and the links of
-- higher-order sites by context, site and procedure.
use Rattle.std.specs.Prelude.{ℕ, zero, suc, ◌+◌, ◌==◌, ◌&&◌, Bool, List, [], ◌∷◌, length, Option, Some, None, if◌then◌else◌}
use Rattle.md_static.specs.declared.entry.Site.{Site}
use Rattle.md_static.specs.Sites.{sites_of}
use Rattle.md_dynamic.specs.declared.slot.CalleeKey.{CalleeKey}
use Rattle.md_dynamic.specs.declared.slot.Slot.{Slot}

-- a slot with this link, or without one; no link has the last number
abbrev pub slot_of : Option ℕ → Slot
slot_of None = record { number = 4294967295 }
slot_of (Some k) = record { number = k }

-- the link of a slot
abbrev pub slot_link : Slot → Option ℕ
slot_link x = if x.number == 4294967295 then None else Some x.number

-- how many slots the contexts before v have: one for each call site of their procedures
abbrev pub slots_before : List Site → List ℕ → ℕ → ℕ
slots_before sites [] v = 0
slots_before sites (p ∷ ps) zero = 0
slots_before sites (p ∷ ps) (suc v) = length (sites_of p sites) + slots_before sites ps v

-- what tells the links of higher-order sites apart: the context that calls, the site, and the procedure that is called
abbrev pub is_key : ℕ → ℕ → ℕ → CalleeKey → Bool
is_key v s q key = (v == key.node) && ((s == key.site) && (q == key.callee))
