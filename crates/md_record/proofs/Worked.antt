-- What a recorder stands for, computed: main has called count, and an exception has left count.
use Rattle.std.proofs.Common.{ℕ, zero, suc, ◌≡◌, ◌<◌, List, [], ◌∷◌, Option, Some, None, slice_get, refl, ap, rules, arith}
use Rattle.md_base.specs.declared.measure.Counts.{Counts}
use Rattle.md_static.specs.declared.entry.Proc.{Proc}
use Rattle.md_static.specs.declared.entry.Site.{Site}
use Rattle.md_static.specs.declared.entry.SiteKind.TheVariants.{Plain as OneCallee}
use Rattle.md_static.specs.Tables.{Static, site_table}
use Rattle.md_trace.specs.declared.event.Event.{Event}
use Rattle.md_trace.specs.declared.event.Event.TheVariants.{Call, Exit, Excp}
use Rattle.md_trace.specs.PortHistory.{SiteTable}
use Rattle.md_trace.specs.Context.{placed_of, current_chain}
use Rattle.md_trace.specs.Links.{Leading, links}
use Rattle.md_dynamic.specs.declared.link.LinkRow.{LinkRow}
use Rattle.md_dynamic.specs.OfHistory.{row_of}
use Rattle.md_record.specs.Kept.{Kept, Stands}
use Rattle.md_record.specs.Marks.{BelongsTo}
use Rattle.md_record.specs.Parts.{nearest}

-- main/2 calls count/1 on line 3, which calls itself on line 5
abbrev main : Proc
main = record { «module» = 0; name = 109 ∷ 97 ∷ 105 ∷ 110 ∷ []; arity = 2 }

abbrev count : Proc
count = record { «module» = 0; name = 99 ∷ 111 ∷ 117 ∷ 110 ∷ 116 ∷ []; arity = 1 }

abbrev at_line : ℕ → ℕ → Site
at_line owner line = record { owner = owner; line = line; kind = OneCallee 1 }

abbrev counting : Static
counting = record { modules = (116 ∷ []) ∷ []; procs = main ∷ count ∷ []; sites = at_line 0 3 ∷ at_line 1 5 ∷ [] }

abbrev table : SiteTable
table = site_table counting 0

-- the latest event first
abbrev thrown : List Event
thrown = Excp 1 ∷ Call 1 (Some 0) (Some 0) 1 ∷ Call 0 None None 0 ∷ []

abbrev own : ℕ → ℕ → Counts
own fails excps = record { calls = 1; exits = 0; fails = fails; redos = 0; allocs = 0; words = 0; excps = excps }

-- what a recorder keeps then, with these counts on count's link and this pointer of count
abbrev kept : Counts → Option ℕ → Kept
kept counts pointer = record {
  rows = record {
    statics = counting;
    nodes = 0 ∷ 1 ∷ [];
    links = record { caller = None; site = None; callee = 0; own = own 0 0 } ∷ record { caller = Some 0; site = Some 0; callee = 1; own = counts } ∷ [];
    active = Some 0 ∷ pointer ∷ [];
  };
  chain = (0, 0) ∷ [];
  room = 2;
}

abbrev its_links : List Leading
its_links = links 0 (placed_of 0 thrown)

rows_right : (j : ℕ) (x : Leading) → slice_get its_links j ≡ Some x → slice_get (kept (own 0 1) None).rows.links j ≡ Some (row_of 0 thrown x)
rows_right zero x is = (let e : record { link = record { caller = None; site = None; procedure = 0 }; to = 0 } ≡ x = cc in ap (λ (z : Leading). Some (row_of 0 thrown z)) e)
rows_right (suc zero) x is = (let e : record { link = record { caller = Some 0; site = Some 0; procedure = 1 }; to = 1 } ≡ x = cc in ap (λ (z : Leading). Some (row_of 0 thrown z)) e)
rows_right (suc (suc j)) x is = absurd (cc)

active_right : (q : ℕ) → q < 2 → slice_get (Some 0 ∷ None ∷ []) q ≡ Some (nearest q (current_chain 0 thrown))
active_right zero h = refl
active_right (suc zero) h = refl
active_right (suc (suc q)) h = absurd (omega arith)

-- the exception is counted on count's link, and count is active no more
stands : Stands (kept (own 0 1) None) table thrown
stands = record {
  history = search rules;
  sound = search rules;
  table = refl;
  contexts_are = refl;
  rows_are = record { each = refl; right = rows_right };
  active_is = record { each = refl; right = active_right };
  chain_is = (refl, refl, tt);
  room_is = search rules;
}

-- count's mark: its context, its link, and no pointer to go back to
mark : BelongsTo 1 1 None table thrown 1
mark = record { activation = record { parent = Some 0; link = record { caller = Some 0; site = Some 0; procedure = 1 }; context = 1 }; there = refl; top_is = refl; middle_is = refl; old_is = refl }

-- Main calls x; x calls n, which calls r, and both exit; then x calls r, which calls x, which calls n, which calls r, which calls
-- itself. So r is at last called below two activations of r, the nearer one in context 3 and the other one in context 4.
abbrev nested : List Event
nested =
    Call 8 (Some 7) (Some 5) 2 ∷ Call 7 (Some 6) (Some 4) 2 ∷ Call 6 (Some 5) (Some 1) 3 ∷ Call 5 (Some 4) (Some 3) 1 ∷ Call 4 (Some 1) (Some 2) 2
    ∷ Exit 2 ∷ Exit 3 ∷ Call 3 (Some 2) (Some 4) 2 ∷ Call 2 (Some 1) (Some 1) 3 ∷ Call 1 (Some 0) (Some 0) 1 ∷ Call 0 None None 0 ∷ []

-- the pointer to go back to is the nearer one: refuses a rule that keeps the outermost ancestor's context
nested_mark : BelongsTo 3 6 (Some 3) (record { main = 0; procedures = 4; sites = [] }) nested 8
nested_mark = record { activation = record { parent = Some 7; link = record { caller = Some 3; site = Some 5; procedure = 2 }; context = 3 }; there = refl; top_is = refl; middle_is = refl; old_is = refl }

-- a recorder whose pointer of count is still set doesn't stand for these events
pointer_left : Stands (kept (own 0 1) (Some 1)) table thrown → ⊥
pointer_left st = absurd (let e : Some (Some 1) ≡ Some (nearest 1 (current_chain 0 thrown)) = st.active_is.right 1 (omega arith) in let f : Some (Some 1) ≡ Some None = e in cc)

-- nor does one that has counted the exception as a fail
abbrev fails_of : Option LinkRow → ℕ
fails_of None = 0
fails_of (Some x) = x.own.fails

counted_as_fail : Stands (kept (own 1 0) None) table thrown → ⊥
counted_as_fail st =
    let is = st.rows_are.right 1 (record { link = record { caller = Some 0; site = Some 0; procedure = 1 }; to = 1 }) refl in
    absurd (let e : 1 ≡ 0 = ap fails_of is in omega (arith, e))
