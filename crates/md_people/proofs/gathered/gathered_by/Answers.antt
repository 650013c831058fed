use Rattle.std.proofs.Common.{◌≡◌, ℕ, ◌<◌, ◌^◌, List, refl, length, get_or, map, replicate, ◌≤◌, Option, Some, None, IfSome, inl, inr, arith, rules, subst, sym, ap, ◌∙◌}
use Rattle.std.proofs.lemmas.Bool.{cases_lt}
use Rattle.std.proofs.lemmas.List.{get_or_default, get_or-map, length-map, get_or_read, length-set, take_all, length-replicate, get_or-replicate, get_or_past}
use Rattle.md_trace.specs.Context.{same_option}
use Rattle.md_clique.specs.Places.{places}
use Rattle.md_dynamic.specs.declared.link.LinkRow.{LinkRow}
use Rattle.md_people.specs.declared.gathered.Gathered.{Gathered}
use Rattle.md_people.specs.Gathered.{IsWithin, gathered_of, slot_by, with_link}
use Rattle.md_people.proofs.GatheredSteps.{more_gathered, slot_told, slot_within, within_more, within_small}
use Rattle.md_people.proofs.gathered.gathered_by.Goals as goal
use Rattle.md_people.proofs.gathered.gathered_by.Goals.{in-Some, in_default}

none_there : (n k : ℕ) → ◌≡◌ {A = Option Gathered} (get_or (replicate n None) k None) None
none_there n k = elim (cases_lt k n) [
  | inl lt ↦ get_or-replicate n k None None lt
  | inr le ↦ get_or_past (replicate n None) k None (rw length-replicate le)
]

none_within : (n : ℕ) (o : Option Gathered) → o ≡ None → IfSome o (IsWithin n)
none_within n o e = rw e tt

pub loop-link-init : goal.loop-link-init
loop-link-init c =
    let all = c.in_ok-found.ensures.items_if_clones_equal (λ y h. search rules) in
    record {
      each = rw all (length-replicate c.args.count None);
      sums = λ v k is lt. rw all (none_there c.args.count k);
      small = λ k. rw all (none_within 0 (get_or (replicate c.args.count None) k None) (none_there c.args.count k));
    }

no_row : LinkRow
no_row = record { caller = None; site = None; callee = 0; own = record { calls = 0; exits = 0; fails = 0; redos = 0; allocs = 0; words = 0; excps = 0 } }

-- the slot of the link at a place
slot_at : (g : LinkRow → Option ℕ) (links : List LinkRow) (i : ℕ) (o : Option ℕ) → i < length links → ((row : LinkRow) → row ≡ get_or links i row → o ≡ g row) → get_or (map g links) i None ≡ o
slot_at g links i o lt told = get_or-map g links i no_row None lt ∙ sym (told (get_or links i no_row) (get_or_default links i no_row (get_or links i no_row) lt))

pub loop-link-preserved : goal.loop-link-preserved
loop-link-preserved c =
    let i = c.loop-link.link in
    let f = c.args.loaded.now.profile in
    let g = slot_by c.args.slots.now f in
    let slots = map g f.links in
    let size : length (map g f.links) ≡ length f.links = length-map f.links g in
    let lt : i < length f.links = rw (c.links-links.ensures, c.profile.ensures.profile) at c.loop-link-test.true in
    let within_slots : i < length slots = omega arith in
    let slot : get_or slots i None ≡ c.slot_of.result = slot_at g f.links i c.slot_of.result lt (subst (λ (l : ℕ). (row : LinkRow) → row ≡ get_or f.links l row → c.slot_of.result ≡ g row) c.new-id.ensures c.slot_of.ensures) in
    let inv = c.loop-link.invariant in
    let each : length c.loop-link.found.items ≡ c.args.count = inv.each in
    elim c.match-slot_of.branch [
      | in-Some w ↦ (
          let s = w.in-Some.slot in
          let its : get_or slots i None ≡ Some s = slot ∙ w.in-Some.is in
          let there = c.requires i None within_slots in
          let below : s < c.args.count = rw its at there in
          let within : s < length c.loop-link.found.items = omega arith in
          let at = get_or_read c.loop-link.found.items s w.index.result.now within w.index.ensures None in
          let sum = w.with_link-sum.result in
          rw w.found-is (record {
            each = length-set c.loop-link.found.items s (Some sum) ∙ each;
            sums = λ v k is lt.
                slot_told v c.args.by c.loop-link.found.items slots i s k sum within_slots its within (inv.sums v k is lt) (inv.sums v s is below)
                (w.with_link-sum.ensures.sums v is ∙ ap (λ (o : Option Gathered). with_link v c.args.by o c.new-id.result) at ∙ ap (λ (l : ℕ). with_link v c.args.by (get_or c.loop-link.found.items s None) l) c.new-id.ensures);
            small = λ k. slot_within i c.loop-link.found.items s k sum within (inv.small k) (rw c.new-id.ensures at w.with_link-sum.ensures.within);
          }))
      | in_default w ↦ (
          let none : get_or slots i None ≡ None = slot ∙ is_none c.slot_of.result w.in_default.not-Some in
          rw w.found-is (record {
            each = each;
            sums = λ v k is lt. inv.sums v k is lt ∙ sym (more_gathered v c.args.by slots i k None within_slots none);
            small = λ k. within_more i (get_or c.loop-link.found.items k None) (inv.small k);
          }))
    ]
  where
    is_none : (o : Option ℕ) → ((x : ℕ) → o ≡ Some x → ⊥) → o ≡ None
    is_none None h = refl
    is_none (Some x) h = absurd (h x refl)

pub index-requires : goal.index-requires
index-requires c =
    let i = c.loop-link.link in
    let f = c.args.loaded.now.profile in
    let g = slot_by c.args.slots.now f in
    let size : length (map g f.links) ≡ length f.links = length-map f.links g in
    let lt : i < length f.links = rw (c.links-links.ensures, c.profile.ensures.profile) at c.loop-link-test.true in
    let its : get_or (map g f.links) i None ≡ Some c.in-Some.slot = slot_at g f.links i c.slot_of.result lt (subst (λ (l : ℕ). (row : LinkRow) → row ≡ get_or f.links l row → c.slot_of.result ≡ g row) c.new-id.ensures c.slot_of.ensures) ∙ c.in-Some.is in
    let there = c.requires i None (let e : i < length (map g f.links) = omega arith in e) in
    let below : c.in-Some.slot < c.args.count = rw its at there in
    let each = c.loop-link.invariant.each in
    omega arith

pub index_mut-requires : goal.index_mut-requires
index_mut-requires c =
    let i = c.loop-link.link in
    let f = c.args.loaded.now.profile in
    let g = slot_by c.args.slots.now f in
    let size : length (map g f.links) ≡ length f.links = length-map f.links g in
    let lt : i < length f.links = rw (c.links-links.ensures, c.profile.ensures.profile) at c.loop-link-test.true in
    let its : get_or (map g f.links) i None ≡ Some c.in-Some.slot = slot_at g f.links i c.slot_of.result lt (subst (λ (l : ℕ). (row : LinkRow) → row ≡ get_or f.links l row → c.slot_of.result ≡ g row) c.new-id.ensures c.slot_of.ensures) ∙ c.in-Some.is in
    let there = c.requires i None (let e : i < length (map g f.links) = omega arith in e) in
    let below : c.in-Some.slot < c.args.count = rw its at there in
    let each = c.loop-link.invariant.each in
    omega arith

pub with_link-sum-requires-clause-within : goal.with_link-sum-requires-clause-within
with_link-sum-requires-clause-within c =
    let i = c.loop-link.link in
    let f = c.args.loaded.now.profile in
    let g = slot_by c.args.slots.now f in
    let size : length (map g f.links) ≡ length f.links = length-map f.links g in
    let lt : i < length f.links = rw (c.links-links.ensures, c.profile.ensures.profile) at c.loop-link-test.true in
    let its : get_or (map g f.links) i None ≡ Some c.in-Some.slot = slot_at g f.links i c.slot_of.result lt (subst (λ (l : ℕ). (row : LinkRow) → row ≡ get_or f.links l row → c.slot_of.result ≡ g row) c.new-id.ensures c.slot_of.ensures) ∙ c.in-Some.is in
    let each = c.loop-link.invariant.each in
    let there = c.requires i None (let e : i < length (map g f.links) = omega arith in e) in
    let below : c.in-Some.slot < c.args.count = rw its at there in
    let at = get_or_read c.loop-link.found.items c.in-Some.slot c.index.result.now (omega arith) c.index.ensures None in
    rw (c.new-id.ensures, at) (c.loop-link.invariant.small c.in-Some.slot)

pub returns : goal.returns
returns c =
    let f = c.args.loaded.now.profile in
    let g = slot_by c.args.slots.now f in
    let slots = map g f.links in
    let end : length f.links ≤ c.loop-link.link = rw (c.links-links.ensures, c.profile.ensures.profile) at c.loop-link-test.false in
    let last : c.loop-link.link ≤ length f.links = rw (c.links-links.ensures, c.profile.ensures.profile) at c.loop-link.auto.link-end in
    let few : length f.links < 2 ^ 32 = c.profile.ensures.valid.rows.few_links in
    let size : length (map g f.links) ≡ length f.links = length-map f.links g in
    let past : length slots ≤ c.loop-link.link = omega arith in
    record {
      each = c.loop-link.invariant.each;
      sums = λ v k is lt. c.loop-link.invariant.sums v k is lt ∙ ap (λ (ss : List (Option ℕ)). gathered_of v c.args.by (places (same_option (Some k)) ss)) (take_all c.loop-link.link slots past);
      small = λ k. within_small c.loop-link.link (get_or c.loop-link.found.items k None) (omega arith) (c.loop-link.invariant.small k);
    }
