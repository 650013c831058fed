-- The tables stay tables where a link, or a context and a link, are added.
use Rattle.std.proofs.Common.{ℕ, zero, suc, All, MatchOption, ◌+◌, ◌-◌, ◌%◌, ◌^◌, ◌==◌, ◌&&◌, ◌≡◌, ◌<◌, ◌≤◌, inl, inr, Bool, true, false, List, [], ◌∷◌, ◌++◌, length, replicate, get_or, set, Option, Some, None, IfSome, IsSomeAnd, IsTrue, ◌↔◌, slice_get, refl, sym, ap, ◌∙◌, subst, arith}
use Rattle.std.specs.Map.{lookup}
use Rattle.std.proofs.lemmas.Bool.{cases_eq, eq-eqb, eqb-true, ne_eqb, and_left, and_parts}
use Rattle.std.proofs.lemmas.List.{length-set, length-append, length-replicate}
use Rattle.std.proofs.lemmas.Option.{get_or_from_slice_get}
use Rattle.md_static.specs.declared.entry.Site.{Site}
use Rattle.md_static.specs.Tables.{Static, callee_of}
use Rattle.md_static.specs.Sound.{IsSound}
use Rattle.md_static.specs.Sites.{OwnersRiseFrom, first_site, sites_of, place_of}
use Rattle.md_static.proofs.SiteLists.{site-place, sites_of-le}
use Rattle.md_trace.specs.Context.{same_option}
use Rattle.md_trace.proofs.Lists.{get-within, get-there, get-set-same, get-set-other, get-push-old, get-push-new, get-push-either}
use Rattle.md_trace.proofs.Histories.{all-at, callee-of}
use Rattle.md_dynamic.specs.declared.link.LinkRow.{LinkRow}
use Rattle.md_dynamic.specs.declared.slot.CalleeKey.{CalleeKey}
use Rattle.md_dynamic.specs.declared.slot.Slot.{Slot}
use Rattle.md_dynamic.specs.declared.span.Span.{Span}
use Rattle.md_dynamic.specs.Links.{link_row, root_row, number_of}
use Rattle.md_dynamic.specs.Rows.{Rows, base_of, Owns, IsPlainSite, IsHigherOrderSite, MayLead, IsFresh, link_in, callee_in, place_by, place_in, is_from, is_call, place_at, AreSlots, IsFound, AreUsed, AreCallees, HasItsEnds, AreTables}
use Rattle.md_dynamic.specs.Slots.{slot_of, slot_link, slots_before, is_key}
use Rattle.md_dynamic.specs.Spans.{AreSpans, span_of}
use Rattle.md_dynamic.proofs.Callees.{from-same, from-other, call-stays, IsEntered, found-new, callees-entered}
use Rattle.md_dynamic.proofs.Options.{some-and, and-some, if-some}
use Rattle.md_dynamic.proofs.Offsets.{before-push, before-next, place-inside, place-within, places-apart, wrapped}
use Rattle.md_dynamic.proofs.Positions.{number-same, number-some, number-other, number-first, number-new, number-set, number-below, none-passes}

-- the span that is read is that of the procedure
pub span-read : (sites : List Site) (procs q v : ℕ) (spans : List Span) (span : Span) → AreSpans sites procs spans → q < procs → v ≡ q → span ≡ get_or spans v span → span ≡ span_of sites q
span-read sites procs q v spans span are below at read =
    let right : slice_get spans v ≡ Some (span_of sites q) = ap (slice_get spans) at ∙ are.right q below in
    read ∙ get_or_from_slice_get spans v (span_of sites q) span right

-- ---- lists behind lists

pub get-left : {A : Type 0} (xs ys : List A) (k : ℕ) → k < length xs → slice_get (xs ++ ys) k ≡ slice_get xs k
get-left [] ys k below = absurd (omega (arith, below))
get-left (x ∷ xs) ys zero below = refl
get-left (x ∷ xs) ys (suc k) below = get-left xs ys k (omega (arith, below))

pub get-right : {A : Type 0} (xs ys : List A) (k : ℕ) → slice_get (xs ++ ys) (length xs + k) ≡ slice_get ys k
get-right [] ys k = (let e : 0 + k ≡ k = omega arith in ap (slice_get ys) e)
get-right (x ∷ xs) ys k = (let e : suc (length xs) + k ≡ suc (length xs + k) = omega arith in ap (slice_get (x ∷ (xs ++ ys))) e ∙ get-right xs ys k)

pub get-replicate : {A : Type 0} (n k : ℕ) (x : A) → k < n → slice_get (replicate n x) k ≡ Some x
get-replicate zero k x below = absurd (omega (arith, below))
get-replicate (suc n) zero x below = refl
get-replicate (suc n) (suc k) x below = get-replicate n k x (omega (arith, below))

not-from : (v s n : ℕ) (l : LinkRow) (caller : Option ℕ) → l.caller ≡ caller → IfSome caller (λ w. w < n) → n ≤ v → is_from v s l ≡ false
not-from v s n l None is below high = (let e : same_option (Some v) l.caller ≡ false = ap (same_option (Some v)) is in and_left (same_option (Some v) l.caller) (same_option (Some s) l.site) e)
not-from v s n l (Some w) is below high =
    let e : same_option (Some v) l.caller ≡ false = ap (same_option (Some v)) is ∙ ne_eqb v w (λ same. absurd (omega (arith, same, below, high))) in
    and_left (same_option (Some v) l.caller) (same_option (Some s) l.site) e

-- ---- slots

-- what is put into the slot of a higher-order site is no plain site's
pub slots-other : (sites : List Site) (nodes : List ℕ) (slots : List Slot) (links : List LinkRow) (node site : ℕ) (x : Site) (slot : Slot) → OwnersRiseFrom 0 sites → AreSlots sites nodes slots links → slice_get sites site ≡ Some x → slice_get nodes node ≡ Some x.owner →
    callee_of x.kind ≡ None → AreSlots sites nodes (set slots (place_at sites nodes node x.owner site) slot) links
slots-other sites nodes slots links node site x slot rise are there owner many =
    let place = place_at sites nodes node x.owner site in
    record {
      each = length-set slots place slot ∙ are.each;
      right = λ v s d y at kind mine.
          let apart : (v ≡ node) → (s ≡ site) → ⊥ = λ e f. (
          let own : y ≡ x = (let z : slice_get sites site ≡ Some y = ap (slice_get sites) (sym f) ∙ at in cc (z, there)) in
          let two : Some d ≡ None = sym kind ∙ ap (λ (z : Site). callee_of z.kind) own ∙ many in
          cc) in
          get-set-other slots place (place_at sites nodes v y.owner s) slot (places-apart sites nodes v s node site y x rise at mine there owner apart) ∙ are.right v s d y at kind mine;
    }

module _ (sites : List Site) (nodes : List ℕ) (slots : List Slot) (links : List LinkRow) (node site to calls : ℕ) (x : Site) (rise : OwnersRiseFrom 0 sites) (are : AreSlots sites nodes slots links)
    (there : slice_get sites site ≡ Some x) (owner : slice_get nodes node ≡ Some x.owner)
  where
    abbrev new : LinkRow
    new = link_row node site to calls

    -- a link of a plain site is put into its slot
    pub slots-plain : (c : ℕ) (slots2 : List Slot) → callee_of x.kind ≡ Some c → number_of (is_from node site) links ≡ None → slots2 ≡ set slots (place_at sites nodes node x.owner site) (slot_of (Some (length links))) →
        AreSlots sites nodes slots2 (links ++ new ∷ [])
    slots-plain c slots2 plain none now =
        let place = place_at sites nodes node x.owner site in
        let full = slot_of (Some (length links)) in
        record {
          each = ap length now ∙ length-set slots place full ∙ are.each;
          right = λ v s d y at kind mine. elim (cases_eq (place_at sites nodes v y.owner s) place) [
            | inl same ↦
                let here : (v ≡ node) × (s ≡ site) = elim (cases_eq v node) [
                  | inl one ↦ elim (cases_eq s site) [
                    | inl two ↦ (one, two)
                    | inr other ↦ absurd (places-apart sites nodes v s node site y x rise at mine there owner (λ e f. other f) same)
                  ]
                  | inr other ↦ absurd (places-apart sites nodes v s node site y x rise at mine there owner (λ e f. other e) same)
                ] in
                let found : number_of (is_from v s) (links ++ new ∷ []) ≡ Some (length links) =
                ap (λ u. number_of (is_from u s) (links ++ new ∷ [])) here.0 ∙ ap (λ u. number_of (is_from node u) (links ++ new ∷ [])) here.1
                ∙ number-new (is_from node site) 0 links new none (from-same node site to calls) ∙ (let e : 0 + length links ≡ length links = omega arith in ap (λ k. Some k) e) in
                let read : slice_get slots2 (place_at sites nodes v y.owner s) ≡ Some full =
                ap (λ zs. slice_get zs (place_at sites nodes v y.owner s)) now ∙ ap (slice_get (set slots place full)) same ∙ get-set-same slots place full (let w = place-within sites nodes node site x rise there owner in omega (arith, w, are.each)) in
                read ∙ ap (λ o. Some (slot_of o)) (sym found)
            | inr other ↦
                let apart : (v ≡ node) → (s ≡ site) → ⊥ = λ e f. other (
                let own : y ≡ x = (let z : slice_get sites site ≡ Some y = ap (slice_get sites) (sym f) ∙ at in cc (z, there)) in
                ap (λ u. place_at sites nodes u y.owner s) e ∙ ap (λ u. place_at sites nodes node y.owner u) f ∙ ap (λ (z : Site). place_at sites nodes node z.owner site) own) in
                ap (λ zs. slice_get zs (place_at sites nodes v y.owner s)) now ∙ get-set-other slots place (place_at sites nodes v y.owner s) full other ∙ are.right v s d y at kind mine
                ∙ ap (λ o. Some (slot_of o)) (sym (number-other (is_from v s) 0 links new (from-other v s node site to calls apart)))
          ];
        }

    -- one of a higher-order site is no plain site's
    pub slots-many : (slots2 : List Slot) → callee_of x.kind ≡ None → slots2 ≡ slots → AreSlots sites nodes slots2 (links ++ new ∷ [])
    slots-many slots2 many now =
        record {
          each = ap length now ∙ are.each;
          right = λ v s d y at kind mine.
              let apart : (v ≡ node) → (s ≡ site) → ⊥ = λ e f. (
              let own : y ≡ x = (let z : slice_get sites site ≡ Some y = ap (slice_get sites) (sym f) ∙ at in cc (z, there)) in
              let two : Some d ≡ None = sym kind ∙ ap (λ (z : Site). callee_of z.kind) own ∙ many in
              cc) in
              ap (λ zs. slice_get zs (place_at sites nodes v y.owner s)) now ∙ are.right v s d y at kind mine
              ∙ ap (λ o. Some (slot_of o)) (sym (number-other (is_from v s) 0 links new (from-other v s node site to calls apart)));
        }

    pub slots-entered : (o : Option ℕ) (slots2 : List Slot) → callee_of x.kind ≡ o → IfSome o (λ c. number_of (is_from node site) links ≡ None) → slots2 ≡ set slots (place_at sites nodes node x.owner site) (slot_of (Some (length links))) →
        AreSlots sites nodes slots2 (links ++ new ∷ [])
    slots-entered None slots2 kind none now =
        subst (λ zs. AreSlots sites nodes zs (links ++ new ∷ [])) (sym now) (slots-other sites nodes slots (links ++ new ∷ []) node site x (slot_of (Some (length links))) rise (slots-many slots kind refl) there owner kind)
    slots-entered (Some c) slots2 kind none now = slots-plain c slots2 kind none now

-- a context more, with its empty slots
pub slots-context : (sites : List Site) (nodes nodes2 : List ℕ) (slots slots2 : List Slot) (links : List LinkRow) (q : ℕ) → OwnersRiseFrom 0 sites → AreSlots sites nodes slots links →
    ((k : ℕ) (l : LinkRow) → slice_get links k ≡ Some l → IfSome l.caller (λ v. v < length nodes)) → nodes2 ≡ nodes ++ q ∷ [] → slots2 ≡ slots ++ replicate (length (sites_of q sites)) (slot_of None) → AreSlots sites nodes2 slots2 links
slots-context sites nodes nodes2 slots slots2 links q rise are callers nodes_are slots_are =
    let own = length (sites_of q sites) in
    let more = nodes ++ q ∷ [] in
    let len : length more ≡ length nodes + 1 = length-append nodes (q ∷ []) in
    let old : slots_before sites more (length nodes) ≡ slots_before sites nodes (length nodes) = before-push sites nodes q (length nodes) (omega arith) in
    let next = before-next sites more (length nodes) q (get-push-new nodes q) in
    let size = length-replicate own (slot_of None) in
    let all : AreSlots sites more slots2 links = record {
      each = omega (arith, ap length slots_are, length-append slots (replicate own (slot_of None)), size, are.each, old, next, ap (slots_before sites more) len);
      right = λ v s d y at kind mine. elim (get-push-either nodes q y.owner v mine) [
        | inl new ↦
            let placed = site-place q s 0 sites y rise at new.1 in
            let inside = get-within (sites_of q sites) (s - first_site q sites) y placed.1 in
            let place : place_at sites more v y.owner s ≡ length slots + (s - first_site q sites) =
            ap (λ p. place_at sites more v p s) new.1 ∙ ap (λ u. slots_before sites more u + place_of sites q s) new.0 ∙ ap (λ n. n + place_of sites q s) (old ∙ sym are.each) in
            let read : slice_get slots2 (place_at sites more v y.owner s) ≡ Some (slot_of None) =
            ap (λ zs. slice_get zs (place_at sites more v y.owner s)) slots_are ∙ ap (slice_get (slots ++ replicate own (slot_of None))) place ∙ get-right slots (replicate own (slot_of None)) (s - first_site q sites) ∙ get-replicate own (s - first_site q sites) (slot_of None) inside in
            let none : number_of (is_from v s) links ≡ None = none-passes (is_from v s) 0 links (λ k l is. not-from v s (length nodes) l l.caller refl (callers k l is) (omega (arith, new.0))) in
            read ∙ ap (λ o. Some (slot_of o)) (sym none)
        | inr was ↦
            let below = get-within nodes v y.owner was in
            let place : place_at sites more v y.owner s ≡ place_at sites nodes v y.owner s = ap (λ n. n + place_of sites y.owner s) (before-push sites nodes q v (omega (arith, below))) in
            let within = place-within sites nodes v s y rise at was in
            ap (λ zs. slice_get zs (place_at sites more v y.owner s)) slots_are ∙ ap (slice_get (slots ++ replicate own (slot_of None))) place
            ∙ get-left slots (replicate own (slot_of None)) (place_at sites nodes v y.owner s) (omega (arith, within, are.each)) ∙ are.right v s d y at kind was
      ];
    } in
    subst (λ ns. AreSlots sites ns slots2 links) (sym nodes_are) all

-- ---- the link that was used last

-- the same, where contexts and links are more than those that have slots
abbrev pub UsedIn : List Site → List ℕ → List Slot → List ℕ → List LinkRow → Type 0
UsedIn sites nodes slots nodes2 links =
    (v s : ℕ) (x : Site) → slice_get sites s ≡ Some x → callee_of x.kind ≡ None → slice_get nodes v ≡ Some x.owner
    → IsSomeAnd (slice_get slots (place_at sites nodes v x.owner s)) (λ slot. IfSome (slot_link slot) (IsFound nodes2 links v s))

-- what is found stays found as links are added
found-more : (nodes nodes2 : List ℕ) (links : List LinkRow) (row : LinkRow) (v s k : ℕ) → ((j : ℕ) (l : LinkRow) → slice_get links j ≡ Some l → slice_get nodes2 l.callee ≡ slice_get nodes l.callee) → IsFound nodes links v s k → IsFound nodes2 (links ++ row ∷ []) v s k
found-more nodes nodes2 links row v s k stay is =
    let one = some-and (λ (l : LinkRow). IsSomeAnd (slice_get nodes l.callee) (λ q. number_of (is_call nodes v s q) links ≡ Some k)) (slice_get links k) is in
    let two = some-and (λ q. number_of (is_call nodes v s q) links ≡ Some k) (slice_get nodes one.0.callee) one.2 in
    let same = number-same (is_call nodes2 v s two.0) (is_call nodes v s two.0) 0 links (λ j l at. call-stays nodes nodes2 v s two.0 l (stay j l at)) in
    and-some (λ (l : LinkRow). IsSomeAnd (slice_get nodes2 l.callee) (λ q. number_of (is_call nodes2 v s q) (links ++ row ∷ []) ≡ Some k)) (slice_get (links ++ row ∷ []) k) one.0
    (get-push-old links row k (get-within links k one.0 one.1) ∙ one.1)
    (and-some (λ q. number_of (is_call nodes2 v s q) (links ++ row ∷ []) ≡ Some k) (slice_get nodes2 one.0.callee) two.0 (stay k one.0 one.1 ∙ two.1)
    (number-first (is_call nodes2 v s two.0) 0 links row k (same ∙ two.2)))

-- and as a count of one changes
found-counted : (nodes : List ℕ) (links : List LinkRow) (j : ℕ) (old new : LinkRow) (v s k : ℕ) → slice_get links j ≡ Some old → new.callee ≡ old.callee → ((q : ℕ) → is_call nodes v s q new ≡ is_call nodes v s q old) → IsFound nodes links v s k → IsFound nodes (set links j new) v s k
found-counted nodes links j old new v s k at callee same is =
    let one = some-and (λ (l : LinkRow). IsSomeAnd (slice_get nodes l.callee) (λ q. number_of (is_call nodes v s q) links ≡ Some k)) (slice_get links k) is in
    let two = some-and (λ q. number_of (is_call nodes v s q) links ≡ Some k) (slice_get nodes one.0.callee) one.2 in
    let first : number_of (is_call nodes v s two.0) (set links j new) ≡ Some k = number-set (is_call nodes v s two.0) 0 links j old new at (same two.0) ∙ two.2 in
    let Q : LinkRow → Type 0 = λ l. IsSomeAnd (slice_get nodes l.callee) (λ q. number_of (is_call nodes v s q) (set links j new) ≡ Some k) in
    elim (cases_eq k j) [
      | inl equal ↦
          let now : slice_get (set links j new) k ≡ Some new = ap (slice_get (set links j new)) equal ∙ get-set-same links j new (get-within links j old at) in
          let own : one.0 ≡ old = (let z : slice_get links j ≡ Some one.0 = ap (slice_get links) (sym equal) ∙ one.1 in cc (z, at)) in
          let end : slice_get nodes new.callee ≡ Some two.0 = ap (slice_get nodes) (callee ∙ ap (λ (l : LinkRow). l.callee) (sym own)) ∙ two.1 in
          and-some Q (slice_get (set links j new) k) new now (and-some (λ q. number_of (is_call nodes v s q) (set links j new) ≡ Some k) (slice_get nodes new.callee) two.0 end first)
      | inr other ↦
          and-some Q (slice_get (set links j new) k) one.0 (get-set-other links j k new other ∙ one.1) (and-some (λ q. number_of (is_call nodes v s q) (set links j new) ≡ Some k) (slice_get nodes one.0.callee) two.0 two.1 first)
    ]

-- a link that is found is put into its site's slot
pub used-set : (sites : List Site) (nodes nodes2 : List ℕ) (slots : List Slot) (links : List LinkRow) (node site k : ℕ) (x : Site) → OwnersRiseFrom 0 sites → UsedIn sites nodes slots nodes2 links → slice_get sites site ≡ Some x → slice_get nodes node ≡ Some x.owner → k < 4294967295 →
    place_at sites nodes node x.owner site < length slots → (callee_of x.kind ≡ None → IsFound nodes2 links node site k) → UsedIn sites nodes (set slots (place_at sites nodes node x.owner site) (slot_of (Some k))) nodes2 links
used-set sites nodes nodes2 slots links node site k x rise are there owner few within found = λ v s y at many mine.
    let place = place_at sites nodes node x.owner site in
    let slot = slot_of (Some k) in
    let P : ℕ → ℕ → Slot → Type 0 = λ a b z. IfSome (slot_link z) (IsFound nodes2 links a b) in
    let told : slot_link slot ≡ Some k = rw (ne_eqb k 4294967295 (λ same. absurd (omega (arith, same, few)))) refl in
    let other : ((v ≡ node) → (s ≡ site) → ⊥) → IsSomeAnd (slice_get (set slots place slot) (place_at sites nodes v y.owner s)) (P v s) = λ ne.
    subst (λ o. IsSomeAnd o (P v s)) (sym (get-set-other slots place (place_at sites nodes v y.owner s) slot (places-apart sites nodes v s node site y x rise at mine there owner ne))) (are v s y at many mine) in
    elim (cases_eq v node) [
      | inl one ↦ elim (cases_eq s site) [
        | inl two ↦
            let own : y ≡ x = (let z : slice_get sites site ≡ Some y = ap (slice_get sites) (sym two) ∙ at in cc (z, there)) in
            let spot : place_at sites nodes v y.owner s ≡ place = ap (λ u. place_at sites nodes u y.owner s) one ∙ ap (λ u. place_at sites nodes node y.owner u) two ∙ ap (λ (z : Site). place_at sites nodes node z.owner site) own in
            let now : slice_get (set slots place slot) (place_at sites nodes v y.owner s) ≡ Some slot = ap (slice_get (set slots place slot)) spot ∙ get-set-same slots place slot within in
            let here : P node site slot = subst (λ o. IfSome o (IsFound nodes2 links node site)) (sym told) (found (ap (λ (z : Site). callee_of z.kind) (sym own) ∙ many)) in
            and-some (P v s) (slice_get (set slots place slot) (place_at sites nodes v y.owner s)) slot now (subst (λ a. P a s slot) (sym one) (subst (λ b. P node b slot) (sym two) here))
        | inr ne ↦ other (λ e f. ne f)
      ]
      | inr ne ↦ other (λ e f. ne e)
    ]

-- links are added
used-more : (sites : List Site) (nodes nodes2 : List ℕ) (slots : List Slot) (links : List LinkRow) (row : LinkRow) → ((j : ℕ) (l : LinkRow) → slice_get links j ≡ Some l → slice_get nodes2 l.callee ≡ slice_get nodes l.callee) → AreUsed sites nodes slots links →
    UsedIn sites nodes slots nodes2 (links ++ row ∷ [])
used-more sites nodes nodes2 slots links row stay are = λ v s y at many mine.
    let slot = some-and (λ slot. IfSome (slot_link slot) (IsFound nodes links v s)) (slice_get slots (place_at sites nodes v y.owner s)) (are v s y at many mine) in
    and-some (λ slot. IfSome (slot_link slot) (IsFound nodes2 (links ++ row ∷ []) v s)) (slice_get slots (place_at sites nodes v y.owner s)) slot.0 slot.1
    (if-some (IsFound nodes links v s) (IsFound nodes2 (links ++ row ∷ []) v s) (slot_link slot.0) (λ k is. found-more nodes nodes2 links row v s k stay is) slot.2)

-- a context more, with its empty slots
used-context : (sites : List Site) (nodes nodes2 : List ℕ) (slots : List Slot) (links : List LinkRow) (q : ℕ) → OwnersRiseFrom 0 sites → length slots ≡ slots_before sites nodes (length nodes) → UsedIn sites nodes slots nodes2 links →
    UsedIn sites (nodes ++ q ∷ []) (slots ++ replicate (length (sites_of q sites)) (slot_of None)) nodes2 links
used-context sites nodes nodes2 slots links q rise each are = λ v s y at many mine.
    let own = length (sites_of q sites) in
    let more = nodes ++ q ∷ [] in
    let all = slots ++ replicate own (slot_of None) in
    let old : slots_before sites more (length nodes) ≡ slots_before sites nodes (length nodes) = before-push sites nodes q (length nodes) (omega arith) in
    let P : Slot → Type 0 = λ slot. IfSome (slot_link slot) (IsFound nodes2 links v s) in
    elim (get-push-either nodes q y.owner v mine) [
      | inl new ↦
          let placed = site-place q s 0 sites y rise at new.1 in
          let inside = get-within (sites_of q sites) (s - first_site q sites) y placed.1 in
          let place : place_at sites more v y.owner s ≡ length slots + (s - first_site q sites) =
          ap (λ p. place_at sites more v p s) new.1 ∙ ap (λ u. slots_before sites more u + place_of sites q s) new.0 ∙ ap (λ n. n + place_of sites q s) (old ∙ sym each) in
          let read : slice_get all (place_at sites more v y.owner s) ≡ Some (slot_of None) =
          ap (slice_get all) place ∙ get-right slots (replicate own (slot_of None)) (s - first_site q sites) ∙ get-replicate own (s - first_site q sites) (slot_of None) inside in
          and-some P (slice_get all (place_at sites more v y.owner s)) (slot_of None) read tt
      | inr was ↦
          let below = get-within nodes v y.owner was in
          let place : place_at sites more v y.owner s ≡ place_at sites nodes v y.owner s = ap (λ n. n + place_of sites y.owner s) (before-push sites nodes q v (omega (arith, below))) in
          let within = place-within sites nodes v s y rise at was in
          let read : slice_get all (place_at sites more v y.owner s) ≡ slice_get slots (place_at sites nodes v y.owner s) =
          ap (slice_get all) place ∙ get-left slots (replicate own (slot_of None)) (place_at sites nodes v y.owner s) (omega (arith, within, each)) in
          subst (λ o. IsSomeAnd o P) (sym read) (are v s y at many was)
    ]

-- ---- the tables

-- what is known where a link is added
pub record Adding (sites : List Site) (nodes : List ℕ) (slots slots2 : List Slot) (callees callees2 : List (CalleeKey × ℕ)) (links : List LinkRow) (node site q : ℕ) : Type 0 where
  pub row : Site
  pub there : slice_get sites site ≡ Some row
  pub owner : slice_get nodes node ≡ Some row.owner
  pub fresh : MatchOption (callee_of row.kind) (number_of (is_call nodes node site q) links ≡ None) (λ c. number_of (is_from node site) links ≡ None)
  pub slots_now : slots2 ≡ set slots (place_at sites nodes node row.owner site) (slot_of (Some (length links)))
  pub callees_now : IsEntered (callee_of row.kind) node site q (length links) callees callees2

fresh-plain : (A B : Type 0) (o : Option ℕ) → MatchOption o A (λ c. B) → IfSome o (λ c. B)
fresh-plain A B None f = tt
fresh-plain A B (Some c) f = f

fresh-none : (A B : Type 0) (o : Option ℕ) → MatchOption o A (λ c. B) → o ≡ None → A
fresh-none A B None f none = f
fresh-none A B (Some c) f none = absurd (cc)

fresh-many : (A B : Type 0) (o : Option ℕ) → MatchOption o A (λ c. B) → MatchOption o A (λ c. Unit {0})
fresh-many A B None f = f
fresh-many A B (Some c) f = tt

-- the slot of the new link's site has it
used-entered : (s : Static) (nodes nodes2 : List ℕ) (slots slots2 : List Slot) (callees callees2 : List (CalleeKey × ℕ)) (links : List LinkRow) (node site q to calls : ℕ) → OwnersRiseFrom 0 s.sites → length slots ≡ slots_before s.sites nodes (length nodes) → AreUsed s.sites nodes slots links → AreCallees s.sites nodes callees links →
    Adding s.sites nodes slots slots2 callees callees2 links node site q → ((k : ℕ) (l : LinkRow) → slice_get links k ≡ Some l → slice_get nodes2 l.callee ≡ slice_get nodes l.callee) → slice_get nodes2 to ≡ Some q → length links < 4294967295 →
    UsedIn s.sites nodes slots2 nodes2 (links ++ link_row node site to calls ∷ [])
used-entered s nodes nodes2 slots slots2 callees callees2 links node site q to calls rise each used are a stay end few =
    let new = link_row node site to calls in
    let within = place-within s.sites nodes node site a.row rise a.there a.owner in
    let more = used-more s.sites nodes nodes2 slots links new stay used in
    let found : callee_of a.row.kind ≡ None → IsFound nodes2 (links ++ new ∷ []) node site (length links) = λ many.
    found-new s.sites nodes nodes2 callees callees2 links node site q to calls a.row are a.there stay end (fresh-none _ _ (callee_of a.row.kind) a.fresh many) in
    subst (λ zs. UsedIn s.sites nodes zs nodes2 (links ++ new ∷ [])) (sym a.slots_now)
    (used-set s.sites nodes nodes2 slots (links ++ new ∷ []) node site (length links) a.row rise more a.there a.owner few (omega (arith, within, each)) found)

-- one link more
pub link-tables : (s : Static) (spans : List Span) (nodes bases : List ℕ) (slots slots2 : List Slot) (callees callees2 : List (CalleeKey × ℕ)) (links links2 : List LinkRow) (active : List (Option ℕ)) (node site q to calls : ℕ) →
    AreTables s spans nodes bases slots callees links active → Adding s.sites nodes slots slots2 callees callees2 links node site q → slice_get nodes to ≡ Some q → links2 ≡ links ++ link_row node site to calls ∷ [] → length links < 4294967295 →
    AreTables s spans nodes bases slots2 callees2 links2 active
link-tables s spans nodes bases slots slots2 callees callees2 links links2 active node site q to calls t a end more few =
    let new = link_row node site to calls in
    let len : length (links ++ new ∷ []) ≡ length links + 1 = length-append links (new ∷ []) in
    let all : AreTables s spans nodes bases slots2 callees2 (links ++ new ∷ []) active = record {
      sound = t.sound;
      spans_right = t.spans_right;
      nodes_there = t.nodes_there;
      bases_are = t.bases_are;
      slots_are = slots-entered s.sites nodes slots links node site to calls a.row t.sound.owners_rise t.slots_are a.there a.owner (callee_of a.row.kind) slots2 refl (fresh-plain _ _ (callee_of a.row.kind) a.fresh) a.slots_now;
      used_are = used-entered s nodes nodes slots slots2 callees callees2 links node site q to calls t.sound.owners_rise t.slots_are.each t.used_are t.callees_are a (λ k l is. refl) end few;
      callees_are = callees-entered s.sites nodes nodes callees callees2 links node site q to calls a.row t.callees_are a.there (λ k l is. refl) end (callee_of a.row.kind) refl (fresh-many _ _ (callee_of a.row.kind) a.fresh) a.owner (λ v p is. is) a.callees_now;
      ends = λ k l is. elim (get-push-either links new l k is) [
        | inl last ↦ subst (HasItsEnds nodes) (sym last.1) (get-within nodes node a.row.owner a.owner, get-within nodes to q end)
        | inr old ↦ t.ends k l old
      ];
      pointers = t.pointers;
      active_there = t.active_there;
      fewer = omega (arith, t.fewer, len);
      few = omega (arith, few, len);
      few_slots = omega (arith, t.few_slots, ap length a.slots_now, length-set slots (place_at s.sites nodes node a.row.owner site) (slot_of (Some (length links))));
    } in
    subst (λ ls. AreTables s spans nodes bases slots2 callees2 ls active) (sym more) all

ends-more : (nodes : List ℕ) (q : ℕ) (l : LinkRow) (caller : Option ℕ) → l.caller ≡ caller → HasItsEnds nodes l → HasItsEnds (nodes ++ q ∷ []) l
ends-more nodes q l None is ends = (let P : Option ℕ → Type 0 = λ o. IfSome o (λ v. v < length (nodes ++ q ∷ [])) in subst P (sym is) tt, omega (arith, ends.1, length-append nodes (q ∷ [])))
ends-more nodes q l (Some v) is ends =
    let P : Option ℕ → Type 0 = λ o. IfSome o (λ w. w < length nodes) in
    let Q : Option ℕ → Type 0 = λ o. IfSome o (λ w. w < length (nodes ++ q ∷ [])) in
    let below : v < length nodes = subst P is ends.0 in
    (subst Q (sym is) (omega (arith, below, length-append nodes (q ∷ []))), omega (arith, ends.1, length-append nodes (q ∷ [])))

-- a context more, and a link
pub context-tables : (s : Static) (spans : List Span) (nodes nodes2 bases bases2 : List ℕ) (slots mid slots2 : List Slot) (callees callees2 : List (CalleeKey × ℕ)) (links links2 : List LinkRow) (active : List (Option ℕ)) (node site q calls base : ℕ) →
    AreTables s spans nodes bases slots callees links active → Adding s.sites nodes slots mid callees callees2 links node site q → q < length s.procs → nodes2 ≡ nodes ++ q ∷ [] → bases2 ≡ bases ++ base ∷ [] → base ≡ (length slots + (2 ^ 32 - first_site q s.sites)) % 2 ^ 32 → length slots2 < 2 ^ 32 →
    slots2 ≡ mid ++ replicate (length (sites_of q s.sites)) (slot_of None) → links2 ≡ links ++ link_row node site (length nodes) calls ∷ [] → length links < 4294967295 → AreTables s spans nodes2 bases2 slots2 callees2 links2 active
context-tables s spans nodes nodes2 bases bases2 slots mid slots2 callees callees2 links links2 active node site q calls base t a below nodes_are bases_are base_is few_slots slots_are more few =
    let new = link_row node site (length nodes) calls in
    let ns = nodes ++ q ∷ [] in
    let len : length (links ++ new ∷ []) ≡ length links + 1 = length-append links (new ∷ []) in
    let count : length ns ≡ length nodes + 1 = length-append nodes (q ∷ []) in
    let mids = slots-entered s.sites nodes slots links node site (length nodes) calls a.row t.sound.owners_rise t.slots_are a.there a.owner (callee_of a.row.kind) mid refl (fresh-plain _ _ (callee_of a.row.kind) a.fresh) a.slots_now in
    let callers : (k : ℕ) (l : LinkRow) → slice_get (links ++ new ∷ []) k ≡ Some l → IfSome l.caller (λ v. v < length nodes) = λ k l is. elim (get-push-either links new l k is) [
      | inl last ↦ subst (λ (z : LinkRow). IfSome z.caller (λ v. v < length nodes)) (sym last.1) (get-within nodes node a.row.owner a.owner)
      | inr old ↦ (t.ends k l old).0
    ] in
    let all : AreTables s spans ns (bases ++ base ∷ []) slots2 callees2 (links ++ new ∷ []) active = record {
      sound = t.sound;
      spans_right = t.spans_right;
      nodes_there = λ v p is. elim (get-push-either nodes q p v is) [ inl last ↦ omega (arith, last.1, below) | inr old ↦ t.nodes_there v p old ];
      bases_are = record {
        each = omega (arith, length-append bases (base ∷ []), count, t.bases_are.each);
        right = λ v p is. elim (get-push-either nodes q p v is) [
          | inl last ↦
              let start : length slots ≡ slots_before s.sites ns v = t.slots_are.each ∙ sym (before-push s.sites nodes q (length nodes) (omega arith)) ∙ ap (slots_before s.sites ns) (sym last.0) in
              ap (slice_get (bases ++ base ∷ [])) (last.0 ∙ sym t.bases_are.each) ∙ get-push-new bases base
              ∙ ap (λ n. Some n) (base_is ∙ ap (λ n. (n + (2 ^ 32 - first_site q s.sites)) % 2 ^ 32) start ∙ ap (λ n. (slots_before s.sites ns v + (2 ^ 32 - first_site n s.sites)) % 2 ^ 32) (sym last.1))
          | inr old ↦
              let before = get-within nodes v p old in
              get-push-old bases base v (omega (arith, before, t.bases_are.each)) ∙ t.bases_are.right v p old
              ∙ ap (λ n. Some ((n + (2 ^ 32 - first_site p s.sites)) % 2 ^ 32)) (sym (before-push s.sites nodes q v (omega (arith, before))))
        ];
      };
      slots_are = slots-context s.sites nodes ns mid slots2 (links ++ new ∷ []) q t.sound.owners_rise mids callers refl slots_are;
      used_are =
          let mid_used = used-entered s nodes ns slots mid callees callees2 links node site q (length nodes) calls t.sound.owners_rise t.slots_are.each t.used_are t.callees_are a (λ k l is. get-push-old nodes q l.callee (t.ends k l is).1) (get-push-new nodes q) few in
          subst (λ zs. AreUsed s.sites ns zs (links ++ new ∷ [])) (sym slots_are) (used-context s.sites nodes ns mid (links ++ new ∷ []) q t.sound.owners_rise mids.each mid_used);
      callees_are = callees-entered s.sites nodes ns callees callees2 links node site q (length nodes) calls a.row t.callees_are a.there (λ k l is. get-push-old nodes q l.callee (t.ends k l is).1) (get-push-new nodes q)
          (callee_of a.row.kind) refl (fresh-many _ _ (callee_of a.row.kind) a.fresh) a.owner (λ v p is. get-push-old nodes q v (get-within nodes v p is) ∙ is) a.callees_now;
      ends = λ k l is. elim (get-push-either links new l k is) [
        | inl last ↦ subst (HasItsEnds ns) (sym last.1) ((let within = get-within nodes node a.row.owner a.owner in omega (arith, within, count)), omega (arith, count))
        | inr old ↦ ends-more nodes q l l.caller refl (t.ends k l old)
      ];
      pointers = t.pointers;
      active_there = λ r v is. get-push-old nodes q v (get-within nodes v r (t.active_there r v is)) ∙ t.active_there r v is;
      fewer = omega (arith, t.fewer, len, count);
      few = omega (arith, few, len);
      few_slots = few_slots;
    } in
    subst (λ ls. AreTables s spans nodes2 bases2 slots2 callees2 ls active) (sym more) (subst (λ fs. AreTables s spans nodes2 fs slots2 callees2 (links ++ new ∷ []) active) (sym bases_are) (subst (λ xs. AreTables s spans xs (bases ++ base ∷ []) slots2 callees2 (links ++ new ∷ []) active) (sym nodes_are) all))

no-pointer : (n q v : ℕ) → slice_get (replicate n None) q ≡ Some (Some v) → ⊥
no-pointer zero q v is = absurd (cc)
no-pointer (suc n) zero v is = absurd (cc)
no-pointer (suc n) (suc q) v is = no-pointer n q v is

only-member : {A : Type 0} (x y : A) (v : ℕ) → slice_get (x ∷ []) v ≡ Some y → (v ≡ 0) × (y ≡ x)
only-member x y zero is = (refl, cc)
only-member x y (suc v) is = absurd (cc)

-- before the run
pub new-tables : (s : Static) (spans : List Span) (main base : ℕ) → base ≡ (0 + (2 ^ 32 - first_site main s.sites)) % 2 ^ 32 → IsSound s → AreSpans s.sites (length s.procs) spans → main < length s.procs →
    AreTables s spans (main ∷ []) (base ∷ []) (replicate (length (sites_of main s.sites)) (slot_of None)) [] (root_row ∷ []) (replicate (length s.procs) None)
new-tables s spans main base base_is sound right below =
    record {
      sound = sound;
      spans_right = right;
      nodes_there = λ v p is. omega (arith, (only-member main p v is).1, below);
      bases_are = record { each = refl; right = λ v p is. first v p (only-member main p v is) };
      slots_are = record {
        each = omega (arith, length-replicate (length (sites_of main s.sites)) (slot_of None));
        right = λ v t c x at kind mine.
            let only = only-member main x.owner v mine in
            let placed = site-place main t 0 s.sites x sound.owners_rise at only.1 in
            let inside = get-within (sites_of main s.sites) (t - first_site main s.sites) x placed.1 in
            let place : place_at s.sites (main ∷ []) v x.owner t ≡ t - first_site main s.sites =
            ap (λ u. slots_before s.sites (main ∷ []) u + place_of s.sites x.owner t) only.0 ∙ (let e : 0 + place_of s.sites x.owner t ≡ place_of s.sites x.owner t = omega arith in e) ∙ ap (λ p. place_of s.sites p t) only.1 in
            ap (slice_get (replicate (length (sites_of main s.sites)) (slot_of None))) place ∙ get-replicate (length (sites_of main s.sites)) (t - first_site main s.sites) (slot_of None) inside;
      };
      used_are = λ v t x at kind mine.
          let only = only-member main x.owner v mine in
          let placed = site-place main t 0 s.sites x sound.owners_rise at only.1 in
          let inside = get-within (sites_of main s.sites) (t - first_site main s.sites) x placed.1 in
          let place : place_at s.sites (main ∷ []) v x.owner t ≡ t - first_site main s.sites =
          ap (λ u. slots_before s.sites (main ∷ []) u + place_of s.sites x.owner t) only.0 ∙ (let e : 0 + place_of s.sites x.owner t ≡ place_of s.sites x.owner t = omega arith in e) ∙ ap (λ p. place_of s.sites p t) only.1 in
          let read = ap (slice_get (replicate (length (sites_of main s.sites)) (slot_of None))) place ∙ get-replicate (length (sites_of main s.sites)) (t - first_site main s.sites) (slot_of None) inside in
          and-some (λ slot. IfSome (slot_link slot) (IsFound (main ∷ []) (root_row ∷ []) v t)) (slice_get (replicate (length (sites_of main s.sites)) (slot_of None)) (place_at s.sites (main ∷ []) v x.owner t)) (slot_of None) read tt;
      callees_are = record { right = λ v t q x at kind. refl; alone = λ v t q k is. absurd (cc) };
      ends = λ k l is. subst (HasItsEnds (main ∷ [])) (sym (only-member root_row l k is).1) (tt, omega arith);
      pointers = length-replicate (length s.procs) None;
      active_there = λ q v is. absurd (no-pointer (length s.procs) q v is);
      fewer = omega arith;
      few = omega arith;
      few_slots = omega (arith, length-replicate (length (sites_of main s.sites)) (slot_of None), sites_of-le main s.sites, sound.few_sites);
    }
  where
    first : (v p : ℕ) → (v ≡ 0) × (p ≡ main) → slice_get (base ∷ []) v ≡ Some (base_of s.sites (main ∷ []) v p)
    first v p is =
        ap (slice_get (base ∷ [])) is.0 ∙ ap Some (base_is ∙ ap (λ u. (slots_before s.sites (main ∷ []) u + (2 ^ 32 - first_site main s.sites)) % 2 ^ 32) (sym is.0)
        ∙ ap (λ n. (slots_before s.sites (main ∷ []) v + (2 ^ 32 - first_site n s.sites)) % 2 ^ 32) (sym is.1))

pub first-tables : (s : Static) (spans : List Span) (main base p : ℕ) (span : Span) (nodes bases : List ℕ) (slots : List Slot) (callees : List (CalleeKey × ℕ)) (links : List LinkRow) (active : List (Option ℕ)) → IsSound s → AreSpans s.sites (length s.procs) spans → main < length s.procs →
    p ≡ main → span ≡ get_or spans p span → base ≡ (0 + (2 ^ 32 - span.first)) % 2 ^ 32 → nodes ≡ main ∷ [] → bases ≡ base ∷ [] → slots ≡ replicate span.count (slot_of None) → callees ≡ [] → links ≡ root_row ∷ [] → active ≡ replicate (length s.procs) None → AreTables s spans nodes bases slots callees links active
first-tables s spans main base p span nodes bases slots callees links active sound right below at read start n f x c l a =
    let span_is = span-read s.sites (length s.procs) main p spans span right below at read in
    let size : span.count ≡ length (sites_of main s.sites) = ap (λ (z : Span). z.count) span_is in
    let all = new-tables s spans main base (start ∙ ap (λ (z : Span). (0 + (2 ^ 32 - z.first)) % 2 ^ 32) span_is) sound right below in
    let e = x ∙ ap (λ k. replicate k (slot_of None)) size in
    subst (λ z. AreTables s spans nodes bases slots callees links z) (sym a)
    (subst (λ z. AreTables s spans nodes bases slots callees z (replicate (length s.procs) None)) (sym l)
    (subst (λ z. AreTables s spans nodes bases slots z (root_row ∷ []) (replicate (length s.procs) None)) (sym c)
    (subst (λ z. AreTables s spans nodes bases z [] (root_row ∷ []) (replicate (length s.procs) None)) (sym e)
    (subst (λ z. AreTables s spans nodes z (replicate (length (sites_of main s.sites)) (slot_of None)) [] (root_row ∷ []) (replicate (length s.procs) None)) (sym f)
    (subst (λ z. AreTables s spans z (base ∷ []) (replicate (length (sites_of main s.sites)) (slot_of None)) [] (root_row ∷ []) (replicate (length s.procs) None)) (sym n) all)))))

-- what a site may lead to is a procedure
pub callee-there : (r : Rows) (site q : ℕ) → All (λ x. IfSome (callee_of x.kind) (λ p. p < length r.statics.procs)) r.statics.sites → MayLead r site q → q < length r.statics.procs
callee-there r site q there may =
    let x = some-and (λ (y : Site). MatchOption (callee_of y.kind) (q < length r.statics.procs) (λ c. q ≡ c)) (slice_get r.statics.sites site) may in
    callee-of (length r.statics.procs) q (callee_of x.0.kind) (all-at (λ (y : Site). IfSome (callee_of y.kind) (λ p. p < length r.statics.procs)) r.statics.sites site x.0 there x.1) x.2

-- another context, or none, is made active
pub active-tables : (s : Static) (spans : List Span) (nodes bases : List ℕ) (slots : List Slot) (callees : List (CalleeKey × ℕ)) (links : List LinkRow) (active : List (Option ℕ)) (q : ℕ) (to : Option ℕ) → AreTables s spans nodes bases slots callees links active →
    q < length s.procs → IfSome to (λ v. slice_get nodes v ≡ Some q) → AreTables s spans nodes bases slots callees links (set active q to)
active-tables s spans nodes bases slots callees links active q to t below of =
    record {
      sound = t.sound;
      spans_right = t.spans_right;
      nodes_there = t.nodes_there;
      bases_are = t.bases_are;
      slots_are = t.slots_are;
      used_are = t.used_are;
      callees_are = t.callees_are;
      ends = t.ends;
      pointers = length-set active q to ∙ t.pointers;
      active_there = λ r v is. elim (cases_eq r q) [
        | inl same ↦
            let now : slice_get (set active q to) r ≡ Some to = ap (slice_get (set active q to)) same ∙ get-set-same active q to (omega (arith, t.pointers)) in
            let e : to ≡ Some v = cc (now, is) in
            let P : Option ℕ → Type 0 = λ o. IfSome o (λ w. slice_get nodes w ≡ Some q) in
            subst P e of ∙ ap Some (sym same)
        | inr other ↦ t.active_there r v (sym (get-set-other active q r to other) ∙ is)
      ];
      fewer = t.fewer;
      few = t.few;
      few_slots = t.few_slots;
    }

-- a count of a link changes
pub count-tables : (s : Static) (spans : List Span) (nodes bases : List ℕ) (slots : List Slot) (callees : List (CalleeKey × ℕ)) (links : List LinkRow) (active : List (Option ℕ)) (j : ℕ) (old new : LinkRow) → AreTables s spans nodes bases slots callees links active →
    slice_get links j ≡ Some old → new.caller ≡ old.caller → new.site ≡ old.site → new.callee ≡ old.callee → AreTables s spans nodes bases slots callees (set links j new) active
count-tables s spans nodes bases slots callees links active j old new t at caller site callee =
    let len = length-set links j new in
    let from : (v n : ℕ) → is_from v n new ≡ is_from v n old = λ v n. ap (λ o. same_option (Some v) o && same_option (Some n) new.site) caller ∙ ap (λ o. same_option (Some v) old.caller && same_option (Some n) o) site in
    let call : (v n q : ℕ) → is_call nodes v n q new ≡ is_call nodes v n q old = λ v n q. ap (λ b. b && same_option (Some q) (slice_get nodes new.callee)) (from v n) ∙ ap (λ k. is_from v n old && same_option (Some q) (slice_get nodes k)) callee in
    record {
      sound = t.sound;
      spans_right = t.spans_right;
      nodes_there = t.nodes_there;
      bases_are = t.bases_are;
      slots_are = record { each = t.slots_are.each; right = λ v n c x there kind mine. t.slots_are.right v n c x there kind mine ∙ ap (λ o. Some (slot_of o)) (sym (number-set (is_from v n) 0 links j old new at (from v n))) };
      used_are = λ v n x there kind mine.
          let slot = some-and (λ slot. IfSome (slot_link slot) (IsFound nodes links v n)) (slice_get slots (place_at s.sites nodes v x.owner n)) (t.used_are v n x there kind mine) in
          and-some (λ slot. IfSome (slot_link slot) (IsFound nodes (set links j new) v n)) (slice_get slots (place_at s.sites nodes v x.owner n)) slot.0 slot.1
          (if-some (IsFound nodes links v n) (IsFound nodes (set links j new) v n) (slot_link slot.0) (λ k is. found-counted nodes links j old new v n k at callee (call v n) is) slot.2);
      callees_are = record { right = λ v n q x there kind. t.callees_are.right v n q x there kind ∙ sym (number-set (is_call nodes v n q) 0 links j old new at (call v n q)); alone = t.callees_are.alone };
      ends = λ k l is. elim (cases_eq k j) [
        | inl same ↦
            let e : l ≡ new = (let now : slice_get (set links j new) k ≡ Some new = ap (slice_get (set links j new)) same ∙ get-set-same links j new (get-within links j old at) in cc (now, is)) in
            let was = t.ends j old at in
            let P : Option ℕ → Type 0 = λ o. IfSome o (λ v. v < length nodes) in
            let mine : HasItsEnds nodes new = (subst P (sym caller) was.0, omega (arith, callee, was.1)) in
            subst (HasItsEnds nodes) (sym e) mine
        | inr other ↦ t.ends k l (sym (get-set-other links j k new other) ∙ is)
      ];
      pointers = t.pointers;
      active_there = t.active_there;
      fewer = omega (arith, len, t.fewer);
      few = omega (arith, len, t.few);
      few_slots = t.few_slots;
    }

-- ---- what is read

-- a slot with a link that is there tells it
pub slot-told : (o : Option ℕ) (n : ℕ) → n < 4294967296 → IfSome o (λ k. k < n) → slot_link (slot_of o) ≡ o
slot-told None n few below = refl
slot-told (Some k) n few below = rw (ne_eqb k 4294967295 (λ same. absurd (omega (arith, same, below, few)))) refl

number-bounded : (p : LinkRow → Bool) (links : List LinkRow) (o : Option ℕ) → number_of p links ≡ o → IfSome o (λ k. k < length links)
number-bounded p links None is = tt
number-bounded p links (Some k) is = (let at = number-some p 0 links k is in let within = get-within links at.0 at.1 at.3 in omega (arith, at.2, within))

pub owned : (r : Rows) (node site : ℕ) → Owns r node site → (x : Site) × (slice_get r.statics.sites site ≡ Some x) × (slice_get r.nodes node ≡ Some x.owner)
owned r node site own = some-and (λ (x : Site). slice_get r.nodes node ≡ Some x.owner) (slice_get r.statics.sites site) own

-- the link that is read, and the context to which it leads
pub end-read : (r : Rows) (spans : List Span) (bases : List ℕ) (slots : List Slot) (callees : List (CalleeKey × ℕ)) → AreTables r.statics spans r.nodes bases slots callees r.links r.active → (old : Rows) → r ≡ old → (link k : ℕ) (row : LinkRow) → link < length old.links → k ≡ link → row ≡ get_or r.links k row →
    (row.callee < length r.nodes) × (slice_get old.links link ≡ Some row)
end-read r spans bases slots callees t old same link k row below at read =
    let within : link < length r.links = omega (arith, below, ap (λ (z : Rows). length z.links) same) in
    let there = get-there r.links link within in
    let own : row ≡ there.0 = read ∙ ap (λ j. get_or r.links j row) at ∙ get_or_from_slice_get r.links link there.0 row there.1 in
    (omega (arith, ap (λ (l : LinkRow). l.callee) own, (t.ends link there.0 there.1).1), ap (λ (z : Rows). slice_get z.links link) (sym same) ∙ there.1 ∙ ap Some (sym own))

-- whether it is a context of a procedure
pub end-told : (nodes : List ℕ) (k end p q : ℕ) (same : Bool) → end < length nodes → k ≡ end → p ≡ get_or nodes k p → same ≡ (p == q) → IsTrue same ↔ slice_get nodes end ≡ Some q
end-told nodes k end p q same below at read told =
    let there = get-there nodes end below in
    let own : p ≡ there.0 = read ∙ ap (λ j. get_or nodes j p) at ∙ get_or_from_slice_get nodes end there.0 p there.1 in (
      λ led. there.1 ∙ ap Some (sym own ∙ eqb-true p q (sym told ∙ led)),
      λ is. told ∙ eq-eqb p q (own ∙ (let e : Some there.0 ≡ Some q = sym there.1 ∙ is in cc)),
    )

-- what a number is the same as
end-is : (o : Option ℕ) (q : ℕ) → same_option (Some q) o ≡ true → o ≡ Some q
end-is None q is = absurd (cc)
end-is (Some p) q is = ap Some (sym (eqb-true q p is))

module _ (r : Rows) (spans : List Span) (bases : List ℕ) (slots : List Slot) (callees : List (CalleeKey × ℕ)) (t : AreTables r.statics spans r.nodes bases slots callees r.links r.active) (old : Rows) (same : r ≡ old) (node site : ℕ) (own : Owns old node site) where
  abbrev pub here : Owns r node site
  here = subst (λ (z : Rows). Owns z node site) (sym same) own

  place-is : (x : Site) → slice_get r.nodes node ≡ Some x.owner → place_in r node site ≡ place_at r.statics.sites r.nodes node x.owner site
  place-is x owner = ap (λ o. place_by r.statics.sites r.nodes node o site) owner

  pub place-bound : (place : ℕ) → place ≡ place_in old node site → place < length slots
  place-bound place is =
      let x = owned r node site here in
      let mine : place ≡ place_at r.statics.sites r.nodes node x.0.owner site = is ∙ ap (λ (z : Rows). place_in z node site) (sym same) ∙ place-is x.0 x.2 in
      omega (arith, mine, place-within r.statics.sites r.nodes node site x.0 t.sound.owners_rise x.1 x.2, t.slots_are.each)

  -- the context is there
  pub base-there : (w : ℕ) → w ≡ node → w < length bases
  base-there w at_node = (let x = owned r node site here in let below = get-within r.nodes node x.0.owner x.2 in omega (arith, at_node, below, t.bases_are.each))

  -- what is read of it leads to the place
  pub place-read : (n w base : ℕ) → n ≡ site → w ≡ node → base ≡ get_or bases w base → (base + n) % 4294967296 ≡ place_in old node site
  place-read n w base at_site at_node read =
      let x = owned r node site here in
      let first = base_of r.statics.sites r.nodes node x.0.owner in
      let inside = place-inside r.statics.sites r.nodes node site x.0 t.sound.owners_rise x.1 x.2 in
      let within = place-within r.statics.sites r.nodes node site x.0 t.sound.owners_rise x.1 x.2 in
      let small = get-within r.statics.sites site x.0 x.1 in
      let due : base ≡ first = read ∙ ap (λ k. get_or bases k base) at_node ∙ get_or_from_slice_get bases node first base (t.bases_are.right node x.0.owner x.2) in
      let value : (first + site) % 4294967296 ≡ place_at r.statics.sites r.nodes node x.0.owner site =
      wrapped (slots_before r.statics.sites r.nodes node) (first_site x.0.owner r.statics.sites) site inside.0 (omega (arith, small, t.sound.few_sites)) (omega (arith, within, t.slots_are.each, t.few_slots)) in
      ap (λ z. (z + n) % 4294967296) due ∙ ap (λ z. (first + z) % 4294967296) at_site ∙ value ∙ sym (place-is x.0 x.2) ∙ ap (λ (z : Rows). place_in z node site) same

  -- the link of a plain site
  pub link-read : (place : ℕ) (found : Slot) → IsPlainSite old site → place ≡ place_in old node site → found ≡ get_or slots place found → slot_link found ≡ link_in old node site
  link-read place found plain is read =
      let x = owned r node site here in
      let kind = some-and (λ (z : Site). IsSomeAnd (callee_of z.kind) (λ c. Unit {0})) (slice_get r.statics.sites site) (subst (λ (z : Rows). IsPlainSite z site) (sym same) plain) in
      let one : kind.0 ≡ x.0 = cc (kind.1, x.1) in
      let c = some-and (λ (d : ℕ). Unit {0}) (callee_of kind.0.kind) kind.2 in
      let mine : place ≡ place_at r.statics.sites r.nodes node x.0.owner site = is ∙ ap (λ (z : Rows). place_in z node site) (sym same) ∙ place-is x.0 x.2 in
      let due : slice_get slots place ≡ Some (slot_of (number_of (is_from node site) r.links)) = ap (slice_get slots) mine ∙ t.slots_are.right node site c.0 x.0 x.1 (ap (λ (z : Site). callee_of z.kind) (sym one) ∙ c.1) x.2 in
      let found_is : found ≡ slot_of (number_of (is_from node site) r.links) = read ∙ get_or_from_slice_get slots place (slot_of (number_of (is_from node site) r.links)) found due in
      ap slot_link found_is ∙ slot-told (number_of (is_from node site) r.links) (length r.links) (omega (arith, t.few)) (number-bounded (is_from node site) r.links (number_of (is_from node site) r.links) refl) ∙ ap (λ (z : Rows). link_in z node site) same

  -- the link in the slot of a higher-order site
  pub used-read : (place : ℕ) (found : Slot) → IsHigherOrderSite old site → place ≡ place_in old node site → found ≡ get_or slots place found → IfSome (slot_link found) (IsFound r.nodes r.links node site)
  used-read place found many is read =
      let x = owned r node site here in
      let kind = some-and (λ (z : Site). callee_of z.kind ≡ None) (slice_get r.statics.sites site) (subst (λ (z : Rows). IsHigherOrderSite z site) (sym same) many) in
      let one : kind.0 ≡ x.0 = cc (kind.1, x.1) in
      let mine : place ≡ place_at r.statics.sites r.nodes node x.0.owner site = is ∙ ap (λ (z : Rows). place_in z node site) (sym same) ∙ place-is x.0 x.2 in
      let slot = some-and (λ slot. IfSome (slot_link slot) (IsFound r.nodes r.links node site)) (slice_get slots (place_at r.statics.sites r.nodes node x.0.owner site)) (t.used_are node site x.0 x.1 (ap (λ (z : Site). callee_of z.kind) (sym one) ∙ kind.2) x.2) in
      let found_is : found ≡ slot.0 = read ∙ get_or_from_slice_get slots place slot.0 found (ap (slice_get slots) mine ∙ slot.1) in
      subst (λ z. IfSome (slot_link z) (IsFound r.nodes r.links node site)) (sym found_is) slot.2

  -- it is there, and it is the callee's where it leads to a context of it
  pub used-link : (place : ℕ) (found : Slot) (k : ℕ) → IsHigherOrderSite old site → place ≡ place_in old node site → found ≡ get_or slots place found → slot_link found ≡ Some k → k < length old.links
  used-link place found k many is read told =
      let used : IsFound r.nodes r.links node site k = subst (λ o. IfSome o (IsFound r.nodes r.links node site)) told (used-read place found many is read) in
      let one = some-and (λ (l : LinkRow). IsSomeAnd (slice_get r.nodes l.callee) (λ q. number_of (is_call r.nodes node site q) r.links ≡ Some k)) (slice_get r.links k) used in
      omega (arith, get-within r.links k one.0 one.1, ap (λ (z : Rows). length z.links) same)

  pub used-callee : (place : ℕ) (found : Slot) (k : ℕ) → IsHigherOrderSite old site → place ≡ place_in old node site → found ≡ get_or slots place found → slot_link found ≡ Some k → (q : ℕ) (leads : Bool) →
      IfSome (slice_get old.links k) (λ row. IsTrue leads ↔ slice_get old.nodes row.callee ≡ Some q) → IsTrue leads → Some k ≡ callee_in old node site q
  used-callee place found k many is read told q leads right led =
      let used : IsFound r.nodes r.links node site k = subst (λ o. IfSome o (IsFound r.nodes r.links node site)) told (used-read place found many is read) in
      let one = some-and (λ (l : LinkRow). IsSomeAnd (slice_get r.nodes l.callee) (λ p. number_of (is_call r.nodes node site p) r.links ≡ Some k)) (slice_get r.links k) used in
      let two = some-and (λ p. number_of (is_call r.nodes node site p) r.links ≡ Some k) (slice_get r.nodes one.0.callee) one.2 in
      let there : slice_get old.links k ≡ Some one.0 = ap (λ (z : Rows). slice_get z.links k) (sym same) ∙ one.1 in
      let here : IsTrue leads ↔ slice_get old.nodes one.0.callee ≡ Some q = subst (λ o. IfSome o (λ (row : LinkRow). IsTrue leads ↔ slice_get old.nodes row.callee ≡ Some q)) there right in
      let end : slice_get r.nodes one.0.callee ≡ Some q = ap (λ (z : Rows). slice_get z.nodes one.0.callee) same ∙ here.0 led in
      let equal : two.0 ≡ q = (let e : Some two.0 ≡ Some q = sym two.1 ∙ end in cc) in
      sym two.2 ∙ ap (λ p. number_of (is_call r.nodes node site p) r.links) equal ∙ ap (λ (z : Rows). callee_in z node site q) same

  -- a link that was found is put into the slot of its higher-order site
  pub use-tables : (q place k : ℕ) (slots2 : List Slot) → IsHigherOrderSite old site → place ≡ place_in old node site → callee_in old node site q ≡ Some k → slots2 ≡ set slots place (slot_of (Some k)) → AreTables r.statics spans r.nodes bases slots2 callees r.links r.active
  use-tables q place k slots2 many is found now =
      let x = owned r node site here in
      let kind = some-and (λ (z : Site). callee_of z.kind ≡ None) (slice_get r.statics.sites site) (subst (λ (z : Rows). IsHigherOrderSite z site) (sym same) many) in
      let one : kind.0 ≡ x.0 = cc (kind.1, x.1) in
      let higher : callee_of x.0.kind ≡ None = ap (λ (z : Site). callee_of z.kind) (sym one) ∙ kind.2 in
      let spot = place_at r.statics.sites r.nodes node x.0.owner site in
      let mine : place ≡ spot = is ∙ ap (λ (z : Rows). place_in z node site) (sym same) ∙ place-is x.0 x.2 in
      let within = place-within r.statics.sites r.nodes node site x.0 t.sound.owners_rise x.1 x.2 in
      let at : number_of (is_call r.nodes node site q) r.links ≡ Some k = ap (λ (z : Rows). callee_in z node site q) same ∙ found in
      let link = number-below (is_call r.nodes node site q) r.links k at in
      let end : slice_get r.nodes link.0.callee ≡ Some q = end-is (slice_get r.nodes link.0.callee) q (and_parts (is_from node site link.0) (same_option (Some q) (slice_get r.nodes link.0.callee)) link.2).1 in
      let told : IsFound r.nodes r.links node site k =
      and-some (λ (l : LinkRow). IsSomeAnd (slice_get r.nodes l.callee) (λ p. number_of (is_call r.nodes node site p) r.links ≡ Some k)) (slice_get r.links k) link.0 link.1 (and-some (λ p. number_of (is_call r.nodes node site p) r.links ≡ Some k) (slice_get r.nodes link.0.callee) q end at) in
      let all : AreTables r.statics spans r.nodes bases (set slots spot (slot_of (Some k))) callees r.links r.active = record {
        sound = t.sound;
        spans_right = t.spans_right;
        nodes_there = t.nodes_there;
        bases_are = t.bases_are;
        slots_are = slots-other r.statics.sites r.nodes slots r.links node site x.0 (slot_of (Some k)) t.sound.owners_rise t.slots_are x.1 x.2 higher;
        used_are = used-set r.statics.sites r.nodes r.nodes slots r.links node site k x.0 t.sound.owners_rise t.used_are x.1 x.2 (omega (arith, get-within r.links k link.0 link.1, t.few)) (omega (arith, within, t.slots_are.each)) (λ e. told);
        callees_are = t.callees_are;
        ends = t.ends;
        pointers = t.pointers;
        active_there = t.active_there;
        fewer = t.fewer;
        few = t.few;
        few_slots = omega (arith, t.few_slots, length-set slots spot (slot_of (Some k)));
      } in
      subst (λ zs. AreTables r.statics spans r.nodes bases zs callees r.links r.active) (sym (now ∙ ap (λ p. set slots p (slot_of (Some k))) mine)) all

  -- the link of a callee
  pub callee-read : (q : ℕ) → IsHigherOrderSite old site → lookup (is_key node site q) callees ≡ callee_in old node site q
  callee-read q many =
      let kind = some-and (λ (z : Site). callee_of z.kind ≡ None) (slice_get r.statics.sites site) (subst (λ (z : Rows). IsHigherOrderSite z site) (sym same) many) in
      t.callees_are.right node site q kind.0 kind.1 kind.2 ∙ ap (λ (z : Rows). callee_in z node site q) same

  -- what is known where a link is added
  pub adding : (slots2 : List Slot) (callees2 : List (CalleeKey × ℕ)) (q place k : ℕ) (x : Site) → IsFresh old node site q → slice_get old.statics.sites site ≡ Some x → place ≡ place_in old node site → k ≡ length r.links →
      slots2 ≡ set slots place (slot_of (Some k)) → IsEntered (callee_of x.kind) node site q k callees callees2 → Adding r.statics.sites r.nodes slots slots2 callees callees2 r.links node site q
  adding slots2 callees2 q place k x fresh there is number slots_now callees_now =
      let at : slice_get r.statics.sites site ≡ Some x = ap (λ (z : Rows). slice_get z.statics.sites site) same ∙ there in
      let y = owned r node site here in
      let one : y.0 ≡ x = cc (y.1, at) in
      let owner : slice_get r.nodes node ≡ Some x.owner = y.2 ∙ ap (λ (z : Site). Some z.owner) one in
      let mine : place ≡ place_at r.statics.sites r.nodes node x.owner site = is ∙ ap (λ (z : Rows). place_in z node site) (sym same) ∙ place-is x owner in
      let F : Option Site → Type 0 = λ o. IsSomeAnd o (λ z. MatchOption (callee_of z.kind) (callee_in r node site q ≡ None) (λ c. link_in r node site ≡ None)) in
      let S : ℕ → ℕ → Type 0 = λ a b. slots2 ≡ set slots a (slot_of (Some b)) in
      record {
        row = x;
        there = at;
        owner = owner;
        fresh = subst F at (subst (λ (z : Rows). IsFresh z node site q) (sym same) fresh);
        slots_now = subst (λ b. S (place_at r.statics.sites r.nodes node x.owner site) b) number (subst (λ a. S a k) mine slots_now);
        callees_now = subst (λ b. IsEntered (callee_of x.kind) node site q b callees callees2) number callees_now;
      }
