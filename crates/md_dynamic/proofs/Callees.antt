-- The map of callees as a link is added: it has the new link where the site is higher-order, and no other key.
use Rattle.std.proofs.Common.{ℕ, MatchOption, ◌+◌, ◌==◌, ◌&&◌, ◌≡◌, inl, inr, true, false, cond, List, [], ◌∷◌, ◌++◌, length, Option, Some, None, IsSomeAnd, slice_get, refl, sym, ap, ◌∙◌, subst, arith}
use Rattle.std.specs.Map.{lookup}
use Rattle.std.proofs.lemmas.Bool.{cases_eq, eq-eqb, ne_eqb, and_left, and_right, and_from}
use Rattle.md_static.specs.declared.entry.Site.{Site}
use Rattle.md_static.specs.Tables.{callee_of}
use Rattle.md_trace.specs.Context.{same_option}
use Rattle.md_trace.proofs.Lists.{get-push-new}
use Rattle.md_dynamic.specs.declared.link.LinkRow.{LinkRow}
use Rattle.md_dynamic.specs.declared.slot.CalleeKey.{CalleeKey}
use Rattle.md_dynamic.specs.Links.{link_row, number_of}
use Rattle.md_dynamic.specs.Rows.{is_from, is_call, IsFound, HasCallees, AreCallees}
use Rattle.md_dynamic.specs.Slots.{is_key}
use Rattle.md_dynamic.proofs.Options.{some-and, and-some}
use Rattle.md_dynamic.proofs.Positions.{number-same, number-other, number-new}

pub from-same : (v s to calls : ℕ) → is_from v s (link_row v s to calls) ≡ true
from-same v s to calls = and_from (v == v) (s == s) (eq-eqb v v refl) (eq-eqb s s refl)

pub from-other : (v s node site to calls : ℕ) → ((v ≡ node) → (s ≡ site) → ⊥) → is_from v s (link_row node site to calls) ≡ false
from-other v s node site to calls apart =
    elim (cases_eq v node) [
      | inl same ↦ and_right (v == node) (s == site) (ne_eqb s site (λ e. apart same e))
      | inr other ↦ and_left (v == node) (s == site) (ne_eqb v node other)
    ]

-- whether a link is of a callee stays where the context to which it leads stays
pub call-stays : (nodes nodes2 : List ℕ) (v s q : ℕ) (l : LinkRow) → slice_get nodes2 l.callee ≡ slice_get nodes l.callee → is_call nodes2 v s q l ≡ is_call nodes v s q l
call-stays nodes nodes2 v s q l same = ap (λ o. is_from v s l && same_option (Some q) o) same

-- a link was entered at this key, where its site is higher-order
abbrev pub IsEntered : Option ℕ → ℕ → ℕ → ℕ → ℕ → List (CalleeKey × ℕ) → List (CalleeKey × ℕ) → Type 0
IsEntered kind node site q k old new =
    MatchOption kind ((v s r : ℕ) → lookup (is_key v s r) new ≡ cond (is_key node site q (record { node = v; site = s; callee = r })) (Some k) (lookup (is_key v s r) old)) (λ c. new ≡ old)

module _ (sites : List Site) (nodes nodes2 : List ℕ) (callees callees2 : List (CalleeKey × ℕ)) (links : List LinkRow) (node site q to calls : ℕ) (x : Site) (are : AreCallees sites nodes callees links)
    (there : slice_get sites site ≡ Some x) (stay : (k : ℕ) (l : LinkRow) → slice_get links k ≡ Some l → slice_get nodes2 l.callee ≡ slice_get nodes l.callee) (end : slice_get nodes2 to ≡ Some q)
  where
    abbrev row : LinkRow
    row = link_row node site to calls

    older : (v s r : ℕ) → number_of (is_call nodes2 v s r) links ≡ number_of (is_call nodes v s r) links
    older v s r = number-same (is_call nodes2 v s r) (is_call nodes v s r) 0 links (λ k l is. call-stays nodes nodes2 v s r l (stay k l is))

    elsewhere : (v s r : ℕ) → is_call nodes2 v s r row ≡ false → number_of (is_call nodes2 v s r) (links ++ row ∷ []) ≡ number_of (is_call nodes v s r) links
    elsewhere v s r bad = number-other (is_call nodes2 v s r) 0 links row bad ∙ older v s r

    apart : (v s r : ℕ) → ((v ≡ node) → (s ≡ site) → ⊥) → is_call nodes2 v s r row ≡ false
    apart v s r ne = and_left (is_from v s row) (same_option (Some r) (slice_get nodes2 to)) (from-other v s node site to calls ne)

    key-other : (v s r : ℕ) → ((v ≡ node) → (s ≡ site) → (r ≡ q) → ⊥) → is_key node site q (record { node = v; site = s; callee = r }) ≡ false
    key-other v s r ne =
        elim (cases_eq node v) [
          | inl one ↦ elim (cases_eq site s) [
            | inl two ↦ and_right (node == v) ((site == s) && (q == r)) (and_right (site == s) (q == r) (ne_eqb q r (λ three. ne (sym one) (sym two) (sym three))))
            | inr other ↦ and_right (node == v) ((site == s) && (q == r)) (and_left (site == s) (q == r) (ne_eqb site s other))
          ]
          | inr other ↦ and_left (node == v) ((site == s) && (q == r)) (ne_eqb node v other)
        ]

    call-other : (v s r : ℕ) → ((v ≡ node) → (s ≡ site) → (r ≡ q) → ⊥) → is_call nodes2 v s r row ≡ false
    call-other v s r ne =
        elim (cases_eq v node) [
          | inl one ↦ elim (cases_eq s site) [
            | inl two ↦ and_right (is_from v s row) (same_option (Some r) (slice_get nodes2 to)) (ap (same_option (Some r)) end ∙ ne_eqb r q (λ three. ne one two three))
            | inr other ↦ apart v s r (λ e f. other f)
          ]
          | inr other ↦ apart v s r (λ e f. other e)
        ]

    key-same : is_key node site q (record { node = node; site = site; callee = q }) ≡ true
    key-same = and_from (node == node) ((site == site) && (q == q)) (eq-eqb node node refl) (and_from (site == site) (q == q) (eq-eqb site site refl) (eq-eqb q q refl))

    call-same : is_call nodes2 node site q row ≡ true
    call-same = and_from (is_from node site row) (same_option (Some q) (slice_get nodes2 to)) (from-same node site to calls) (ap (same_option (Some q)) end ∙ eq-eqb q q refl)

    -- a key of the map stays one
    key-stays : ((v p : ℕ) → slice_get nodes v ≡ Some p → slice_get nodes2 v ≡ Some p) → (v s r k : ℕ) → lookup (is_key v s r) callees ≡ Some k → HasCallees sites nodes2 v s
    key-stays keep v s r k is =
        let y = some-and (λ (z : Site). (callee_of z.kind ≡ None) × (slice_get nodes v ≡ Some z.owner)) (slice_get sites s) (are.alone v s r k is) in
        and-some (λ (z : Site). (callee_of z.kind ≡ None) × (slice_get nodes2 v ≡ Some z.owner)) (slice_get sites s) y.0 y.1 (y.2.0, keep v y.0.owner y.2.1)

    -- a link of a plain site is no callee
    callees-plain : (c : ℕ) → callee_of x.kind ≡ Some c → ((v p : ℕ) → slice_get nodes v ≡ Some p → slice_get nodes2 v ≡ Some p) → callees2 ≡ callees → AreCallees sites nodes2 callees2 (links ++ row ∷ [])
    callees-plain c plain keep now = record {
      right = λ v s r y at many.
          let ne : (v ≡ node) → (s ≡ site) → ⊥ = λ e f. (
          let own : y ≡ x = (let z : slice_get sites site ≡ Some y = ap (slice_get sites) (sym f) ∙ at in cc (z, there)) in
          let two : None ≡ Some c = sym many ∙ ap (λ (z : Site). callee_of z.kind) own ∙ plain in
          cc) in
          ap (lookup (is_key v s r)) now ∙ are.right v s r y at many ∙ sym (elsewhere v s r (apart v s r ne));
      alone = λ v s r k is. key-stays keep v s r k (ap (lookup (is_key v s r)) (sym now) ∙ is);
    }

    callees-many : callee_of x.kind ≡ None → number_of (is_call nodes node site q) links ≡ None → slice_get nodes2 node ≡ Some x.owner → ((v p : ℕ) → slice_get nodes v ≡ Some p → slice_get nodes2 v ≡ Some p) →
        ((v s r : ℕ) → lookup (is_key v s r) callees2 ≡ cond (is_key node site q (record { node = v; site = s; callee = r })) (Some (length links)) (lookup (is_key v s r) callees)) → AreCallees sites nodes2 callees2 (links ++ row ∷ [])
    callees-many kind none owner keep now = record {
      right = λ v s r y at many.
          let other : ((v ≡ node) → (s ≡ site) → (r ≡ q) → ⊥) → lookup (is_key v s r) callees2 ≡ number_of (is_call nodes2 v s r) (links ++ row ∷ []) = λ ne.
          now v s r ∙ ap (λ b. cond b (Some (length links)) (lookup (is_key v s r) callees)) (key-other v s r ne) ∙ are.right v s r y at many ∙ sym (elsewhere v s r (call-other v s r ne)) in
          elim (cases_eq v node) [
            | inl one ↦ elim (cases_eq s site) [
              | inl two ↦ elim (cases_eq r q) [
                | inl three ↦
                    let count : 0 + length links ≡ length links = omega arith in
                    let here : lookup (is_key node site q) callees2 ≡ number_of (is_call nodes2 node site q) (links ++ row ∷ []) =
                    now node site q ∙ ap (λ b. cond b (Some (length links)) (lookup (is_key node site q) callees)) key-same
                    ∙ sym (number-new (is_call nodes2 node site q) 0 links row (older node site q ∙ none) call-same ∙ ap (λ k. Some k) count) in
                    let P : ℕ → ℕ → ℕ → Type 0 = λ a b d. lookup (is_key a b d) callees2 ≡ number_of (is_call nodes2 a b d) (links ++ row ∷ []) in
                    subst (λ a. P a s r) (sym one) (subst (λ b. P node b r) (sym two) (subst (λ d. P node site d) (sym three) here))
                | inr ne ↦ other (λ e f g. ne g)
              ]
              | inr ne ↦ other (λ e f g. ne f)
            ]
            | inr ne ↦ other (λ e f g. ne e)
          ];
      alone = λ v s r k is.
          let older : ((v ≡ node) → (s ≡ site) → ⊥) → HasCallees sites nodes2 v s = λ ne.
          key-stays keep v s r k (sym (now v s r ∙ ap (λ b. cond b (Some (length links)) (lookup (is_key v s r) callees)) (key-other v s r (λ e f g. ne e f))) ∙ is) in
          let here : HasCallees sites nodes2 node site = and-some (λ (z : Site). (callee_of z.kind ≡ None) × (slice_get nodes2 node ≡ Some z.owner)) (slice_get sites site) x there (kind, owner) in
          elim (cases_eq v node) [
            | inl one ↦ elim (cases_eq s site) [
              | inl two ↦ subst (λ a. HasCallees sites nodes2 a s) (sym one) (subst (λ b. HasCallees sites nodes2 node b) (sym two) here)
              | inr ne ↦ older (λ e f. ne f)
            ]
            | inr ne ↦ older (λ e f. ne e)
          ];
    }

    -- the new link is found by its callee
    pub found-new : number_of (is_call nodes node site q) links ≡ None → IsFound nodes2 (links ++ row ∷ []) node site (length links)
    found-new none =
        let count : 0 + length links ≡ length links = omega arith in
        let first : number_of (is_call nodes2 node site q) (links ++ row ∷ []) ≡ Some (length links) = number-new (is_call nodes2 node site q) 0 links row (older node site q ∙ none) call-same ∙ ap (λ k. Some k) count in
        and-some (λ (l : LinkRow). IsSomeAnd (slice_get nodes2 l.callee) (λ p. number_of (is_call nodes2 node site p) (links ++ row ∷ []) ≡ Some (length links))) (slice_get (links ++ row ∷ []) (length links)) row (get-push-new links row)
        (and-some (λ p. number_of (is_call nodes2 node site p) (links ++ row ∷ []) ≡ Some (length links)) (slice_get nodes2 to) q end first)

    pub callees-entered : (o : Option ℕ) → callee_of x.kind ≡ o → MatchOption o (number_of (is_call nodes node site q) links ≡ None) (λ c. Unit {0}) → slice_get nodes node ≡ Some x.owner →
        ((v p : ℕ) → slice_get nodes v ≡ Some p → slice_get nodes2 v ≡ Some p) → IsEntered o node site q (length links) callees callees2 → AreCallees sites nodes2 callees2 (links ++ row ∷ [])
    callees-entered None kind none owner keep now = callees-many kind none (keep node x.owner owner) keep now
    callees-entered (Some c) kind none owner keep now = callees-plain c kind keep now
