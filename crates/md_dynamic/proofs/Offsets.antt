-- Where the slots of a context begin, and that each slot is that of one site in one context.
use Rattle.std.proofs.Common.{ℕ, zero, suc, ◌+◌, ◌-◌, ◌*◌, ◌%◌, ◌≡◌, ◌≢◌, ◌<◌, ◌≤◌, inl, inr, List, [], ◌∷◌, ◌++◌, length, Some, slice_get, refl, ap, ◌∙◌, arith}
use Rattle.std.proofs.lemmas.Bool.{cases_order}
use Rattle.std.proofs.lemmas.Nat.{mod-mul-add}
use Rattle.md_static.specs.declared.entry.Site.{Site}
use Rattle.md_static.specs.Sites.{OwnersRiseFrom, first_site, sites_of}
use Rattle.md_static.proofs.SiteLists.{site-place}
use Rattle.md_trace.proofs.Lists.{get-within}
use Rattle.md_dynamic.specs.Slots.{slots_before}
use Rattle.md_dynamic.specs.Rows.{place_at}

-- a context more changes nothing for those before it
pub before-push : (sites : List Site) (nodes : List ℕ) (q v : ℕ) → v ≤ length nodes → slots_before sites (nodes ++ q ∷ []) v ≡ slots_before sites nodes v
before-push sites [] q zero below = refl
before-push sites [] q (suc v) below = absurd (omega (arith, below))
before-push sites (p ∷ ps) q zero below = refl
before-push sites (p ∷ ps) q (suc v) below = ap (λ n. length (sites_of p sites) + n) (before-push sites ps q v (omega (arith, below)))

-- and has its own behind them
pub before-next : (sites : List Site) (nodes : List ℕ) (v p : ℕ) → slice_get nodes v ≡ Some p → slots_before sites nodes (v + 1) ≡ slots_before sites nodes v + length (sites_of p sites)
before-next sites [] v p at = absurd (cc)
before-next sites (x ∷ xs) zero p at =
    let e : x ≡ p = cc in
    let first : slots_before sites xs 0 ≡ 0 = before-zero xs in
    omega (arith, ap (λ y. length (sites_of y sites)) e, first)
  where
    before-zero : (ys : List ℕ) → slots_before sites ys 0 ≡ 0
    before-zero [] = refl
    before-zero (y ∷ ys) = refl
before-next sites (x ∷ xs) (suc v) p at =
    let e : suc v + 1 ≡ suc (v + 1) = omega arith in
    let step : slots_before sites (x ∷ xs) (suc (v + 1)) ≡ slots_before sites (x ∷ xs) (suc v) + length (sites_of p sites) = omega (arith, before-next sites xs v p at) in
    ap (slots_before sites (x ∷ xs)) e ∙ step

-- no fewer come before a later context
pub before-rises : (sites : List Site) (nodes : List ℕ) (v w : ℕ) → v ≤ w → slots_before sites nodes v ≤ slots_before sites nodes w
before-rises sites [] v w below = omega arith
before-rises sites (x ∷ xs) zero w below = omega arith
before-rises sites (x ∷ xs) (suc v) zero below = absurd (omega (arith, below))
before-rises sites (x ∷ xs) (suc v) (suc w) below = omega (arith, before-rises sites xs v w (omega (arith, below)))

-- a site's place is among those of its context
pub place-inside : (sites : List Site) (nodes : List ℕ) (v s : ℕ) (x : Site) → OwnersRiseFrom 0 sites → slice_get sites s ≡ Some x → slice_get nodes v ≡ Some x.owner →
    (first_site x.owner sites ≤ s) × (place_at sites nodes v x.owner s < slots_before sites nodes (v + 1))
place-inside sites nodes v s x rise there owner =
    let placed = site-place x.owner s 0 sites x rise there refl in
    let inside = get-within (sites_of x.owner sites) (s - first_site x.owner sites) x placed.1 in
    (placed.0, omega (arith, inside, before-next sites nodes v x.owner owner))

pub place-within : (sites : List Site) (nodes : List ℕ) (v s : ℕ) (x : Site) → OwnersRiseFrom 0 sites → slice_get sites s ≡ Some x → slice_get nodes v ≡ Some x.owner → place_at sites nodes v x.owner s < slots_before sites nodes (length nodes)
place-within sites nodes v s x rise there owner =
    let inside = place-inside sites nodes v s x rise there owner in
    let below = get-within nodes v x.owner owner in
    omega (arith, inside.1, before-rises sites nodes (v + 1) (length nodes) (omega (arith, below)))

-- two sites, or one in two contexts, have two places
pub places-apart : (sites : List Site) (nodes : List ℕ) (v s w r : ℕ) (x y : Site) → OwnersRiseFrom 0 sites → slice_get sites s ≡ Some x → slice_get nodes v ≡ Some x.owner → slice_get sites r ≡ Some y → slice_get nodes w ≡ Some y.owner →
    ((v ≡ w) → (s ≡ r) → ⊥) → place_at sites nodes v x.owner s ≢ place_at sites nodes w y.owner r
places-apart sites nodes v s w r x y rise there owner there2 owner2 apart = λ same.
    let one = place-inside sites nodes v s x rise there owner in
    let two = place-inside sites nodes w r y rise there2 owner2 in
    elim (cases_order v w) [
      | inl equal ↦
          let owners : x.owner ≡ y.owner = (let e : slice_get nodes v ≡ Some y.owner = ap (slice_get nodes) equal ∙ owner2 in cc (e, owner)) in
          apart equal (omega (arith, same, one.0, two.0, ap (slots_before sites nodes) equal, ap (λ p. first_site p sites) owners))
      | inr rest ↦ elim rest [
        | inl less ↦ omega (arith, same, one.1, before-rises sites nodes (v + 1) w (omega (arith, less)))
        | inr more ↦ omega (arith, same, two.1, before-rises sites nodes (w + 1) v (omega (arith, more)))
      ]
    ]

-- ---- by 32 bits

mod-below : (n w : ℕ) → n < w → n % w ≡ n
mod-below n w below = (let e : n ≡ 0 * w + n = omega arith in ap (λ z. z % w) e ∙ mod-mul-add 0 w n below)

mod-once : (n b w : ℕ) → b < w → n ≡ w + b → n % w ≡ b
mod-once n b w below is = (let e : n ≡ 1 * w + b = omega (arith, is) in ap (λ z. z % w) e ∙ mod-mul-add 1 w b below)

-- what is first taken off, and then added with more, by 32 bits
pub wrapped : (start first site : ℕ) → first ≤ site → site < 4294967296 → start + (site - first) < 4294967296 → ((start + (4294967296 - first)) % 4294967296 + site) % 4294967296 ≡ start + (site - first)
wrapped start first site after small below =
    elim (cases_order start first) [
      | inl same ↦ up (omega (arith, same))
      | inr rest ↦ elim rest [
        | inl less ↦
            let one : (start + (4294967296 - first)) % 4294967296 ≡ start + (4294967296 - first) = mod-below (start + (4294967296 - first)) 4294967296 (omega (arith, less, after, small)) in
            ap (λ z. (z + site) % 4294967296) one ∙ mod-once (start + (4294967296 - first) + site) (start + (site - first)) 4294967296 below (omega (arith, less, after, small))
        | inr more ↦ up (omega (arith, more))
      ]
    ]
  where
    up : first ≤ start → ((start + (4294967296 - first)) % 4294967296 + site) % 4294967296 ≡ start + (site - first)
    up le =
        let one : (start + (4294967296 - first)) % 4294967296 ≡ start - first = mod-once (start + (4294967296 - first)) (start - first) 4294967296 (omega (arith, le, below)) (omega (arith, le, after, small)) in
        ap (λ z. (z + site) % 4294967296) one ∙ (let e : start - first + site ≡ start + (site - first) = omega (arith, le, after) in ap (λ z. z % 4294967296) e) ∙ mod-below (start + (site - first)) 4294967296 below
