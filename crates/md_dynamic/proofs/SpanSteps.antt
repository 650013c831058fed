-- One site more in the counts of sites, and one procedure more in the spans.
use Rattle.std.proofs.Common.{ℕ, All, ◌+◌, ◌≡◌, ◌<◌, ◌≤◌, inl, inr, List, [], ◌∷◌, ◌++◌, length, take, get_or, set, Some, slice_get, sym, ap, ◌∙◌, subst, arith}
use Rattle.std.proofs.lemmas.Bool.{cases_eq}
use Rattle.std.proofs.lemmas.List.{take_more, length-take-le}
use Rattle.std.proofs.lemmas.Option.{get_or_from_slice_get}
use Rattle.md_static.specs.declared.entry.Site.{Site}
use Rattle.md_static.specs.Sites.{first_site, sites_of}
use Rattle.md_static.proofs.SiteLists.{sites_of-push-same, sites_of-push-other, sites_of-le, first_site-next, first_site-le}
use Rattle.md_trace.proofs.Lists.{get-set-same, get-set-other, get-push-old, get-push-new}
use Rattle.md_dynamic.specs.declared.span.Span.{Span}
use Rattle.md_dynamic.specs.Spans.{span_of}

-- what holds of each member holds of one that was read
pub all-read : {A : Type 0} (P : A → Type 0) (xs : List A) (i : ℕ) (x : A) → All P xs → i < length xs → x ≡ get_or xs i x → P x
all-read P xs i x all within is = subst P (sym is) (all i x within)

-- the counts of the sites before i
abbrev pub CountsBefore : ℕ → List Site → ℕ → List ℕ → Type 0
CountsBefore procs sites i xs = (p : ℕ) → p < procs → slice_get xs p ≡ Some (length (sites_of p (take i sites)))

-- one site more counts for its owner
pub counts-more : (procs i n q : ℕ) (sites : List Site) (xs : List ℕ) (x : Site) → length xs ≡ procs → i < length sites → x ≡ get_or sites i x → q ≡ x.owner → q < procs →
    n ≡ get_or xs q n → CountsBefore procs sites i xs → CountsBefore procs sites (i + 1) (set xs q (n + 1))
counts-more procs i n q sites xs x len within is site owner had were = λ p below.
    let longer : take (i + 1) sites ≡ take i sites ++ x ∷ [] = take_more sites i x within ∙ ap (λ y. take i sites ++ y ∷ []) (sym is) in
    let now : length (sites_of p (take (i + 1) sites)) ≡ length (sites_of p (take i sites ++ x ∷ [])) = ap (λ zs. length (sites_of p zs)) longer in
    let count : n ≡ length (sites_of q (take i sites)) = had ∙ get_or_from_slice_get xs q (length (sites_of q (take i sites))) n (were q owner) in
    elim (cases_eq p q) [
      | inl same ↦
          let at : slice_get (set xs q (n + 1)) p ≡ Some (n + 1) = ap (slice_get (set xs q (n + 1))) same ∙ get-set-same xs q (n + 1) (omega (arith, len)) in
          let more : length (sites_of p (take (i + 1) sites)) ≡ n + 1 = omega (arith, now, sites_of-push-same p (take i sites) x (sym (same ∙ site)), count, ap (λ r. length (sites_of r (take i sites))) same) in
          at ∙ ap Some (sym more)
      | inr other ↦
          let at : slice_get (set xs q (n + 1)) p ≡ slice_get xs p = get-set-other xs q p (n + 1) other in
          let still : length (sites_of p (take (i + 1) sites)) ≡ length (sites_of p (take i sites)) = now ∙ sites_of-push-other p (take i sites) x (λ e. other (sym e ∙ sym site)) in
          at ∙ were p below ∙ ap Some (sym still)
    ]

-- no count is beyond the number of sites
pub counts-fit : (procs i n q : ℕ) (sites : List Site) (xs : List ℕ) → i < length sites → q < procs → n ≡ get_or xs q n → CountsBefore procs sites i xs → n ≤ i
counts-fit procs i n q sites xs within below had were =
    let count : n ≡ length (sites_of q (take i sites)) = had ∙ get_or_from_slice_get xs q (length (sites_of q (take i sites))) n (were q below) in
    omega (arith, count, sites_of-le q (take i sites), length-take-le i sites (omega arith))

-- the first spans
abbrev pub SpansBefore : List Site → ℕ → List Span → Type 0
SpansBefore sites i spans = (p : ℕ) → p < i → slice_get spans p ≡ Some (span_of sites p)

-- a span more
pub spans-more : (sites : List Site) (i first n : ℕ) (xs ys : List Span) → length xs ≡ i → first ≡ first_site i sites → n ≡ length (sites_of i sites) →
    ys ≡ xs ++ (record { first = first; count = n }) ∷ [] → SpansBefore sites i xs → SpansBefore sites (i + 1) ys
spans-more sites i first n xs ys len begin count is were = λ p below.
    let whole : ◌≡◌ {A = Span} (record { first = first; count = n }) (span_of sites i) =
    ap (λ (k : ℕ). let s : Span = record { first = k; count = n } in s) begin ∙ ap (λ (k : ℕ). let s : Span = record { first = first_site i sites; count = k } in s) count in
    elim (cases_eq p i) [
      | inl same ↦
          let new : slice_get ys i ≡ Some (span_of sites i) = ap (λ zs. slice_get zs i) is ∙ ap (λ k. slice_get (xs ++ (record { first = first; count = n }) ∷ []) k) (sym len) ∙ get-push-new xs (record { first = first; count = n }) ∙ ap Some whole in
          ap (slice_get ys) same ∙ new ∙ ap (λ q. Some (span_of sites q)) (sym same)
      | inr other ↦
          let older : p < i = omega arith in
          ap (λ zs. slice_get zs p) is ∙ get-push-old xs (record { first = first; count = n }) p (omega (arith, len)) ∙ were p older
    ]

-- where the next begins
pub first-more : (sites : List Site) (i first n : ℕ) → first ≡ first_site i sites → n ≡ length (sites_of i sites) → (first + n ≡ first_site (i + 1) sites) × (first + n ≤ length sites)
first-more sites i first n begin count = (omega (arith, begin, count, first_site-next i sites), omega (arith, begin, count, first_site-le i sites))
