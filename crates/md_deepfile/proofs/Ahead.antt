-- What is read of a number or a link of which all bytes are at hand.
use Rattle.std.proofs.Common.{◌≡◌, ℕ, zero, suc, ◌+◌, ◌-◌, ◌*◌, ◌≤◌, Bool, true, false, cond, nat_lt, List, [], ◌∷◌, ◌++◌, length, take, drop, get_or, Option, None, Some, Ok, Err, inl, inr, refl, sym, ap, subst, ◌∙◌, append_assoc, arith}
use Rattle.std.specs.Prelude.{slice_get}
use Rattle.std.proofs.lemmas.Bool.{cases_lt, lt-ltb}
use Rattle.std.proofs.lemmas.List.{append-nil, drop_more, take-append-drop, length-drop}
use Rattle.std.proofs.lemmas.Option.{slice_get_past}
use Rattle.std.proofs.Math.ListN.{drop_of_length-le}
use Rattle.std.proofs.Math.Seq.{drop-nil, take-length}
use Rattle.md_base.specs.declared.measure.Counts.{Counts}
use Rattle.md_static.specs.declared.entry.Site.{Site}
use Rattle.md_dynamic.specs.Profile.{ProfileRows}
use Rattle.md_deepfile.specs.Decoding.{FollowsSome, FollowsBytes, TakesAll}
use Rattle.md_deepfile.specs.Fields.{Text, Next, link_field, link_caller, link_site, link_callee, link_own}
use Rattle.md_deepfile.specs.Format.{must, read, damage, bytes, number, numbers}
use Rattle.md_deepfile.specs.Rules.{counts_of, with_link, link_of, fits, fits_site, is_new_link, link_size}
use Rattle.md_deepfile.specs.State.{State, form_at, form_of, width, number_told, next_link, number_at, numbers_at, IsReadyPart, IsReady, Follows, FollowsByte}
use Rattle.md_deepfile.specs.declared.damage.DecodeFault.{DecodeFault}
use Rattle.md_deepfile.specs.declared.damage.DecodeFault.TheVariants.{Damage as Damaged, NoMemory}
use Rattle.md_deepfile.specs.declared.damage.Kind.{Kind}
use Rattle.md_deepfile.specs.declared.damage.Kind.TheVariants as kinds
use Rattle.md_deepfile.specs.declared.part.Field.{Field}
use Rattle.md_deepfile.specs.declared.part.Part.{Part}
use Rattle.md_deepfile.specs.declared.part.Part.TheVariants as parts
use Rattle.md_deepfile.proofs.Reading.{number_same, told_by}

-- a number
pub read_number : (next : ℕ → Text) (at place : ℕ) (bs rest : List ℕ) → place + 4 ≤ length bs → read (number next) at (drop place bs ++ rest) ≡ read (next (number_at bs place)) (at + 4) (drop (place + 4) bs ++ rest)
read_number next at place bs rest within =
    let one : place + 1 + 1 ≡ place + 2 = omega arith in
    let two : place + 2 + 1 ≡ place + 3 = omega arith in
    let three : place + 3 + 1 ≡ place + 4 = omega arith in
    let front : drop place bs ≡ get_or bs place 0 ∷ get_or bs (place + 1) 0 ∷ get_or bs (place + 2) 0 ∷ get_or bs (place + 3) 0 ∷ drop (place + 4) bs =
    drop_more bs place 0 (omega (arith, within))
    ∙ ap (λ (xs : List ℕ). get_or bs place 0 ∷ xs) (drop_more bs (place + 1) 0 (omega (arith, within)) ∙ ap (λ (k : ℕ). get_or bs (place + 1) 0 ∷ drop k bs) one)
    ∙ ap (λ (xs : List ℕ). get_or bs place 0 ∷ get_or bs (place + 1) 0 ∷ xs) (drop_more bs (place + 2) 0 (omega (arith, within)) ∙ ap (λ (k : ℕ). get_or bs (place + 2) 0 ∷ drop k bs) two)
    ∙ ap (λ (xs : List ℕ). get_or bs place 0 ∷ get_or bs (place + 1) 0 ∷ get_or bs (place + 2) 0 ∷ xs) (drop_more bs (place + 3) 0 (omega (arith, within)) ∙ ap (λ (k : ℕ). get_or bs (place + 3) 0 ∷ drop k bs) three) in
    let sum : at + 1 + 1 + 1 + 1 ≡ at + 4 = omega arith in
    ap (λ (xs : List ℕ). read (number next) at (xs ++ rest)) front
    ∙ ap (λ (k : ℕ). read (next (number_at bs place)) k (drop (place + 4) bs ++ rest)) sum

-- several numbers
pub read_numbers : (k : ℕ) (front : List ℕ) (told : List ℕ → Text) (at place : ℕ) (bs rest : List ℕ) → place + 4 * k ≤ length bs
    → read (numbers k front told) at (drop place bs ++ rest) ≡ read (told (front ++ numbers_at k bs place)) (at + 4 * k) (drop (place + 4 * k) bs ++ rest)
read_numbers zero front told at place bs rest within =
    let here : at ≡ at + 4 * 0 = omega arith in
    let same : place ≡ place + 4 * 0 = omega arith in
    ap (λ (xs : List ℕ). read (told xs) at (drop place bs ++ rest)) (sym (append-nil front))
    ∙ ap (λ (p : ℕ). read (told (front ++ [])) p (drop place bs ++ rest)) here
    ∙ ap (λ (p : ℕ). read (told (front ++ [])) (at + 4 * 0) (drop p bs ++ rest)) same
read_numbers (suc k) front told at place bs rest within =
    let n : ℕ = number_at bs place in
    let ends : at + 4 + 4 * k ≡ at + 4 * suc k = omega arith in
    let past : place + 4 + 4 * k ≡ place + 4 * suc k = omega arith in
    read_number (λ m. numbers k (front ++ m ∷ []) told) at place bs rest (omega (arith, within))
    ∙ read_numbers k (front ++ n ∷ []) told (at + 4) (place + 4) bs rest (omega (arith, within))
    ∙ ap (λ (xs : List ℕ). read (told xs) (at + 4 + 4 * k) (drop (place + 4 + 4 * k) bs ++ rest)) (append_assoc front (n ∷ []) (numbers_at k bs (place + 4)))
    ∙ ap (λ (p : ℕ). read (told (front ++ numbers_at (suc k) bs place)) p (drop (place + 4 + 4 * k) bs ++ rest)) ends
    ∙ ap (λ (p : ℕ). read (told (front ++ numbers_at (suc k) bs place)) (at + 4 * suc k) (drop p bs ++ rest)) past

-- a rule that holds is passed
passes : (kind : Kind) (back : ℕ) (fine : Bool) (form : Text) (at : ℕ) (bs : List ℕ) → fine ≡ true → read (must kind back fine form) at bs ≡ read form at bs
passes kind back fine form at bs holds = ap (λ (b : Bool). cond b (read form at bs) (damage (at - back) kind)) holds

no_site : (a b : Option ℕ) → fits a None b ≡ false
no_site None b = refl
no_site (Some p) b = refl

no_callee : (a : Option ℕ) (x : Option Site) → fits a x None ≡ false
no_callee None x = refl
no_callee (Some p) None = refl
no_callee (Some p) (Some x) = refl

-- what fits is there
caller_there : (f : ProfileRows) (v s w : ℕ) → fits_site f v s w ≡ true → nat_lt v (length f.nodes) ≡ true
caller_there f v s w h = elim (cases_lt v (length f.nodes)) [
  | inl below ↦ lt-ltb v (length f.nodes) below
  | inr past ↦ let clash : true ≡ false = sym h ∙ ap (λ (o : Option ℕ). fits o (slice_get f.statics.sites s) (slice_get f.nodes w)) (slice_get_past f.nodes v past) in absurd (cc clash)
]

site_there : (f : ProfileRows) (v s w : ℕ) → fits_site f v s w ≡ true → nat_lt s (length f.statics.sites) ≡ true
site_there f v s w h = elim (cases_lt s (length f.statics.sites)) [
  | inl below ↦ lt-ltb s (length f.statics.sites) below
  | inr past ↦
      let clash : true ≡ false = sym h ∙ ap (λ (o : Option Site). fits (slice_get f.nodes v) o (slice_get f.nodes w)) (slice_get_past f.statics.sites s past) ∙ no_site (slice_get f.nodes v) (slice_get f.nodes w) in
      absurd (cc clash)
]

callee_there : (f : ProfileRows) (v s w : ℕ) → fits_site f v s w ≡ true → nat_lt w (length f.nodes) ≡ true
callee_there f v s w h = elim (cases_lt w (length f.nodes)) [
  | inl below ↦ lt-ltb w (length f.nodes) below
  | inr past ↦
      let clash : true ≡ false = sym h ∙ ap (fits (slice_get f.nodes v) (slice_get f.statics.sites s)) (slice_get_past f.nodes w past) ∙ no_callee (slice_get f.nodes v) (slice_get f.statics.sites s) in
      absurd (cc clash)
]

-- a link that keeps the rules
pub read_link : (k : ℕ) (f : ProfileRows) (next : Next) (at : ℕ) (bs rest : List ℕ) → length bs ≡ link_size k → fits_site f (number_at bs 0) (number_at bs 4) (number_at bs 8) ≡ true
    → is_new_link f (number_at bs 0) (number_at bs 4) (number_at bs 8) ≡ true
    → read (link_field k f next) at (bs ++ rest) ≡ read (next (with_link f (link_of (number_at bs 0) (number_at bs 4) (number_at bs 8) (numbers_at k bs 12)))) (at + link_size k) rest
read_link k f next at bs rest size fitting new =
    let v : ℕ = number_at bs 0 in
    let s : ℕ = number_at bs 4 in
    let w : ℕ = number_at bs 8 in
    let ns : List ℕ = numbers_at k bs 12 in
    let ends : at + 4 + 4 + 4 + 4 * k ≡ at + link_size k = omega arith in
    let all : drop (12 + 4 * k) bs ≡ [] = drop_of_length-le bs (omega (arith, size)) in
    read_number (link_caller k f next) at 0 bs rest (omega (arith, size))
    ∙ passes kinds.Range 4 (nat_lt v (length f.nodes)) (number (link_site k f next v)) (at + 4) (drop 4 bs ++ rest) (caller_there f v s w fitting)
    ∙ read_number (link_site k f next v) (at + 4) 4 bs rest (omega (arith, size))
    ∙ passes kinds.Range 4 (nat_lt s (length f.statics.sites)) (number (link_callee k f next v s)) (at + 4 + 4) (drop 8 bs ++ rest) (site_there f v s w fitting)
    ∙ read_number (link_callee k f next v s) (at + 4 + 4) 8 bs rest (omega (arith, size))
    ∙ passes kinds.Range 4 (nat_lt w (length f.nodes)) (numbers k [] (link_own k f next v s w)) (at + 4 + 4 + 4) (drop 12 bs ++ rest) (callee_there f v s w fitting)
    ∙ read_numbers k [] (link_own k f next v s w) (at + 4 + 4 + 4) 12 bs rest (omega (arith, size))
    ∙ passes kinds.SiteMismatch (link_size k) (fits_site f v s w) (must kinds.DoubleLink (link_size k) (is_new_link f v s w) (next (with_link f (link_of v s w ns)))) (at + 4 + 4 + 4 + 4 * k) (drop (12 + 4 * k) bs ++ rest) fitting
    ∙ passes kinds.DoubleLink (link_size k) (is_new_link f v s w) (next (with_link f (link_of v s w ns))) (at + 4 + 4 + 4 + 4 * k) (drop (12 + 4 * k) bs ++ rest) new
    ∙ ap (λ (p : ℕ). read (next (with_link f (link_of v s w ns))) p (drop (12 + 4 * k) bs ++ rest)) ends
    ∙ ap (λ (xs : List ℕ). read (next (with_link f (link_of v s w ns))) (at + link_size k) (xs ++ rest)) all

-- where no byte of a number came yet
nothing_carried : (carry : List ℕ) (left : ℕ) → 4 ≤ left → left + length carry ≡ 4 → carry ≡ []
nothing_carried [] left four sum = refl
nothing_carried (b ∷ carry) left four sum = absurd (omega (arith, four, sum))

pub form_number : (field : Field) (s : State) → s.part ≡ parts.Number field → 4 ≤ s.left → IsReady s → form_of s ≡ number (number_told field s)
form_number field s is four ready =
    let part : IsReadyPart (parts.Number field) s = subst (λ (p : Part). IsReadyPart p s) is ready.part in
    let left : s.left ≡ 4 = (let sum : s.left + length s.carry ≡ 4 = part.1 in omega (arith, four, sum)) in
    let carry : s.carry ≡ [] = nothing_carried s.carry s.left four part.1 in
    ap (λ (p : Part). form_at p s) is
    ∙ ap (λ (n : ℕ). bytes n s.carry (told_by field s)) left
    ∙ ap (λ (xs : List ℕ). bytes 4 xs (told_by field s)) carry

read_told : (field : Field) (s : State) (bs rest : List ℕ) (n place : ℕ) → form_of s ≡ number (number_told field s) → 4 ≤ length bs → n ≡ number_at bs 0 → place ≡ s.at + 4
    → read (form_of s) s.at (bs ++ rest) ≡ read (number_told field (record s { at = place }) n) place (drop 4 bs ++ rest)
read_told field s bs rest n place form four is at =
    ap (λ (t : Text). read t s.at (bs ++ rest)) form
    ∙ read_number (number_told field s) s.at 0 bs rest four
    ∙ ap (λ (m : ℕ). read (number_told field s m) (s.at + 4) (drop 4 bs ++ rest)) (sym is)
    ∙ ap (λ (p : ℕ). read (number_told field s n) p (drop 4 bs ++ rest)) (sym at)
    ∙ ap (λ (t : Text). read t place (drop 4 bs ++ rest)) (sym (number_same field s s.left s.carry place n))

-- a number that is at hand
pub number_taken : (field : Field) (s now : State) (bs : List ℕ) (n place : ℕ) → form_of s ≡ number (number_told field s) → 4 ≤ length bs → n ≡ number_at bs 0 → place ≡ s.at + 4
    → Follows (number_told field (record s { at = place }) n) place now (Ok tt) → FollowsSome (form_of s) bs s.at now (Ok 4)
number_taken field s now bs n place form four is at h = (omega arith, four, λ rest. read_told field s bs rest n place form four is at ∙ h (drop 4 bs ++ rest))

pub number_damaged : (field : Field) (s now : State) (bs : List ℕ) (n place : ℕ) (fault : DecodeFault) → form_of s ≡ number (number_told field s) → 4 ≤ length bs → n ≡ number_at bs 0 → place ≡ s.at + 4
    → Follows (number_told field (record s { at = place }) n) place now (Err fault) → FollowsSome (form_of s) bs s.at now (Err fault)
number_damaged field s now bs n place (Damaged p kind) form four is at h = (h.0, λ rest. read_told field s bs rest n place form four is at ∙ h.1 (drop 4 bs ++ rest))
number_damaged field s now bs n place NoMemory form four is at h = tt

-- a byte
byte_first : (bs rest : List ℕ) → 1 ≤ length bs → bs ++ rest ≡ get_or bs 0 0 ∷ (drop 1 bs ++ rest)
byte_first bs rest some = ap (λ (xs : List ℕ). xs ++ rest) (drop_more bs 0 0 some)

pub byte_taken : (form : Text) (at : ℕ) (bs : List ℕ) (now : State) → 1 ≤ length bs → FollowsByte form (get_or bs 0 0) at now (Ok tt) → FollowsSome form bs at now (Ok 1)
byte_taken form at bs now some h = (omega arith, some, λ rest. ap (read form at) (byte_first bs rest some) ∙ h (drop 1 bs ++ rest))

pub byte_damaged : (form : Text) (at : ℕ) (bs : List ℕ) (now : State) (fault : DecodeFault) → 1 ≤ length bs → FollowsByte form (get_or bs 0 0) at now (Err fault) → FollowsSome form bs at now (Err fault)
byte_damaged form at bs now (Damaged p kind) some h = (h.0, λ rest. ap (read form at) (byte_first bs rest some) ∙ h.1 (drop 1 bs ++ rest))
byte_damaged form at bs now NoMemory some h = tt

-- a link that is at hand
pub link_taken : (s now : State) (bs : List ℕ) (size : ℕ) → size ≡ link_size (width s.version) → size ≤ length bs → TakesAll (form_of s) (take size bs) s.at now → FollowsSome (form_of s) bs s.at now (Ok size)
link_taken s now bs size is within h = (
  omega (arith, is),
  within,
  λ rest.
      ap (λ (xs : List ℕ). read (form_of s) s.at (xs ++ rest)) (sym (take-append-drop size bs))
      ∙ ap (read (form_of s) s.at) (append_assoc (take size bs) (drop size bs) rest)
      ∙ h (drop size bs ++ rest),
)

-- it goes on behind the link
pub link_goes : (s : State) (bs rest : List ℕ) (v t w : ℕ) (own : Counts) (rows : ProfileRows) (place : ℕ) → length bs ≡ link_size (width s.version) → v ≡ number_at bs 0 → t ≡ number_at bs 4 → w ≡ number_at bs 8
    → own ≡ counts_of (numbers_at (width s.version) bs 12) → fits_site s.rows v t w ≡ true → is_new_link s.rows v t w ≡ true
    → rows ≡ with_link s.rows (record { caller = Some v; site = Some t; callee = w; own = own }) → place ≡ s.at + link_size (width s.version)
    → read (number (link_caller (width s.version) s.rows (next_link s))) s.at (bs ++ rest) ≡ read (next_link s rows) place rest
link_goes s bs rest v t w own rows place size first second third counts fitting new are at =
    let k : ℕ = width s.version in
    let f : ProfileRows = s.rows in
    let fits_here : fits_site f (number_at bs 0) (number_at bs 4) (number_at bs 8) ≡ true =
    sym (ap (λ (x : ℕ). fits_site f x t w) first ∙ ap (λ (x : ℕ). fits_site f (number_at bs 0) x w) second ∙ ap (fits_site f (number_at bs 0) (number_at bs 4)) third) ∙ fitting in
    let new_here : is_new_link f (number_at bs 0) (number_at bs 4) (number_at bs 8) ≡ true =
    sym (ap (λ (x : ℕ). is_new_link f x t w) first ∙ ap (λ (x : ℕ). is_new_link f (number_at bs 0) x w) second ∙ ap (is_new_link f (number_at bs 0) (number_at bs 4)) third) ∙ new in
    let row : with_link f (record { caller = Some v; site = Some t; callee = w; own = own }) ≡ with_link f (link_of (number_at bs 0) (number_at bs 4) (number_at bs 8) (numbers_at k bs 12)) =
    λ i. with_link f (record { caller = Some (first i); site = Some (second i); callee = third i; own = counts i }) in
    read_link k f (next_link s) s.at bs rest size fits_here new_here
    ∙ ap (λ (g : ProfileRows). read (next_link s g) (s.at + link_size k) rest) (sym (are ∙ row))
    ∙ ap (λ (p : ℕ). read (next_link s rows) p rest) (sym at)

drop_drop : (n m : ℕ) (xs : List ℕ) → drop n (drop m xs) ≡ drop (m + n) xs
drop_drop n zero xs = (let same : n ≡ 0 + n = omega arith in ap (λ (k : ℕ). drop k xs) same)
drop_drop n (suc m) [] = drop-nil n ∙ sym (drop-nil (suc m + n))
drop_drop n (suc m) (x ∷ xs) = drop_drop n m xs ∙ (let same : suc (m + n) ≡ suc m + n = omega arith in ap (λ (k : ℕ). drop k (x ∷ xs)) same)

pub rest_is : (done : ℕ) (piece : List ℕ) → take (length piece - done) (drop done piece) ≡ drop done piece
rest_is done piece = ap (λ (k : ℕ). take k (drop done piece)) (sym (length-drop done piece)) ∙ take-length (drop done piece)

-- more of the bytes of a piece
pub piece_goes : (form : Text) (at : ℕ) (piece left : List ℕ) (done n : ℕ) (s now : State) → left ≡ drop done piece → done ≤ length piece
    → ((rest : List ℕ) → read form at (piece ++ rest) ≡ read (form_of s) s.at (drop done piece ++ rest)) → FollowsSome (form_of s) left s.at now (Ok n)
    → (done + n ≤ length piece) × ((rest : List ℕ) → read form at (piece ++ rest) ≡ read (form_of now) now.at (drop (done + n) piece ++ rest))
piece_goes form at piece left done n s now is within so_far h =
    let whole : FollowsSome (form_of s) (drop done piece) s.at now (Ok n) = subst (λ (xs : List ℕ). FollowsSome (form_of s) xs s.at now (Ok n)) is h in
    let few : n ≤ length (drop done piece) = whole.1 in
    (omega (arith, within, few, length-drop done piece), λ rest. so_far rest ∙ whole.2 rest ∙ ap (λ (xs : List ℕ). read (form_of now) now.at (xs ++ rest)) (drop_drop n done piece))

pub piece_stops : (form : Text) (at : ℕ) (piece left : List ℕ) (done : ℕ) (s now after : State) (fault : DecodeFault) → left ≡ drop done piece
    → ((rest : List ℕ) → read form at (piece ++ rest) ≡ read (form_of s) s.at (drop done piece ++ rest)) → FollowsSome (form_of s) left s.at now (Err fault) → FollowsBytes form piece at after (Err fault)
piece_stops form at piece left done s now after (Damaged place kind) is so_far h = (h.0, λ rest. so_far rest ∙ ap (λ (xs : List ℕ). read (form_of s) s.at (xs ++ rest)) (sym is) ∙ h.1 rest)
piece_stops form at piece left done s now after NoMemory is so_far h = tt

pub piece_ends : (form : Text) (at : ℕ) (piece : List ℕ) (done : ℕ) (s : State) → length piece ≤ done
    → ((rest : List ℕ) → read form at (piece ++ rest) ≡ read (form_of s) s.at (drop done piece ++ rest)) → FollowsBytes form piece at s (Ok tt)
piece_ends form at piece done s past so_far rest = so_far rest ∙ ap (λ (xs : List ℕ). read (form_of s) s.at (xs ++ rest)) (drop_of_length-le piece past)
