-- What the decoder's steps need of reading.
use Rattle.std.proofs.Common.{◌≡◌, ℕ, suc, ◌+◌, ◌-◌, ◌<◌, ◌≤◌, ◌==◌, inl, inr, Bool, true, cond, List, [], ◌∷◌, ◌++◌, get_or, drop, Result, Ok, Err, subst, refl, ap, sym, ◌∙◌, arith}
use Rattle.std.proofs.lemmas.Bool.{eq-eqb, ne_eqb, cases_lt}
use Rattle.std.specs.Int.{w32, from_le_bytes}
use Rattle.std.proofs.lemmas.List.{drop_more}
use Rattle.md_dynamic.specs.Profile.{ProfileRows}
use Rattle.md_deepfile.specs.Bytes.{magic}
use Rattle.md_deepfile.specs.Fields.{Text, Next, version_told}
use Rattle.md_deepfile.specs.Format.{byte, must, damage, several, bytes, read, number, numbers, exactly}
use Rattle.md_deepfile.specs.Rules.{begun}
use Rattle.md_deepfile.specs.State.{State, Follows, FollowsByte, Leads, form_at, form_of, width, number_told, name_told, after_number, after_name, IsReadyNumber, IsReadyPart, IsReady, IsEnd}
use Rattle.md_deepfile.specs.declared.damage.DecodeFault.{DecodeFault}
use Rattle.md_deepfile.specs.declared.damage.DecodeFault.TheVariants.{Damage as Damaged, NoMemory}
use Rattle.md_deepfile.specs.declared.part.Field.{Field}
use Rattle.md_deepfile.specs.declared.part.Field.TheVariants as fields
use Rattle.md_deepfile.specs.declared.part.Named.{Named}
use Rattle.md_deepfile.specs.declared.part.Named.TheVariants as named
use Rattle.md_deepfile.specs.declared.damage.Kind.TheVariants as kinds
use Rattle.md_deepfile.specs.declared.part.Part.{Part}
use Rattle.md_deepfile.specs.declared.part.Part.TheVariants as parts
use Rattle.md_deepfile.specs.declared.part.Version.{Version}
use Rattle.md_deepfile.specs.declared.part.Version.TheVariants as versions

-- nothing was read but the flag
pub flag_set : (r : ProfileRows) (b : Bool) → r ≡ begun r.finished → record r { finished = b } ≡ begun b
flag_set r b is = ap (λ (f : ProfileRows). record f { finished = b }) is

-- one thing of several
pub several_more : (thing : ProfileRows → Next → Text) (n : ℕ) (f : ProfileRows) (next : Next) → 0 < n → several thing n f next ≡ thing f (λ g. several thing (n - 1) g next)
several_more thing n f next some =
    let count : n ≡ suc (n - 1) = omega (arith, some) in
    ap (λ (k : ℕ). several thing k f next) count

-- a field of no bytes is there at once
pub no_bytes : (n : ℕ) (carry : List ℕ) (told : List ℕ → Text) (at : ℕ) (now : State) (result : Result (Unit {0}) DecodeFault) → n ≡ 0 → carry ≡ [] → Follows (told carry) at now result → Follows (bytes n [] told) at now result
no_bytes n carry told at now result none empty h =
    subst (λ (k : ℕ). Follows (bytes k [] told) at now result) (sym none) (subst (λ (bs : List ℕ). Follows (told bs) at now result) empty h)

-- a rule that holds is passed
pub range_passes : (fine : Bool) (form : Text) (at : ℕ) (s now : State) → fine ≡ true → now ≡ s → Leads form at s → Leads (must kinds.Range 4 fine form) at now
range_passes fine form at s now holds is leads =
    λ rest. ap (λ (b : Bool). cond b (read form at rest) (damage (at - 4) kinds.Range)) holds ∙ leads rest ∙ sym (ap (λ (t : State). read (form_of t) t.at rest) is)

-- the first count of a link
pub numbers_first : (v : Version) (told : List ℕ → Text) → numbers (width v) [] told ≡ number (λ n. numbers (width v - 1) ([] ++ n ∷ []) told)
numbers_first versions.First told = refl
numbers_first versions.Second told = refl

-- what follows a byte
pub byte_follows : (told : ℕ → Text) (b at place : ℕ) (now : State) (result : Result (Unit {0}) DecodeFault) → place ≡ at + 1 → Follows (told b) place now result → FollowsByte (byte told) b at now result
byte_follows told b at place now result is h = so result (subst (λ (p : ℕ). Follows (told b) p now result) is h)
  where
    so : (r : Result (Unit {0}) DecodeFault) → Follows (told b) (at + 1) now r → FollowsByte (byte told) b at now r
    so (Ok u) h = h
    so (Err (Damaged p kind)) h = h
    so (Err NoMemory) h = h

abbrev pub magic_told : ℕ → Text → ℕ → Text
magic_told place next b = must kinds.Magic 1 (b == get_or magic place 0) (exactly (drop (place + 1) magic) next)

-- a byte of the magic
pub magic_step : (place : ℕ) (next : Text) → place < 7 → exactly (drop place magic) next ≡ byte (magic_told place next)
magic_step place next within = ap (λ (ms : List ℕ). exactly ms next) (drop_more magic place 0 (omega arith))

pub magic_all : (place : ℕ) (next : Text) → place ≡ 7 → exactly (drop place magic) next ≡ next
magic_all place next is = ap (λ (k : ℕ). exactly (drop k magic) next) is

pub magic_goes : (place b at p : ℕ) (next : Text) (rest : List ℕ) → place < 7 → p ≡ at + 1 → b ≡ get_or magic place 0 → read (exactly (drop place magic) next) at (b ∷ rest) ≡ read (exactly (drop (place + 1) magic) next) p rest
magic_goes place b at p next rest within is same =
    ap (λ (t : Text). read t at (b ∷ rest)) (magic_step place next within)
    ∙ ap (λ (t : Bool). cond t (read (exactly (drop (place + 1) magic) next) (at + 1) rest) (damage (at + 1 - 1) kinds.Magic)) (eq-eqb b (get_or magic place 0) same)
    ∙ ap (λ (q : ℕ). read (exactly (drop (place + 1) magic) next) q rest) (sym is)

pub magic_fails : (place b at p : ℕ) (next : Text) (now : State) (fault : DecodeFault) → place < 7 → p ≡ at + 1 → (b ≡ get_or magic place 0 → ⊥) → fault ≡ Damaged (p - 1) kinds.Magic → FollowsByte (exactly (drop place magic) next) b at now (Err fault)
magic_fails place b at p next now fault within is other told =
    subst (λ (f : DecodeFault). FollowsByte (exactly (drop place magic) next) b at now (Err f)) (sym told) (
      refl,
      λ rest.
          ap (λ (t : Text). read t at (b ∷ rest)) (magic_step place next within)
          ∙ ap (λ (t : Bool). cond t (read (exactly (drop (place + 1) magic) next) (at + 1) rest) (damage (at + 1 - 1) kinds.Magic)) (ne_eqb b (get_or magic place 0) other)
          ∙ ap (λ (q : ℕ). damage (q - 1) kinds.Magic) (sym is),
    )

-- one count of several
pub numbers_more : (n : ℕ) (front : List ℕ) (told : List ℕ → Text) → 0 < n → numbers n front told ≡ number (λ m. numbers (n - 1) (front ++ m ∷ []) told)
numbers_more n front told some =
    let count : n ≡ suc (n - 1) = omega (arith, some) in
    ap (λ (k : ℕ). numbers k front told) count

pub counts_go : (n : ℕ) (own front : List ℕ) (told : List ℕ → Text) (at : ℕ) (s now : State) → 0 < n → front ≡ own → now ≡ s → Leads (number (λ m. numbers (n - 1) (front ++ m ∷ []) told)) at s → Leads (numbers n own told) at now
counts_go n own front told at s now some same is leads = λ rest.
    ap (λ (xs : List ℕ). read (numbers n xs told) at rest) (sym same) ∙ ap (λ (t : Text). read t at rest) (numbers_more n front told some) ∙ leads rest ∙ sym (ap (λ (t : State). read (form_of t) t.at rest) is)

-- neither the bytes of a field that came nor their place tell anything of what follows it
pub number_same : (field : Field) (s : State) (left : ℕ) (carry : List ℕ) (at n : ℕ) → number_told field (record s { left = left; carry = carry; at = at }) n ≡ number_told field s n
number_same fields.ModuleCount s left carry at n = refl
number_same fields.ProcCount s left carry at n = refl
number_same fields.ProcModule s left carry at n = refl
number_same fields.SiteCount s left carry at n = refl
number_same fields.SiteOwner s left carry at n = refl
number_same (fields.SiteLine o) s left carry at n = refl
number_same (fields.SiteCallee o l) s left carry at n = refl
number_same fields.ContextCount s left carry at n = refl
number_same fields.ContextProc s left carry at n = refl
number_same fields.LinkCount s left carry at n = refl
number_same fields.RootCaller s left carry at n = refl
number_same fields.RootSite s left carry at n = refl
number_same fields.RootCallee s left carry at n = refl
number_same fields.RootOwn s left carry at n = refl
number_same fields.LinkCaller s left carry at n = refl
number_same (fields.LinkSite v) s left carry at n = refl
number_same (fields.LinkCallee v t) s left carry at n = refl
number_same (fields.LinkOwn v t w) s left carry at n = refl

pub after_same : (field : Field) (s : State) (left : ℕ) (carry : List ℕ) (at : ℕ) → after_number field (record s { left = left; carry = carry; at = at }) ≡ after_number field s
after_same fields.ModuleCount s left carry at = refl
after_same fields.ProcCount s left carry at = refl
after_same fields.ProcModule s left carry at = refl
after_same fields.SiteCount s left carry at = refl
after_same fields.SiteOwner s left carry at = refl
after_same (fields.SiteLine o) s left carry at = refl
after_same (fields.SiteCallee o l) s left carry at = refl
after_same fields.ContextCount s left carry at = refl
after_same fields.ContextProc s left carry at = refl
after_same fields.LinkCount s left carry at = refl
after_same fields.RootCaller s left carry at = refl
after_same fields.RootSite s left carry at = refl
after_same fields.RootCallee s left carry at = refl
after_same fields.RootOwn s left carry at = refl
after_same fields.LinkCaller s left carry at = refl
after_same (fields.LinkSite v) s left carry at = refl
after_same (fields.LinkCallee v t) s left carry at = refl
after_same (fields.LinkOwn v t w) s left carry at = refl

pub ready_same : (field : Field) (s : State) (left : ℕ) (carry : List ℕ) (at : ℕ) → IsReadyNumber field s → IsReadyNumber field (record s { left = left; carry = carry; at = at })
ready_same fields.ModuleCount s left carry at h = h
ready_same fields.ProcCount s left carry at h = h
ready_same fields.ProcModule s left carry at h = h
ready_same fields.SiteCount s left carry at h = h
ready_same fields.SiteOwner s left carry at h = h
ready_same (fields.SiteLine o) s left carry at h = h
ready_same (fields.SiteCallee o l) s left carry at h = h
ready_same fields.ContextCount s left carry at h = h
ready_same fields.ContextProc s left carry at h = h
ready_same fields.LinkCount s left carry at h = h
ready_same fields.RootCaller s left carry at h = h
ready_same fields.RootSite s left carry at h = h
ready_same fields.RootCallee s left carry at h = h
ready_same fields.RootOwn s left carry at h = h
ready_same fields.LinkCaller s left carry at h = h
ready_same (fields.LinkSite v) s left carry at h = h
ready_same (fields.LinkCallee v t) s left carry at h = h
ready_same (fields.LinkOwn v t w) s left carry at h = h

pub name_same : (which : Named) (s : State) (left : ℕ) (carry : List ℕ) (at : ℕ) → name_told which (record s { left = left; carry = carry; at = at }) ≡ name_told which s
name_same named.Module s left carry at = refl
name_same (named.Proc home) s left carry at = refl

pub after_name_same : (which : Named) (s : State) (left : ℕ) (carry : List ℕ) (at : ℕ) → after_name which (record s { left = left; carry = carry; at = at }) ≡ after_name which s
after_name_same named.Module s left carry at = refl
after_name_same (named.Proc home) s left carry at = refl

-- one byte of several
pub bytes_more : (n : ℕ) (front : List ℕ) (told : List ℕ → Text) → 0 < n → bytes n front told ≡ byte (λ b. bytes (n - 1) (front ++ b ∷ []) told)
bytes_more n front told some =
    let count : n ≡ suc (n - 1) = omega (arith, some) in
    ap (λ (k : ℕ). bytes k front told) count

-- what follows the bytes of a number
abbrev pub told_by : Field → State → List ℕ → Text
told_by field s bs = number_told field s (from_le_bytes w32 bs)

told_same : (field : Field) (s : State) (left : ℕ) (carry : List ℕ) (at : ℕ) → told_by field (record s { left = left; carry = carry; at = at }) ≡ told_by field s
told_same field s left carry at = λ i bs. number_same field s left carry at (from_le_bytes w32 bs) i

pub number_follows : (field : Field) (s : State) (b : ℕ) (now : State) (result : Result (Unit {0}) DecodeFault) → 0 < s.left
    → Follows (bytes (s.left - 1) (s.carry ++ b ∷ []) (told_by field (record s { at = s.at + 1 }))) (s.at + 1) now result → FollowsByte (bytes s.left s.carry (told_by field s)) b s.at now result
number_follows field s b now result some h =
    let same = subst (λ (f : List ℕ → Text). Follows (bytes (s.left - 1) (s.carry ++ b ∷ []) f) (s.at + 1) now result) (told_same field s s.left s.carry (s.at + 1)) h in
    subst (λ (t : Text). FollowsByte t b s.at now result) (sym (bytes_more s.left s.carry (told_by field s) some))
    (byte_follows (λ c. bytes (s.left - 1) (s.carry ++ c ∷ []) (told_by field s)) b s.at (s.at + 1) now result refl same)

pub name_follows : (which : Named) (s : State) (b : ℕ) (now : State) (result : Result (Unit {0}) DecodeFault) → 0 < s.left
    → Follows (bytes (s.left - 1) (s.carry ++ b ∷ []) (name_told which (record s { at = s.at + 1 }))) (s.at + 1) now result → FollowsByte (bytes s.left s.carry (name_told which s)) b s.at now result
name_follows which s b now result some h =
    let same = subst (λ (f : List ℕ → Text). Follows (bytes (s.left - 1) (s.carry ++ b ∷ []) f) (s.at + 1) now result) (name_same which s s.left s.carry (s.at + 1)) h in
    subst (λ (t : Text). FollowsByte t b s.at now result) (sym (bytes_more s.left s.carry (name_told which s) some))
    (byte_follows (λ c. bytes (s.left - 1) (s.carry ++ c ∷ []) (name_told which s)) b s.at (s.at + 1) now result refl same)

pub length_follows : (which : Named) (s : State) (b : ℕ) (now : State) (result : Result (Unit {0}) DecodeFault)
    → Follows (bytes b [] (name_told which (record s { at = s.at + 1 }))) (s.at + 1) now result → FollowsByte (byte (λ n. bytes n [] (name_told which s))) b s.at now result
length_follows which s b now result h =
    let same = subst (λ (f : List ℕ → Text). Follows (bytes b [] f) (s.at + 1) now result) (name_same which s s.left s.carry (s.at + 1)) h in
    byte_follows (λ n. bytes n [] (name_told which s)) b s.at (s.at + 1) now result refl same

-- a byte more of a number or a name that isn't whole yet
pub number_stays : (field : Field) (s : State) (left : ℕ) (carry more : List ℕ) → s.part ≡ parts.Number field → more ≡ carry → Leads (bytes left carry (told_by field s)) s.at (record s { left = left; carry = more })
number_stays field s left carry more is same = λ rest.
    ap (λ (xs : List ℕ). read (bytes left xs (told_by field s)) s.at rest) (sym same)
    ∙ ap (λ (f : List ℕ → Text). read (bytes left more f) s.at rest) (sym (told_same field s left more s.at))
    ∙ sym (ap (λ (p : Part). read (form_at p (record s { left = left; carry = more })) s.at rest) is)

pub name_stays : (which : Named) (s : State) (left : ℕ) (carry more : List ℕ) → s.part ≡ parts.Name which → more ≡ carry → Leads (bytes left carry (name_told which s)) s.at (record s { left = left; carry = more })
name_stays which s left carry more is same = λ rest.
    ap (λ (xs : List ℕ). read (bytes left xs (name_told which s)) s.at rest) (sym same)
    ∙ ap (λ (f : List ℕ → Text). read (bytes left more f) s.at rest) (sym (name_same which s left more s.at))
    ∙ sym (ap (λ (p : Part). read (form_at p (record s { left = left; carry = more })) s.at rest) is)

-- the last byte of one
pub number_whole : (field : Field) (s : State) (n left : ℕ) (carry more : List ℕ) (v at : ℕ) (now : State) (result : Result (Unit {0}) DecodeFault) → n ≡ 0 → more ≡ carry → v ≡ from_le_bytes w32 more
    → Follows (number_told field (record s { left = left; carry = more }) v) at now result → Follows (bytes n carry (told_by field s)) at now result
number_whole field s n left carry more v at now result none same is h =
    let one = subst (λ (t : Text). Follows t at now result) (number_same field s left more s.at v) h in
    let two = subst (λ (w : ℕ). Follows (number_told field s w) at now result) (is ∙ ap (from_le_bytes w32) same) one in
    subst (λ (k : ℕ). Follows (bytes k carry (told_by field s)) at now result) (sym none) two

pub name_whole : (which : Named) (s : State) (n left : ℕ) (carry more : List ℕ) (at : ℕ) (now : State) (result : Result (Unit {0}) DecodeFault) → n ≡ 0 → more ≡ carry
    → Follows (name_told which (record s { left = left; carry = more }) more) at now result → Follows (bytes n carry (name_told which s)) at now result
name_whole which s n left carry more at now result none same h =
    let one = subst (λ (f : List ℕ → Text). Follows (f more) at now result) (name_same which s left more s.at) h in
    let two = subst (λ (xs : List ℕ). Follows (name_told which s xs) at now result) same one in
    subst (λ (k : ℕ). Follows (bytes k carry (name_told which s)) at now result) (sym none) two

-- a file that ends within a field is short
pub short_at : (p : Part) (s : State) → IsReadyPart p s → (p ≡ parts.End → ⊥) → read (form_at p s) s.at [] ≡ damage s.at kinds.Short
short_at (parts.Magic place) s ready other = elim (cases_lt place 7) [
  | inl within ↦ ap (λ (t : Text). read t s.at []) (magic_step place (byte version_told) within)
  | inr last ↦ ap (λ (t : Text). read t s.at []) (magic_all place (byte version_told) (let above : place ≤ 7 = ready.0 in omega (arith, last, above)))
]
short_at parts.Flag s ready other = refl
short_at (parts.Number field) s ready other = ap (λ (t : Text). read t s.at []) (bytes_more s.left s.carry (told_by field s) ready.0)
short_at (parts.Length which) s ready other = refl
short_at (parts.Name which) s ready other = ap (λ (t : Text). read t s.at []) (bytes_more s.left s.carry (name_told which s) ready)
short_at (parts.Arity home) s ready other = refl
short_at parts.End s ready other = absurd (other refl)

pub short_end : (s : State) (fault : DecodeFault) → IsReady s → (s.part ≡ parts.End → ⊥) → fault ≡ Damaged (s.at - 0) kinds.Short → IsEnd (read (form_of s) s.at []) s.rows (Err fault)
short_end s fault ready other told =
    let less : s.at ≡ s.at - 0 = omega arith in
    subst (λ (f : DecodeFault). IsEnd (read (form_of s) s.at []) s.rows (Err f)) (sym told)
    (short_at s.part s ready.part other ∙ ap (λ (p : ℕ). damage p kinds.Short) less)
