-- Things that are fine one after the other are a valid profile's, and a valid profile's things are fine.
use Rattle.std.proofs.Common.{◌≡◌, ◌≢◌, ℕ, suc, ◌-◌, ◌<◌, ◌≤◌, ◌^◌, inl, inr, Bool, true, false, cond, not, ◌&&◌, ◌||◌, ◌==◌, nat_lt, nat_le, List, [], ◌∷◌, ◌++◌, length, get_or, IfSome, refl, sym, ap, subst, ◌∙◌, append_assoc, arith}
use Rattle.std.specs.Prelude.{IsTrue, slice_get, bytes_eq}
use Rattle.std.specs.List.{All, AllPairs, list_any}
use Rattle.std.proofs.lemmas.List.{append-nil, length-append, get_or_at, get_or_append_left}
use Rattle.std.proofs.lemmas.List.Elements.{All-push, All-nil}
use Rattle.std.proofs.lemmas.List.Quantifiers.{all_pairs_push}
use Rattle.std.proofs.lemmas.List.Folds.{list_any_at, list_any_none}
use Rattle.std.proofs.lemmas.Bool.{both_ways, not-true, ltb-true, leb-true, lt-ltb, le-leb, eqb-true, eq-eqb, ne_eqb, and_parts, and_from, or_cases, or_right, not_from_false, cond-false, false_from_ne_true, false≢true}
use Rattle.std.proofs.lemmas.Slice.Eq.{bytes_eq-Decides}
use Rattle.md_static.specs.declared.entry.Proc.{Proc}
use Rattle.md_static.specs.declared.entry.Site.{Site}
use Rattle.md_static.specs.declared.entry.SiteKind.{SiteKind}
use Rattle.md_static.specs.declared.entry.SiteKind.TheVariants.{Plain, HigherOrder}
use Rattle.md_static.specs.Names.{is_lower, is_upper, is_digit, is_word, are_words, is_name}
use Rattle.md_static.specs.Sites.{OwnersRiseFrom}
use Rattle.md_static.specs.Tables.{callee_of}
use Rattle.md_dynamic.specs.Profile.{ProfileRows}
use Rattle.md_deepfile.specs.Bytes.{none, or_none}
use Rattle.md_deepfile.specs.Rules.{with_module, with_proc, with_site, with_context, is_proc, owner_or_zero, last_owner, is_callee, kind_of}
use Rattle.md_deepfile.proofs.Accepts.{AreBytes}
use Rattle.md_deepfile.proofs.Things.{AllFine, IsFineModule, IsFineProc, IsFineSite, IsFineContext}
use Rattle.md_deepfile.proofs.Whole.{rows}

-- what holds of no things, and with one more where it is fine, holds of all
pub grow : {X : Type 0} (add : ProfileRows → X → ProfileRows) (Fine : ProfileRows → X → Type 0) (at : List X → ProfileRows) → ((zs : List X) (x : X) → add (at zs) x ≡ at (zs ++ x ∷ []))
    → (V : List X → Type 0) → ((zs : List X) (x : X) → V zs → Fine (at zs) x → V (zs ++ x ∷ [])) → (zs xs : List X) → V zs → AllFine add Fine (at zs) xs → V (zs ++ xs)
grow {X} add Fine at same V step zs [] v fine = subst V (sym (append-nil zs)) v
grow {X} add Fine at same V step zs (x ∷ xs) v fine =
    subst V (append_assoc zs (x ∷ []) xs)
    (grow add Fine at same V step (zs ++ x ∷ []) xs (step zs x v fine.0) (subst (λ (f : ProfileRows). AllFine add Fine f xs) (same zs x) fine.1))

-- what holds of all tells that each is fine behind those before it
pub shrink : {X : Type 0} (add : ProfileRows → X → ProfileRows) (Fine : ProfileRows → X → Type 0) (at : List X → ProfileRows) → ((zs : List X) (x : X) → add (at zs) x ≡ at (zs ++ x ∷ []))
    → (V : List X → Type 0) → ((zs ys : List X) (x : X) → V (zs ++ x ∷ ys) → Fine (at zs) x) → (zs xs : List X) → V (zs ++ xs) → AllFine add Fine (at zs) xs
shrink {X} add Fine at same V part zs [] v = tt
shrink {X} add Fine at same V part zs (x ∷ xs) v = (
  part zs xs x v,
  subst (λ (f : ProfileRows). AllFine add Fine f xs) (sym (same zs x))
      (shrink add Fine at same V part (zs ++ x ∷ []) xs (subst V (sym (append_assoc zs (x ∷ []) xs)) v)),
)

-- one of a list
pub all_at : {X : Type 0} (P : X → Type 0) (zs ys : List X) (x : X) → All P (zs ++ x ∷ ys) → P x
all_at {X} P zs ys x all =
    subst P (get_or_at zs x ys x (length zs) refl) (all (length zs) x (omega (arith, length-append zs (x ∷ ys))))

pub pair_at : {X : Type 0} (R : X → X → Type 0) (zs ys : List X) (x : X) → AllPairs R (zs ++ x ∷ ys) → (k : ℕ) (d : X) → k < length zs → R (get_or zs k d) x
pair_at {X} R zs ys x all k d below =
    let whole = all k (length zs) d below (omega (arith, length-append zs (x ∷ ys))) in
    let first = subst (λ (z : X). R z (get_or (zs ++ x ∷ ys) (length zs) d)) (get_or_append_left zs (x ∷ ys) d k below) whole in
    subst (λ (z : X). R (get_or zs k d) z) (get_or_at zs x ys d (length zs) refl) first

pub no_pairs : {X : Type 0} (R : X → X → Type 0) → AllPairs R []
no_pairs {X} R i j d less within = absurd (omega (arith, within))

-- none passes a test where it passes at none
pub none_passes : {X : Type 0} (p : X → Bool) (zs : List X) → ((k : ℕ) (d : X) → k < length zs → p (get_or zs k d) ≡ true → ⊥) → list_any p zs ≡ false
none_passes {X} p zs never = list_any_none p zs (λ k d below. false_from_ne_true (p (get_or zs k d)) (never k d below))

-- names are of bytes
lower_is_byte : (c : ℕ) → is_lower c ≡ true → c < 256
lower_is_byte c h = omega (arith, leb-true c 122 (and_parts (nat_le 97 c) (nat_le c 122) h).1)

word_is_byte : (c : ℕ) → is_word c ≡ true → c < 256
word_is_byte c h = elim (or_cases (is_lower c || is_upper c || is_digit c) (c == 95) h) [
  | inl more ↦ elim (or_cases (is_lower c || is_upper c) (is_digit c) more) [
    | inl letter ↦ elim (or_cases (is_lower c) (is_upper c) letter) [
      | inl lower ↦ lower_is_byte c lower
      | inr upper ↦ omega (arith, leb-true c 90 (and_parts (nat_le 65 c) (nat_le c 90) upper).1)
    ]
    | inr digit ↦ omega (arith, leb-true c 57 (and_parts (nat_le 48 c) (nat_le c 57) digit).1)
  ]
  | inr line ↦ omega (arith, eqb-true c 95 line)
]

words_are_bytes : (cs : List ℕ) → are_words cs ≡ true → AreBytes cs
words_are_bytes [] h = tt
words_are_bytes (c ∷ cs) h = let both = and_parts (is_word c) (are_words cs) h in (word_is_byte c both.0, words_are_bytes cs both.1)

pub name_fits : (name : List ℕ) → is_name name ≡ true → (length name < 256) × AreBytes name
name_fits [] h = absurd (false≢true h)
name_fits (c ∷ cs) h =
    let both = and_parts (is_lower c && are_words cs) (nat_le (length cs) 254) h in
    let front = and_parts (is_lower c) (are_words cs) both.0 in
    (omega (arith, leb-true (length cs) 254 both.1), (lower_is_byte c front.0, words_are_bytes cs front.1))

-- modules
pub record AreModules (ms : List (List ℕ)) : Type 0 where
  pub names : All (λ m. IsTrue (is_name m)) ms
  pub differ : AllPairs (λ m n. m ≢ n) ms

module_step : (finished : Bool) (zs : List (List ℕ)) (x : List ℕ) → AreModules zs → IsFineModule (rows zs [] [] [] [] finished) x → AreModules (zs ++ x ∷ [])
module_step finished zs x v fine =
    let both = and_parts (is_name x) (not (list_any (bytes_eq x) zs)) fine.is_new in
    let fresh = not-true (list_any (bytes_eq x) zs) both.1 in
    record {
      names = All-push (λ m. IsTrue (is_name m)) zs x v.names both.0;
      differ = all_pairs_push (λ m n. m ≢ n) zs x v.differ (λ k d below same. both_ways (list_any (bytes_eq x) zs) fresh (list_any_at (bytes_eq x) zs k d below ((bytes_eq-Decides x (get_or zs k d)).1 (sym same))));
    }

module_part : (finished : Bool) (zs ys : List (List ℕ)) (x : List ℕ) → AreModules (zs ++ x ∷ ys) → IsFineModule (rows zs [] [] [] [] finished) x
module_part finished zs ys x v =
    let named = all_at (λ m. IsTrue (is_name m)) zs ys x v.names in
    let fresh = none_passes (bytes_eq x) zs (λ k d below same. pair_at (λ m n. m ≢ n) zs ys x v.differ k d below (sym ((bytes_eq-Decides x (get_or zs k d)).0 same))) in
    let fits = name_fits x named in
    record { is_new = and_from (is_name x) (not (list_any (bytes_eq x) zs)) named (not_from_false (list_any (bytes_eq x) zs) fresh); short = fits.0; are = fits.1 }

pub modules_valid : (finished : Bool) (ms : List (List ℕ)) → AllFine with_module IsFineModule (rows [] [] [] [] [] finished) ms → AreModules ms
modules_valid finished ms fine =
    grow with_module IsFineModule (λ zs. rows zs [] [] [] [] finished) (λ zs x. refl) AreModules (module_step finished) [] ms
    (record { names = All-nil (λ m. IsTrue (is_name m)); differ = no_pairs (λ m n. m ≢ n) }) fine

pub modules_fine : (finished : Bool) (ms : List (List ℕ)) → AreModules ms → AllFine with_module IsFineModule (rows [] [] [] [] [] finished) ms
modules_fine finished ms v = shrink with_module IsFineModule (λ zs. rows zs [] [] [] [] finished) (λ zs x. refl) AreModules (module_part finished) [] ms v

-- procedures
pub record AreProcs (modules : ℕ) (ps : List Proc) : Type 0 where
  pub names : All (λ p. IsTrue (is_name p.name)) ps
  pub differ : AllPairs (λ p q. p.module ≡ q.module → p.name ≢ q.name) ps
  pub there : All (λ p. p.module < modules) ps
  pub arities : All (λ p. p.arity < 256) ps

same_proc : (x z : Proc) → z.module ≡ x.module → z.name ≡ x.name → is_proc x.module x.name z ≡ true
same_proc x z modules names =
    and_from (x.module == z.module) (bytes_eq x.name z.name) (eq-eqb x.module z.module (sym modules)) ((bytes_eq-Decides x.name z.name).1 (sym names))

proc_step : (m : List (List ℕ)) (finished : Bool) (zs : List Proc) (x : Proc) → AreProcs (length m) zs → IsFineProc (rows m zs [] [] [] finished) x → AreProcs (length m) (zs ++ x ∷ [])
proc_step m finished zs x v fine =
    let test = is_proc x.module x.name in
    let both = and_parts (is_name x.name) (not (list_any test zs)) fine.is_new in
    let fresh = not-true (list_any test zs) both.1 in
    record {
      names = All-push (λ (p : Proc). IsTrue (is_name p.name)) zs x v.names both.0;
      differ = all_pairs_push (λ (p q : Proc). p.module ≡ q.module → p.name ≢ q.name) zs x v.differ
          (λ k d below modules names. both_ways (list_any test zs) fresh (list_any_at test zs k d below (same_proc x (get_or zs k d) modules names)));
      there = All-push (λ (p : Proc). p.module < length m) zs x v.there (ltb-true x.module (length m) fine.is_there);
      arities = All-push (λ (p : Proc). p.arity < 256) zs x v.arities fine.arity;
    }

proc_part : (m : List (List ℕ)) (finished : Bool) → length m < 2 ^ 32 → (zs ys : List Proc) (x : Proc) → AreProcs (length m) (zs ++ x ∷ ys) → IsFineProc (rows m zs [] [] [] finished) x
proc_part m finished few zs ys x v =
    let test = is_proc x.module x.name in
    let named = all_at (λ (p : Proc). IsTrue (is_name p.name)) zs ys x v.names in
    let there : x.module < length m = all_at (λ (p : Proc). p.module < length m) zs ys x v.there in
    let fresh = none_passes test zs (λ k d below same.
    let parts = and_parts (x.module == (get_or zs k d).module) (bytes_eq x.name (get_or zs k d).name) same in
    pair_at (λ (p q : Proc). p.module ≡ q.module → p.name ≢ q.name) zs ys x v.differ k d below (sym (eqb-true x.module (get_or zs k d).module parts.0)) (sym ((bytes_eq-Decides x.name (get_or zs k d).name).0 parts.1))) in
    let fits = name_fits x.name named in
    record {
      fits = omega (arith, there, few);
      is_there = lt-ltb x.module (length m) there;
      is_new = and_from (is_name x.name) (not (list_any test zs)) named (not_from_false (list_any test zs) fresh);
      short = fits.0;
      are = fits.1;
      arity = all_at (λ (p : Proc). p.arity < 256) zs ys x v.arities;
    }

pub procs_valid : (m : List (List ℕ)) (finished : Bool) (ps : List Proc) → AllFine with_proc IsFineProc (rows m [] [] [] [] finished) ps → AreProcs (length m) ps
procs_valid m finished ps fine =
    grow with_proc IsFineProc (λ zs. rows m zs [] [] [] finished) (λ zs x. refl) (AreProcs (length m)) (proc_step m finished) [] ps
    (record {
      names = All-nil (λ (p : Proc). IsTrue (is_name p.name));
      differ = no_pairs (λ (p q : Proc). p.module ≡ q.module → p.name ≢ q.name);
      there = All-nil (λ (p : Proc). p.module < length m);
      arities = All-nil (λ (p : Proc). p.arity < 256);
    }) fine

pub procs_fine : (m : List (List ℕ)) (finished : Bool) (ps : List Proc) → length m < 2 ^ 32 → AreProcs (length m) ps → AllFine with_proc IsFineProc (rows m [] [] [] [] finished) ps
procs_fine m finished ps few v = shrink with_proc IsFineProc (λ zs. rows m zs [] [] [] finished) (λ zs x. refl) (AreProcs (length m)) (proc_part m finished few) [] ps v

-- call sites
pub record AreSites (procs : ℕ) (xs : List Site) : Type 0 where
  pub owners : All (λ x. x.owner < procs) xs
  pub callees : All (λ x. IfSome (callee_of x.kind) (λ q. q < procs)) xs
  pub lines : All (λ x. 1 ≤ x.line) xs
  pub short : All (λ x. x.line < 2 ^ 32) xs
  pub rise : OwnersRiseFrom 0 xs

last_from : ℕ → List Site → ℕ
last_from n [] = n
last_from n (z ∷ zs) = last_from z.owner zs

last_of : (z : Site) (zs : List Site) → owner_or_zero (slice_get (z ∷ zs) (length zs)) ≡ last_from z.owner zs
unfolding last_from
last_of z [] = refl
last_of z (y ∷ ys) = last_of y ys

last_is : (zs : List Site) → last_owner zs ≡ last_from 0 zs
unfolding last_from
last_is [] = refl
last_is (z ∷ zs) = let less : suc (length zs) - 1 ≡ length zs = omega arith in ap (λ (k : ℕ). owner_or_zero (slice_get (z ∷ zs) k)) less ∙ last_of z zs

rise_push : (n : ℕ) (zs : List Site) (x : Site) → OwnersRiseFrom n zs → last_from n zs ≤ x.owner → OwnersRiseFrom n (zs ++ x ∷ [])
unfolding last_from
rise_push n [] x rise le = (le, tt)
rise_push n (z ∷ zs) x rise le = (rise.0, rise_push z.owner zs x rise.1 le)

rise_part : (n : ℕ) (zs ys : List Site) (x : Site) → OwnersRiseFrom n (zs ++ x ∷ ys) → last_from n zs ≤ x.owner
unfolding last_from
rise_part n [] ys x rise = rise.0
rise_part n (z ∷ zs) ys x rise = rise_part z.owner zs ys x rise.1

plain_below : (n c : ℕ) (b : Bool) → (b || nat_lt c n) ≡ true → cond b HigherOrder (Plain c) ≡ Plain c → c < n
plain_below n c true test kind = absurd (cc kind)
plain_below n c false test kind = ltb-true c n test

callee_below : (n : ℕ) (f : ProfileRows) (kind : SiteKind) → length f.statics.procs ≡ n → is_callee f (or_none (callee_of kind)) ≡ true → kind_of (or_none (callee_of kind)) ≡ kind → IfSome (callee_of kind) (λ q. q < n)
callee_below n f (Plain c) is test same = subst (λ (k : ℕ). c < k) is (plain_below (length f.statics.procs) c (c == none) test same)
callee_below n f HigherOrder is test same = tt

record CalleeFits (f : ProfileRows) (kind : SiteKind) : Type 0 where
  pub fits : or_none (callee_of kind) < 2 ^ 32
  pub test : is_callee f (or_none (callee_of kind)) ≡ true
  pub same : kind_of (or_none (callee_of kind)) ≡ kind

callee_fits : (f : ProfileRows) (kind : SiteKind) → length f.statics.procs < 2 ^ 32 → IfSome (callee_of kind) (λ q. q < length f.statics.procs) → CalleeFits f kind
callee_fits f (Plain c) few below =
    let other : (c == none) ≡ false = ne_eqb c none (λ same. absurd (omega (arith, below, few, same))) in
    record {
      fits = omega (arith, below, few);
      test = or_right (c == none) (nat_lt c (length f.statics.procs)) (lt-ltb c (length f.statics.procs) below);
      same = cond-false (c == none) HigherOrder (Plain c) other;
    }
callee_fits f HigherOrder few below = record { fits = omega arith; test = refl; same = refl }

site_step : (m : List (List ℕ)) (p : List Proc) (finished : Bool) (zs : List Site) (x : Site) → AreSites (length p) zs → IsFineSite (rows m p zs [] [] finished) x → AreSites (length p) (zs ++ x ∷ [])
site_step m p finished zs x v fine =
    let owner = and_parts (nat_lt x.owner (length p)) (nat_le (last_owner zs) x.owner) fine.owner in
    let le : last_from 0 zs ≤ x.owner = subst (λ (k : ℕ). k ≤ x.owner) (last_is zs) (leb-true (last_owner zs) x.owner owner.1) in
    record {
      owners = All-push (λ (y : Site). y.owner < length p) zs x v.owners (ltb-true x.owner (length p) owner.0);
      callees = All-push (λ (y : Site). IfSome (callee_of y.kind) (λ q. q < length p)) zs x v.callees (callee_below (length p) (rows m p zs [] [] finished) x.kind refl fine.callee fine.kind);
      lines = All-push (λ (y : Site). 1 ≤ y.line) zs x v.lines (leb-true 1 x.line fine.line);
      short = All-push (λ (y : Site). y.line < 2 ^ 32) zs x v.short fine.line_fits;
      rise = rise_push 0 zs x v.rise le;
    }

site_part : (m : List (List ℕ)) (p : List Proc) (finished : Bool) → length p < 2 ^ 32 → (zs ys : List Site) (x : Site) → AreSites (length p) (zs ++ x ∷ ys) → IsFineSite (rows m p zs [] [] finished) x
site_part m p finished few zs ys x v =
    let below : x.owner < length p = all_at (λ (y : Site). y.owner < length p) zs ys x v.owners in
    let callee = callee_fits (rows m p zs [] [] finished) x.kind few (all_at (λ (y : Site). IfSome (callee_of y.kind) (λ q. q < length p)) zs ys x v.callees) in
    let le : last_owner zs ≤ x.owner = subst (λ (k : ℕ). k ≤ x.owner) (sym (last_is zs)) (rise_part 0 zs ys x v.rise) in
    record {
      owner_fits = omega (arith, below, few);
      owner = and_from (nat_lt x.owner (length p)) (nat_le (last_owner zs) x.owner) (lt-ltb x.owner (length p) below) (le-leb (last_owner zs) x.owner le);
      line_fits = all_at (λ (y : Site). y.line < 2 ^ 32) zs ys x v.short;
      line = le-leb 1 x.line (all_at (λ (y : Site). 1 ≤ y.line) zs ys x v.lines);
      callee_fits = callee.fits;
      callee = callee.test;
      kind = callee.same;
    }

pub sites_valid : (m : List (List ℕ)) (p : List Proc) (finished : Bool) (xs : List Site) → AllFine with_site IsFineSite (rows m p [] [] [] finished) xs → AreSites (length p) xs
sites_valid m p finished xs fine =
    grow with_site IsFineSite (λ zs. rows m p zs [] [] finished) (λ zs x. refl) (AreSites (length p)) (site_step m p finished) [] xs
    (record {
      owners = All-nil (λ (y : Site). y.owner < length p);
      callees = All-nil (λ (y : Site). IfSome (callee_of y.kind) (λ q. q < length p));
      lines = All-nil (λ (y : Site). 1 ≤ y.line);
      short = All-nil (λ (y : Site). y.line < 2 ^ 32);
      rise = tt;
    }) fine

pub sites_fine : (m : List (List ℕ)) (p : List Proc) (finished : Bool) (xs : List Site) → length p < 2 ^ 32 → AreSites (length p) xs → AllFine with_site IsFineSite (rows m p [] [] [] finished) xs
sites_fine m p finished xs few v = shrink with_site IsFineSite (λ zs. rows m p zs [] [] finished) (λ zs x. refl) (AreSites (length p)) (site_part m p finished few) [] xs v

-- contexts
pub contexts_valid : (m : List (List ℕ)) (p : List Proc) (x : List Site) (finished : Bool) (vs : List ℕ) → AllFine with_context IsFineContext (rows m p x [] [] finished) vs → All (λ q. q < length p) vs
contexts_valid m p x finished vs fine =
    grow with_context IsFineContext (λ zs. rows m p x zs [] finished) (λ zs v. refl) (All (λ q. q < length p))
    (λ zs v all one. All-push (λ q. q < length p) zs v all (ltb-true v (length p) one.is_there)) [] vs (All-nil (λ q. q < length p)) fine

pub contexts_fine : (m : List (List ℕ)) (p : List Proc) (x : List Site) (finished : Bool) (vs : List ℕ) → length p < 2 ^ 32 → All (λ q. q < length p) vs → AllFine with_context IsFineContext (rows m p x [] [] finished) vs
contexts_fine m p x finished vs few all =
    shrink with_context IsFineContext (λ zs. rows m p x zs [] finished) (λ zs v. refl) (All (λ q. q < length p))
    (λ zs ys v within. let below : v < length p = all_at (λ q. q < length p) zs ys v within in record { fits = omega (arith, below, few); is_there = lt-ltb v (length p) below }) [] vs all
