-- The tables of a program are sound.
use Rattle.std.proofs.Common.{◌≡◌, ◌≢◌, refl, sym, ap, ◌∙◌, subst, arith, ℕ, suc, ◌+◌, ◌≤◌, ◌<◌, Bool, true, false, cond, not, ◌||◌, nat_lt, List, [], ◌∷◌, ◌++◌, length, map, Option, Some, None, IfSome, All, AllPairs, get_or}
use Rattle.std.specs.Prelude.{unwrap_or, IsTrue}
use Rattle.std.specs.List.{list_any, flat_map, position_or_len}
use Rattle.std.specs.Str.{bytes_eq}
use Rattle.std.proofs.lemmas.Bool.{false≢true}
use Rattle.std.proofs.lemmas.List.{length-map, get_or-map}
use Rattle.std.proofs.lemmas.List.Elements.{All-nil, All-append, All-map, All-filter, All-cons}
use Rattle.std.proofs.lemmas.List.Kept.{AllPairs-filter, AllPairs-cons}
use Rattle.md_hlds.specs.HldsGoal.{HldsGoal, At, SimpleGoal, CallGoal, HoCallGoal, ConjGoal, DisjGoal, IfGoal, NotGoal, SomeGoal, goals_within}
use Rattle.md_hlds.specs.Hlds.{Procedure, Hlds, find_procedure, is_called, sites_of}
use Rattle.md_hlds.specs.declared.goal.PredName.{PredName}
use Rattle.md_static.specs.declared.entry.Site.{Site}
use Rattle.md_static.specs.Tables.{callee_of}
use Rattle.md_static.specs.Names.{is_name}
use Rattle.md_static.specs.Sites.{OwnersRiseFrom}
use Rattle.md_static.specs.Sound.{IsSound}
use Rattle.md_ports.specs.Modules.{without, each_once, module_of, modules_of, number_of}
use Rattle.md_ports.specs.Ports.{proc_of, kind_found, site_of, goal_sites, sites_from, statics_of, owner_and_line}
use Rattle.md_ports.specs.Orderly.{IsOrderly}
use Rattle.md_ports.proofs.Bytes.{bytes_same}
use Rattle.md_ports.proofs.Once.{length_once}
use Rattle.md_ports.proofs.Numbers.{IsAmong, among_at, among_once, one_number, one_qualifier}
use Rattle.md_static.proofs.Keys.{pairs_over}
use Rattle.md_ports.proofs.SiteTables.{lines_kept}

-- ---- modules

-- what holds of each name holds of each once
once_all_of : (P : List ℕ → Type 0) (ms : List (List ℕ)) → All P ms → All P (each_once ms)
once_all_of P [] h = All-nil P
once_all_of P (m ∷ ms) h =
    All-cons P m (without m (each_once ms)) (h 0 m (omega arith))
    (All-filter (λ n. not (bytes_eq m n)) P (each_once ms) (once_all_of P ms (λ k d lt. h (suc k) d (omega (arith, lt)))))

-- each name that is left differs from the one left out
others : (m : List ℕ) (ns : List (List ℕ)) → All (λ n. m ≢ n) (without m ns)
others m [] = All-nil (λ n. m ≢ n)
others m (n ∷ ns) = here (bytes_eq m n) refl (others m ns)
  where
    here : (b : Bool) → bytes_eq m n ≡ b → All (λ k. m ≢ k) (without m ns) → All (λ k. m ≢ k) (without m (n ∷ ns))
    here true is rest = rw is rest
    here false is rest =
        rw is
        (All-cons (λ k. m ≢ k) n (without m ns)
        (λ e. false≢true (sym is ∙ subst (λ (k : List ℕ). bytes_eq m k ≡ true) e (bytes_same m)))
        rest)

once_differ : (ms : List (List ℕ)) → AllPairs (λ m n. m ≢ n) (each_once ms)
once_differ [] = λ i j d lt within. absurd (omega (arith, within))
once_differ (m ∷ ms) =
    AllPairs-cons (λ a b. a ≢ b) m (without m (each_once ms)) (others m (each_once ms))
    (AllPairs-filter (λ a b. a ≢ b) (λ n. not (bytes_eq m n)) (each_once ms) (once_differ ms))

found_within : (b : Bool) (m n : ℕ) → nat_lt m n ≡ b → 0 < n → unwrap_or (cond b (Some m) None) 0 < n
found_within true m n is some = grind arith
found_within false m n is some = some

-- a number is that of a module
number_within : (ms : List (List ℕ)) (m : List ℕ) → 0 < length ms → number_of ms m < length ms
number_within ms m some = found_within (nat_lt (position_or_len (bytes_eq m) ms) (length ms)) (position_or_len (bytes_eq m) ms) (length ms) refl some

-- ---- procedures

module_named : (s : Hlds) (o : Option (List ℕ)) → IsTrue (is_name s.module_name) → IfSome o (λ m. IsTrue (is_name m)) → IsTrue (is_name (unwrap_or o s.module_name))
module_named s None home other = home
module_named s (Some m) home other = other

-- ---- call sites

-- the sites of a goal belong to its procedure
abbrev AreOf : ℕ → List Site → Type 0
AreOf o xs = All (λ x. x.owner ≡ o) xs

one_of : (s : Hlds) (o : ℕ) (g : HldsGoal) → AreOf o (site_of s o g)
one_of s o (At l (SimpleGoal t)) = All-nil (λ x. x.owner ≡ o)
one_of s o (At l (CallGoal site q ys)) = All-cons (λ x. x.owner ≡ o) _ [] refl (All-nil (λ x. x.owner ≡ o))
one_of s o (At l (HoCallGoal site f ys)) = All-cons (λ x. x.owner ≡ o) _ [] refl (All-nil (λ x. x.owner ≡ o))
one_of s o (At l (ConjGoal ps)) = All-nil (λ x. x.owner ≡ o)
one_of s o (At l (DisjGoal ps)) = All-nil (λ x. x.owner ≡ o)
one_of s o (At l (IfGoal c t e)) = All-nil (λ x. x.owner ≡ o)
one_of s o (At l (NotGoal c)) = All-nil (λ x. x.owner ≡ o)
one_of s o (At l (SomeGoal vs c)) = All-nil (λ x. x.owner ≡ o)

among_of : (s : Hlds) (o : ℕ) (gs : List HldsGoal) → AreOf o (flat_map (site_of s o) gs)
among_of s o [] = All-nil (λ x. x.owner ≡ o)
among_of s o (g ∷ gs) = All-append (λ x. x.owner ≡ o) (site_of s o g) (flat_map (site_of s o) gs) (one_of s o g) (among_of s o gs)

owners_within : (s : Hlds) (n most : ℕ) (ps : List Procedure) → n + length ps ≤ most → All (λ x. x.owner < most) (sites_from s n ps)
owners_within s n most [] le = All-nil (λ x. x.owner < most)
owners_within s n most (p ∷ ps) le =
    All-append (λ x. x.owner < most) (goal_sites s n p.body) (sites_from s (suc n) ps)
    (λ k d lt. let owner = among_of s n (goals_within p.body) k d lt in omega (arith, owner, le))
    (owners_within s (suc n) most ps (omega (arith, le)))

rises : (m n : ℕ) (xs : List Site) → m ≤ n → OwnersRiseFrom n xs → OwnersRiseFrom m xs
rises m n [] le rise = tt
rises m n (x ∷ xs) le rise = (omega (arith, rise.0), rise.1)

rise_then : (m n : ℕ) (xs ys : List Site) → m ≤ n → AreOf n xs → OwnersRiseFrom n ys → OwnersRiseFrom m (xs ++ ys)
rise_then m n [] ys le own rise = rises m n ys le rise
rise_then m n (x ∷ xs) ys le own rise =
    let owner : x.owner ≡ n = own 0 x (omega arith) in (
      omega (arith, owner),
      rise_then x.owner n xs ys (omega (arith, owner)) (λ k d lt. own (suc k) d (omega (arith, lt))) rise,
    )

owners_rise : (s : Hlds) (n : ℕ) (ps : List Procedure) → OwnersRiseFrom n (sites_from s n ps)
owners_rise s n [] = tt
owners_rise s n (p ∷ ps) =
    rise_then n n (goal_sites s n p.body) (sites_from s (suc n) ps) (omega arith) (among_of s n (goals_within p.body))
    (rises n (suc n) (sites_from s (suc n) ps) (omega arith) (owners_rise s (suc n) ps))

-- a procedure that is found is there
abbrev IsThere : ℕ → Option (ℕ × Procedure) → Type 0
IsThere most o = IfSome (callee_of (kind_found o)) (λ q. q < most)

found_there : (q : PredName) (n most : ℕ) (ps : List Procedure) → n + length ps ≤ most → IsThere most (find_procedure q n ps)
found_there q n most [] le = tt
found_there q n most (p ∷ ps) le = here (is_called q p) (found_there q (suc n) most ps (omega (arith, le)))
  where
    here : (b : Bool) → IsThere most (find_procedure q (suc n) ps) → IsThere most (cond b (Some (n, p)) (find_procedure q (suc n) ps))
    here true rest = omega (arith, le)
    here false rest = rest

abbrev Callee : ℕ → Site → Type 0
Callee most x = IfSome (callee_of x.kind) (λ q. q < most)

one_called : (s : Hlds) (o : ℕ) (g : HldsGoal) → All (Callee (length s.procedures)) (site_of s o g)
one_called s o (At l (SimpleGoal t)) = All-nil (Callee (length s.procedures))
one_called s o (At l (CallGoal site q ys)) =
    All-cons (Callee (length s.procedures)) _ [] (found_there q 0 (length s.procedures) s.procedures (omega arith)) (All-nil (Callee (length s.procedures)))
one_called s o (At l (HoCallGoal site f ys)) = All-cons (Callee (length s.procedures)) _ [] tt (All-nil (Callee (length s.procedures)))
one_called s o (At l (ConjGoal ps)) = All-nil (Callee (length s.procedures))
one_called s o (At l (DisjGoal ps)) = All-nil (Callee (length s.procedures))
one_called s o (At l (IfGoal c t e)) = All-nil (Callee (length s.procedures))
one_called s o (At l (NotGoal c)) = All-nil (Callee (length s.procedures))
one_called s o (At l (SomeGoal vs c)) = All-nil (Callee (length s.procedures))

among_called : (s : Hlds) (o : ℕ) (gs : List HldsGoal) → All (Callee (length s.procedures)) (flat_map (site_of s o) gs)
among_called s o [] = All-nil (Callee (length s.procedures))
among_called s o (g ∷ gs) = All-append (Callee (length s.procedures)) (site_of s o g) (flat_map (site_of s o) gs) (one_called s o g) (among_called s o gs)

callees_there : (s : Hlds) (n : ℕ) (ps : List Procedure) → All (Callee (length s.procedures)) (sites_from s n ps)
callees_there s n [] = All-nil (Callee (length s.procedures))
callees_there s n (p ∷ ps) =
    All-append (Callee (length s.procedures)) (goal_sites s n p.body) (sites_from s (suc n) ps) (among_called s n (goals_within p.body)) (callees_there s (suc n) ps)

-- ---- procedures differ

later_among : (x h : List ℕ) (ms : List (List ℕ)) → IsAmong x ms → IsAmong x (h ∷ ms)
later_among x h ms is = there (bytes_eq x h) (list_any (bytes_eq x) ms) is
  where
    there : (a b : Bool) → b ≡ true → (a || b) ≡ true
    there true b is = refl
    there false b is = is

is_module : (s : Hlds) (i : ℕ) (d : Procedure) → i < length s.procedures → IsAmong (module_of s (get_or s.procedures i d)) (modules_of s)
is_module s i d lt =
    among_once (module_of s (get_or s.procedures i d)) (s.module_name ∷ map (module_of s) s.procedures)
    (later_among (module_of s (get_or s.procedures i d)) s.module_name (map (module_of s) s.procedures) (among_at (module_of s) s.procedures i d lt))

procs_differ : (s : Hlds) → IsOrderly s → AllPairs (λ p q. p.«module» ≡ q.«module» → p.name ≢ q.name) (map (proc_of s) s.procedures)
procs_differ s h = pairs_over (proc_of s) (λ p q. p.«module» ≡ q.«module» → p.name ≢ q.name) s.procedures
    (λ i j d lt within modules. h.predicates_differ i j d lt within
    (one_qualifier s.module_name (get_or s.procedures i d).qualifier (get_or s.procedures j d).qualifier
    (h.qualifiers_are_others i d (omega arith)) (h.qualifiers_are_others j d within)
    (one_number _ _ (modules_of s) (is_module s i d (omega arith)) (is_module s j d within) modules)))

-- ---- lines

all_of_map : {A B : Type 0} (f : A → B) (P : B → Type 0) (xs : List A) → All P (map f xs) → All (λ x. P (f x)) xs
all_of_map f P xs h k d lt = subst P (get_or-map f xs k d (f d) lt) (h k (f d) (omega (arith, length-map xs f, lt)))

pub sites_lined : (P : ℕ → Type 0) (s : Hlds) → All (λ x. P x.1) (sites_of s) → All (λ x. P x.line) (statics_of s).sites
sites_lined P s h = all_of_map owner_and_line (λ x. P x.1) (statics_of s).sites (subst (λ (xs : List (ℕ × ℕ)). All (λ x. P x.1) xs) (sym (lines_kept s)) h)

length_sites : (s : Hlds) → length (statics_of s).sites ≡ length (sites_of s)
length_sites s = sym (length-map (statics_of s).sites owner_and_line) ∙ ap length (lines_kept s)

-- ---- the tables

modules_few : (s : Hlds) → length (modules_of s) ≤ suc (length s.procedures)
modules_few s = omega (arith, length_once (s.module_name ∷ map (module_of s) s.procedures), length-map s.procedures (module_of s))

modules_named : (s : Hlds) → IsOrderly s → All (λ m. IsTrue (is_name m)) (modules_of s)
modules_named s h = once_all_of (λ m. IsTrue (is_name m)) (s.module_name ∷ map (module_of s) s.procedures)
    (All-cons (λ m. IsTrue (is_name m)) s.module_name (map (module_of s) s.procedures) h.module_is_name
    (All-map (λ m. IsTrue (is_name m)) (module_of s) s.procedures
    (λ k d lt. module_named s (get_or s.procedures k d).qualifier h.module_is_name (h.qualifiers_are_names k d lt))))

length_procs : (s : Hlds) → length (statics_of s).procs ≡ length s.procedures
length_procs s = length-map s.procedures (proc_of s)

pub tables_sound : (s : Hlds) → IsOrderly s → IsSound (statics_of s)
tables_sound s h = record {
  some_modules = omega arith;
  few_modules = omega (arith, modules_few s, h.few_predicates);
  some_procs = omega (arith, length_procs s, h.some_predicates);
  few_procs = omega (arith, length_procs s, h.few_predicates);
  few_sites = omega (arith, length_sites s, h.few_sites);
  modules_are_names = modules_named s h;
  modules_differ = once_differ (s.module_name ∷ map (module_of s) s.procedures);
  procs_have_names = All-map (λ p. IsTrue (is_name p.name)) (proc_of s) s.procedures h.names_are_names;
  procs_differ = procs_differ s h;
  modules_there = All-map (λ p. p.«module» < length (modules_of s)) (proc_of s) s.procedures
      (λ k d lt. number_within (modules_of s) (module_of s (get_or s.procedures k d)) (omega arith));
  owners_there = owners_within s 0 (length (statics_of s).procs) s.procedures (omega (arith, length_procs s));
  callees_there = subst (λ (n : ℕ). All (Callee n) (statics_of s).sites) (sym (length_procs s)) (callees_there s 0 s.procedures);
  lines_from_one = sites_lined (λ line. 1 ≤ line) s h.lines_from_one;
  owners_rise = owners_rise s 0 s.procedures;
}
