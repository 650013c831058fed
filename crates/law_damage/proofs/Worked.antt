-- The first damage of small files, by rows that are given.
use Rattle.std.proofs.Common.{◌≡◌, ℕ, ◌+◌, ◌-◌, ◌<◌, ◌≤◌, Bool, true, false, ◌&&◌, ◌==◌, nat_lt, List, [], ◌∷◌, ◌++◌, length, take, drop, inl, inr, refl, sym, ◌∙◌, append-nil, arith}
use Rattle.std.specs.List.{list_all, list_any, AllByRecursion}
use Rattle.std.proofs.lemmas.Bool.{and_parts, eqb-true, ltb-true, false≢true}
use Rattle.std.proofs.lemmas.List.Elements.{All-from_recursion}
use Rattle.md_static.specs.declared.entry.Proc.{Proc}
use Rattle.md_deepfile.specs.Bytes.{u32, none, magic}
use Rattle.md_deepfile.specs.declared.damage.Kind.TheVariants as kinds
use Rattle.md_deepfile.proofs.Accepts.{AreBytes}
use Rattle.law_damage.specs.Rows.{SiteNumbers, LinkNumbers, FileRows, counts_in}
use Rattle.law_damage.specs.Fields.{Value, Byte, Number, Name, Nothing, HasRoom, Field, MagicByte, Version, Finished, Count, ModuleName, LinkCallee, LinkCount, LinkFits, LinkIsNew, value, written, laid, Keeps, kind_of, back, fields, before_context}
use Rattle.law_damage.specs.Damage.{CanBeWritten, Begins, IsFirstDamage}
use Rattle.law_damage.proofs.Tests.{fine, fine_keeps, keeps_fine}
use Rattle.law_damage.proofs.Along.{AreRoomy, AreKept}
use Rattle.law_damage.proofs.Orphans.{reaches, is_reached}
use Rattle.law_damage.proofs.Places.{place_within}

-- ---- what has to be shown of the rows, by tests

has_room : Value → Bool
has_room (Byte b) = nat_lt b 256
has_room (Number n) = nat_lt n 4294967296
has_room (Name name) = nat_lt (length name) 256 && list_all (λ b. nat_lt b 256) name
has_room Nothing = true

are_bytes : (bs : List ℕ) → list_all (λ b. nat_lt b 256) bs ≡ true → AreBytes bs
are_bytes [] h = tt
are_bytes (b ∷ bs) h = let both = and_parts (nat_lt b 256) (list_all (λ b. nat_lt b 256) bs) h in (ltb-true b 256 both.0, are_bytes bs both.1)

room_there : (v : Value) → has_room v ≡ true → HasRoom v
unfolding has_room
room_there (Byte b) h = ltb-true b 256 h
room_there (Number n) h = ltb-true n 4294967296 h
room_there (Name name) h =
    let both = and_parts (nat_lt (length name) 256) (list_all (λ b. nat_lt b 256) name) h in
    (ltb-true (length name) 256 both.0, All-from_recursion (λ (b : ℕ). b < 256) name (are_bytes name both.1))
room_there Nothing h = tt

each_room : (xs : List Field) → list_all (λ x. has_room (value x)) xs ≡ true → AreRoomy xs
each_room [] h = tt
each_room (x ∷ xs) h = let both = and_parts (has_room (value x)) (list_all (λ x. has_room (value x)) xs) h in (room_there (value x) both.0, each_room xs both.1)

each_fine : (xs : List Field) → list_all fine xs ≡ true → AreKept xs
each_fine [] h = tt
each_fine (x ∷ xs) h = let both = and_parts (fine x) (list_all fine xs) h in (fine_keeps x both.0, each_fine xs both.1)

each_wide : (k : ℕ) (ls : List LinkNumbers) → list_all (λ l. length l.own == k) ls ≡ true → AllByRecursion (λ l. length l.own ≡ k) ls
each_wide k [] h = tt
each_wide k (l ∷ ls) h = let both = and_parts (length l.own == k) (list_all (λ l. length l.own == k) ls) h in (eqb-true (length l.own) k both.0, each_wide k ls both.1)

is_writable : FileRows → Bool
is_writable t = (length t.magic == 7) && (list_all (λ l. length l.own == counts_in t.version) t.links && list_all (λ x. has_room (value x)) (fields t))

writable : (t : FileRows) → is_writable t ≡ true → CanBeWritten t
unfolding is_writable
writable t h =
    let one = and_parts (length t.magic == 7) (list_all (λ l. length l.own == counts_in t.version) t.links && list_all (λ x. has_room (value x)) (fields t)) h in
    let two = and_parts (list_all (λ l. length l.own == counts_in t.version) t.links) (list_all (λ x. has_room (value x)) (fields t)) one.1 in
    record {
      magic = eqb-true (length t.magic) 7 one.0;
      counts = All-from_recursion (λ (l : LinkNumbers). length l.own ≡ counts_in t.version) t.links (each_wide (counts_in t.version) t.links two.0);
      room = All-from_recursion (λ (x : Field). HasRoom (value x)) (fields t) (each_room (fields t) two.1);
    }

begins : (bytes : List ℕ) (t : FileRows) (first others : List Field) (rest : List ℕ) → is_writable t ≡ true → fields t ≡ first ++ others → list_all fine first ≡ true → bytes ≡ laid first ++ rest → Begins bytes t first others rest
begins bytes t first others rest can are keep is = record { rows = writable t can; are = are; keep = All-from_recursion Keeps first (each_fine first keep); bytes_are = is }

-- the field behind the first n breaks its rule
breaks : (bytes : List ℕ) (t : FileRows) (n : ℕ) (x : Field) (rest : List ℕ) → is_writable t ≡ true → fields t ≡ take n (fields t) ++ x ∷ drop (n + 1) (fields t) → list_all fine (take n (fields t)) ≡ true → fine x ≡ false
    → bytes ≡ laid (take n (fields t)) ++ (written x ++ rest) → IsFirstDamage bytes (record { at = length (laid (take n (fields t))) - back x; kind = kind_of x })
breaks bytes t n x rest can are keep wrong is =
    let le : back x ≤ length (laid (take n (fields t))) = place_within t (take n (fields t)) (drop (n + 1) (fields t)) x are in
    let place : (length (laid (take n (fields t))) - back x) + back x ≡ length (laid (take n (fields t))) = omega (arith, le) in
    inl (record {
      t = t;
      first = take n (fields t);
      field = x;
      others = drop (n + 1) (fields t);
      rest = rest;
      begins = begins bytes t (take n (fields t)) (x ∷ drop (n + 1) (fields t)) (written x ++ rest) can are keep is;
      broken = λ keeps. false≢true (sym wrong ∙ keeps_fine x keeps);
      kind = refl;
      place = place;
    })

-- the bytes end within it
ends : (bytes : List ℕ) (t : FileRows) (n : ℕ) (x : Field) (part lacking : List ℕ) → is_writable t ≡ true → fields t ≡ take n (fields t) ++ x ∷ drop (n + 1) (fields t) → list_all fine (take n (fields t)) ≡ true
    → bytes ≡ laid (take n (fields t)) ++ part → written x ≡ part ++ lacking → nat_lt 0 (length lacking) ≡ true → IsFirstDamage bytes (record { at = length bytes; kind = kinds.Short })
ends bytes t n x part lacking can are keep is parts lacks =
    inr (inl (record {
      t = t;
      first = take n (fields t);
      field = x;
      others = drop (n + 1) (fields t);
      part = part;
      lacking = lacking;
      begins = begins bytes t (take n (fields t)) (x ∷ drop (n + 1) (fields t)) part can are keep is;
      parts = parts;
      lacks = ltb-true 0 (length lacking) lacks;
      kind = refl;
      place = refl;
    }))

-- a byte follows all fields
goes_on : (bytes : List ℕ) (t : FileRows) (b : ℕ) (rest : List ℕ) → is_writable t ≡ true → list_all fine (fields t) ≡ true → bytes ≡ laid (fields t) ++ b ∷ rest → IsFirstDamage bytes (record { at = length (laid (fields t)); kind = kinds.Trailing })
goes_on bytes t b rest can keep is =
    inr (inr (inl (record { t = t; byte = b; rest = rest; begins = begins bytes t (fields t) [] (b ∷ rest) can (sym (append-nil (fields t))) keep is; kind = refl; place = refl })))

-- context 1 isn't reached
orphan_one : (bytes : List ℕ) (t : FileRows) → is_writable t ≡ true → list_all fine (fields t) ≡ true → bytes ≡ laid (fields t) ++ [] → nat_lt 1 (length t.contexts) ≡ true → list_any (reaches 1) t.links ≡ false
    → IsFirstDamage bytes (record { at = length (laid (before_context t 1)); kind = kinds.Orphan })
orphan_one bytes t can keep is within none =
    inr (inr (inr (record {
      t = t;
      v = 1;
      begins = begins bytes t (fields t) [] [] can (sym (append-nil (fields t))) keep is;
      orphan = record {
        above = omega arith;
        within = ltb-true 1 (length t.contexts) within;
        alone = λ h. false≢true (sym none ∙ is_reached t 1 h);
        lower = λ u above below. absurd (omega (arith, above, below));
      };
      kind = refl;
      place = refl;
    })))

-- ---- two programs, in version 1

abbrev w : ℕ → List ℕ
w n = n ∷ 0 ∷ 0 ∷ 0 ∷ []

abbrev no_number : List ℕ
no_number = 255 ∷ 255 ∷ 255 ∷ 255 ∷ []

-- main/2, and count/1
abbrev main : Proc
main = record { «module» = 0; name = 109 ∷ 97 ∷ 105 ∷ 110 ∷ []; arity = 2 }

abbrev count : Proc
count = record { «module» = 0; name = 99 ∷ 111 ∷ 117 ∷ 110 ∷ 116 ∷ []; arity = 1 }

abbrev root : LinkNumbers
root = record { caller = none; site = none; callee = 0; own = 1 ∷ 1 ∷ 0 ∷ 0 ∷ 0 ∷ 0 ∷ [] }

abbrev link : ℕ → ℕ → ℕ → ℕ → LinkNumbers
link v s u n = record { caller = v; site = s; callee = u; own = n ∷ n ∷ 0 ∷ 0 ∷ 0 ∷ 0 ∷ [] }

-- a module t, whose main calls nothing; 81 bytes
abbrev one : FileRows
one = record { magic = magic; version = 49; finished = 1; modules = (116 ∷ []) ∷ []; procs = main ∷ []; sites = []; contexts = 0 ∷ []; links = root ∷ [] }

abbrev one_file : List ℕ
one_file = (77 ∷ 68 ∷ 80 ∷ 82 ∷ 79 ∷ 70 ∷ 48 ∷ 49 ∷ 1 ∷ []) ++ ((w 1 ++ 1 ∷ 116 ∷ []) ++ ((w 1 ++ (w 0 ++ 4 ∷ 109 ∷ 97 ∷ 105 ∷ 110 ∷ 2 ∷ [])) ++ (w 0 ++ ((w 1 ++ w 0)
    ++ (w 1 ++ (no_number ++ (no_number ++ (w 0 ++ (w 1 ++ (w 1 ++ (w 0 ++ (w 0 ++ (w 0 ++ w 0)))))))))))))

-- main calls count on line 3, and count calls itself on line 5; the links behind the root link are given
abbrev site : ℕ → ℕ → SiteNumbers
site owner line = record { owner = owner; line = line; callee = 1 }

abbrev counting : List LinkNumbers → FileRows
counting links = record { magic = magic; version = 49; finished = 1; modules = (116 ∷ []) ∷ []; procs = main ∷ count ∷ []; sites = site 0 3 ∷ site 1 5 ∷ []; contexts = 0 ∷ 1 ∷ []; links = root ∷ links }

abbrev link_file : ℕ → ℕ → ℕ → ℕ → List ℕ
link_file v s u n = w v ++ (w s ++ (w u ++ (w n ++ (w n ++ (w 0 ++ (w 0 ++ (w 0 ++ w 0)))))))

abbrev counting_file : ℕ → List ℕ → List ℕ
counting_file n links =
    (77 ∷ 68 ∷ 80 ∷ 82 ∷ 79 ∷ 70 ∷ 48 ∷ 49 ∷ 1 ∷ [])
    ++ ((w 1 ++ 1 ∷ 116 ∷ []) ++ ((w 2 ++ (w 0 ++ (4 ∷ 109 ∷ 97 ∷ 105 ∷ 110 ∷ 2 ∷ []) ++ (w 0 ++ 5 ∷ 99 ∷ 111 ∷ 117 ∷ 110 ∷ 116 ∷ 1 ∷ [])))
    ++ ((w 2 ++ (w 0 ++ (w 3 ++ (w 1 ++ (w 1 ++ (w 5 ++ w 1)))))) ++ ((w 2 ++ (w 0 ++ w 1)) ++ (w n ++ (no_number ++ (no_number ++ (w 0 ++ (w 1 ++ (w 1 ++ (w 0 ++ (w 0 ++ (w 0 ++ (w 0 ++ links))))))))))))))

-- ---- one of each kind

-- refuses a rule by which the magic has to be whole before a byte of it is looked at: that is `Short` at 2
wrong_before_its_end : IsFirstDamage (77 ∷ 0 ∷ []) (record { at = 1; kind = kinds.Magic })
unfolding is_writable has_room u32
wrong_before_its_end = breaks _ (record one { magic = 77 ∷ 0 ∷ 80 ∷ 82 ∷ 79 ∷ 70 ∷ 48 ∷ [] }) 1 (MagicByte 68 0) [] refl refl refl refl refl

-- refuses a rule that tells another version at the first byte of the magic
no_version : IsFirstDamage (magic ++ 51 ∷ []) (record { at = 7; kind = kinds.Magic })
unfolding is_writable has_room u32
no_version = breaks _ (record one { version = 51; links = record root { own = 1 ∷ 1 ∷ 0 ∷ 0 ∷ 0 ∷ 0 ∷ 0 ∷ [] } ∷ [] }) 7 (Version 51) [] refl refl refl refl refl

-- refuses a rule that takes any byte but 0 for finished
a_flag_of_two : IsFirstDamage (magic ++ 49 ∷ 2 ∷ []) (record { at = 8; kind = kinds.Flag })
unfolding is_writable has_room u32
a_flag_of_two = breaks _ (record one { finished = 2 }) 8 (Finished 2) [] refl refl refl refl refl

-- refuses a rule that tells a name at its first letter, and not at its length
no_name : IsFirstDamage (magic ++ 49 ∷ 1 ∷ (w 1 ++ (1 ∷ 84 ∷ []))) (record { at = 13; kind = kinds.Text })
unfolding is_writable has_room u32
no_name = breaks _ (record one { modules = (84 ∷ []) ∷ [] }) 10 (ModuleName [] (84 ∷ [])) [] refl refl refl refl refl

-- refuses a rule by which a list may be empty, and goes on behind its count: that is `Short` at 13
no_modules : IsFirstDamage (magic ++ 49 ∷ 1 ∷ w 0) (record { at = 9; kind = kinds.Range })
unfolding is_writable has_room u32
no_modules = breaks _ (record one { modules = [] }) 9 (Count 0) [] refl refl refl refl refl

-- refuses a rule that tells the place of the field in which the file ends
cut : IsFirstDamage (take 80 one_file) (record { at = 80; kind = kinds.Short })
unfolding is_writable has_room u32
cut = ends (take 80 one_file) one 27 (LinkCount 0) (0 ∷ 0 ∷ 0 ∷ []) (0 ∷ []) refl refl refl refl refl refl

-- refuses a rule that tells the callee, or the last count, and not the link's first byte
mismatch : IsFirstDamage (counting_file 3 (link_file 0 0 1 1 ++ link_file 1 0 1 3)) (record { at = 156; kind = kinds.SiteMismatch })
unfolding is_writable has_room u32
mismatch = breaks _ (counting (link 0 0 1 1 ∷ link 1 0 1 3 ∷ [])) 58 (LinkFits (site 0 3 ∷ site 1 5 ∷ []) (0 ∷ 1 ∷ []) (link 1 0 1 3)) [] refl refl refl refl refl

-- refuses a rule by which links differ where their counts do
double : IsFirstDamage (counting_file 3 (link_file 0 0 1 1 ++ link_file 0 0 1 3)) (record { at = 156; kind = kinds.DoubleLink })
unfolding is_writable has_room u32
double = breaks _ (counting (link 0 0 1 1 ∷ link 0 0 1 3 ∷ [])) 59 (LinkIsNew (0 ∷ 1 ∷ []) (link 0 0 1 1 ∷ []) (link 0 0 1 3)) [] refl refl refl refl refl

-- refuses a rule by which a file may be longer than its fields
another_byte : IsFirstDamage (one_file ++ 0 ∷ []) (record { at = 81; kind = kinds.Trailing })
unfolding is_writable has_room u32
another_byte = goes_on _ one 0 [] refl refl refl

-- a second context, to which nothing leads
abbrev with_orphan : FileRows
with_orphan = record one { contexts = 0 ∷ 0 ∷ [] }

abbrev orphan_file : List ℕ
orphan_file = take 33 one_file ++ ((w 2 ++ (w 0 ++ w 0)) ++ drop 41 one_file)

-- refuses a rule that tells an orphan at the end of the file, or at the number of contexts
orphan : IsFirstDamage orphan_file (record { at = 41; kind = kinds.Orphan })
unfolding is_writable has_room u32
orphan = orphan_one _ with_orphan refl refl refl refl refl

-- ---- two rules broken at once

-- refuses a rule that looks whether a link fits before its callee is known to be there: that is `SiteMismatch` at 120
range_before_mismatch : IsFirstDamage (counting_file 2 (link_file 1 0 2 1)) (record { at = 128; kind = kinds.Range })
unfolding is_writable has_room u32
range_before_mismatch = breaks _ (counting (link 1 0 2 1 ∷ [])) 40 (LinkCallee 2 2) (w 1 ++ (w 1 ++ (w 0 ++ (w 0 ++ (w 0 ++ w 0))))) refl refl refl refl refl

-- refuses a rule by which a link is judged before its last count came: that is `SiteMismatch` at 120
cut_before_mismatch : IsFirstDamage (counting_file 2 (take 32 (link_file 1 0 1 1))) (record { at = 152; kind = kinds.Short })
unfolding is_writable has_room u32
cut_before_mismatch = ends (counting_file 2 (take 32 (link_file 1 0 1 1))) (counting (link 1 0 1 1 ∷ [])) 46 (LinkCount 0) [] (0 ∷ 0 ∷ 0 ∷ 0 ∷ []) refl refl refl refl refl refl

-- refuses a rule that looks for orphans before what stands behind the last link
trailing_before_orphan : IsFirstDamage (orphan_file ++ 0 ∷ []) (record { at = 85; kind = kinds.Trailing })
unfolding is_writable has_room u32
trailing_before_orphan = goes_on _ with_orphan 0 [] refl refl refl
