-- The line that a reader finds at fault is the first faulty line by the definition.
use Rattle.std.proofs.Common.{◌≡◌, ◌↔◌, ℕ, zero, suc, ◌+◌, ◌-◌, ◌<◌, ◌≤◌, ◌⊎◌, inl, inr, Bool, true, false, cond, ◌==◌, List, [], ◌∷◌, ◌++◌, length, map, take, drop, Option, None, Some, Result, Ok, Err, refl, sym, ap, subst, ◌∙◌, append_assoc, append-nil, length-append, length-take-le, take-append-drop, arith}
use Rattle.std.specs.List.{list_any, join_with_byte}
use Rattle.std.proofs.lemmas.Bool.{cases_lt, cases_order, both_ways, cond-true, cond-false, false_from_ne_true, eq-eqb}
use Rattle.std.proofs.lemmas.Grind.{flat_map-append}
use Rattle.std.proofs.lemmas.List.{length-map}
use Rattle.std.proofs.lemmas.List.Elements.{recursion_from_All, All-from_recursion}
use Rattle.std.proofs.lemmas.List.Folds.{Any-from_list_any, list_any-from_Any}
use Rattle.std.proofs.lemmas.List.Splits.{slice_split_at}
use Rattle.md_dynamic.specs.declared.link.LinkRow.{LinkRow}
use Rattle.md_dynamic.specs.Profile.{ProfileRows}
use Rattle.md_dynamic.specs.Valid.{leads_down}
use Rattle.md_deepfile.specs.Rules.{orphan_from}
use Rattle.md_dump.specs.Due.{Due, done, line, fault, lines_behind, reached, parts_of, read, whole as whole_read}
use Rattle.md_dump.specs.Lines.{profile_text}
use Rattle.md_dump.specs.Spells.{Spells, IsFirstFault}
use Rattle.md_dump.proofs.Clean.{row_without}
use Rattle.md_dump.proofs.Cuts.{some_part}
use Rattle.md_dump.proofs.ExactText.{read_spells, spells_read}
use Rattle.md_dump.proofs.Joined.{joined_split}
use Rattle.md_dump.proofs.Steps.{next_read}
use Rattle.law_damage.proofs.Orphans.{orphan_at}
use Rattle.law_faults.specs.Lines.{Line, words, laid, Keeps, behind, context_line, link_line, context_list, link_list, front, lines, before_context}
use Rattle.law_faults.specs.Fault.{AreFew, Begins, EndsBefore, IsLowestOrphan, HasOrphan, IsFirstFaulty}
use Rattle.law_faults.proofs.Along.{row_of, AreKept, AreAllClean, after, after_on, Along, Passed, passed, not_at_fault, IsStuck, Reached, whole, stuck}
use Rattle.law_faults.proofs.Built.{text_reached}
use Rattle.law_faults.proofs.Sections.{text_along}

abbrev Parts : Type 0
Parts = List (List ℕ)

-- ---- lines of a text, and its parts

-- the text of lines is cut into them
parts_front : (xs : List Line) (rest : List ℕ) → AreAllClean xs → parts_of (laid xs ++ rest) ≡ map row_of xs ++ parts_of rest
parts_front [] rest clean = refl
parts_front (x ∷ xs) rest clean =
    ap parts_of (append_assoc (row_of x ++ 10 ∷ []) (laid xs) rest ∙ append_assoc (row_of x) (10 ∷ []) (laid xs ++ rest))
    ∙ slice_split_at (λ b. b == 10) (row_of x) 10 (laid xs ++ rest) (All-from_recursion (λ b. (b == 10) ≡ false) (row_of x) (row_without (words x) clean.0)) (eq-eqb 10 10 refl)
    ∙ ap (λ (ls : Parts). row_of x ∷ ls) (parts_front xs rest clean.1)

-- and parts are joined to it
join_cons : (l : List ℕ) (ls : Parts) → (ls ≡ [] → ⊥) → join_with_byte 10 (l ∷ ls) ≡ l ++ 10 ∷ join_with_byte 10 ls
join_cons l [] some = absurd (some refl)
join_cons l (m ∷ ls) some = refl

more_some : (xs : List Line) (rest : Parts) → (rest ≡ [] → ⊥) → map row_of xs ++ rest ≡ [] → ⊥
more_some [] rest some none = some none
more_some (x ∷ xs) rest some none = cc none

joined : (xs : List Line) (rest : Parts) → (rest ≡ [] → ⊥) → join_with_byte 10 (map row_of xs ++ rest) ≡ laid xs ++ join_with_byte 10 rest
joined [] rest some = refl
joined (x ∷ xs) rest some =
    join_cons (row_of x) (map row_of xs ++ rest) (more_some xs rest some)
    ∙ ap (λ (bs : List ℕ). row_of x ++ 10 ∷ bs) (joined xs rest some)
    ∙ sym (append_assoc (row_of x) (10 ∷ []) (laid xs ++ join_with_byte 10 rest)) ∙ sym (append_assoc (row_of x ++ 10 ∷ []) (laid xs) (join_with_byte 10 rest))

text_of : (text : List ℕ) (xs : List Line) (rest : Parts) → (rest ≡ [] → ⊥) → parts_of text ≡ map row_of xs ++ rest → text ≡ laid xs ++ join_with_byte 10 rest
text_of text xs rest some is = joined_split 10 text (map row_of xs ++ rest) is ∙ joined xs rest some

-- ---- reading behind lines

read_after : (due : Due) (before : ℕ) (ls rest : Parts) → (rest ≡ [] → ⊥) → (after due ls ≡ fault → ⊥) → read due before (ls ++ rest) ≡ read (after due ls) (before + length ls) rest
read_after due before [] rest some good = (let same : before ≡ before + 0 = omega arith in ap (λ (n : ℕ). read due n rest) same)
read_after (line told) before (l ∷ ls) rest some good =
    let size : (before + 1) + length ls ≡ before + suc (length ls) = omega arith in
    next_read told before l (ls ++ rest) (both_some ls rest some) ∙ read_after (told l) (before + 1) ls rest some good ∙ ap (λ (n : ℕ). read (after (told l) ls) n rest) size
  where
    both_some : (ls rest : Parts) → (rest ≡ [] → ⊥) → ls ++ rest ≡ [] → ⊥
    both_some [] rest some none = some none
    both_some (l ∷ ls) rest some none = cc none
read_after (done f) before (l ∷ ls) rest some good = absurd (good refl)
read_after fault before (l ∷ ls) rest some good = absurd (good refl)

line_no_fault : (due : Due) (told : List ℕ → Due) → due ≡ line told → due ≡ fault → ⊥
line_no_fault due told is fails = (let both : line told ≡ fault = sym is ∙ fails in cc both)

done_no_fault : (due : Due) (f : ProfileRows) → due ≡ done f → due ≡ fault → ⊥
done_no_fault due f is fails = (let both : done f ≡ fault = sym is ∙ fails in cc both)

stuck_read : (told : List ℕ → Due) (n : ℕ) (rest : Parts) → IsStuck told rest → read (line told) n rest ≡ Err (n + 1)
stuck_read told n [] stops = absurd stops
stuck_read told n (last ∷ []) stops = refl
stuck_read told n (l ∷ m ∷ ps) stops = ap (λ (d : Due). read d (n + 1) (m ∷ ps)) stops

-- ---- what comes of a text

data Outcome (text : List ℕ) : Type 0 where
  fails : (n : ℕ) → EndsBefore text n → read profile_text 0 (parts_of text) ≡ Err n → Outcome text
  ends : (f : ProfileRows) → Begins text f (lines f) [] [] → read profile_text 0 (parts_of text) ≡ whole_read (length (lines f)) f → Outcome text

begins_with : (text : List ℕ) (f : ProfileRows) (first others : List Line) (rest : List ℕ) → AreFew f → lines f ≡ first ++ others → AreKept first → text ≡ laid first ++ rest → Begins text f first others rest
begins_with text f first others rest few are kept is = record { few = few; are = are; keep = All-from_recursion Keeps first kept; text_is = is }

pass : (text : List ℕ) (f : ProfileRows) (first others : List Line) (rest : List ℕ) → Begins text f first others rest → Passed profile_text (done f) first others
pass text f first others rest b =
    passed profile_text (done f) first others (subst (λ (xs : List Line). Along profile_text xs (done f)) b.are (text_along f b.few)) (recursion_from_All Keeps first b.keep)

parts_of_begins : (text : List ℕ) (f : ProfileRows) (first others : List Line) (rest : List ℕ) → Begins text f first others rest → parts_of text ≡ map row_of first ++ parts_of rest
parts_of_begins text f first others rest b = ap parts_of b.text_is ∙ parts_front first rest (pass text f first others rest b).clean

-- two fronts of the parts, the first one longer by a line
one_longer : (xs ys : Parts) (q : Parts) (l : List ℕ) (r : Parts) → length xs ≡ length ys + 1 → xs ++ q ≡ ys ++ l ∷ r → xs ≡ ys ++ l ∷ []
one_longer [] ys q l r size is = absurd (omega (arith, size))
one_longer (x ∷ []) [] q l r size is = ap (λ (z : List ℕ). z ∷ []) (head_is (x ∷ q) (l ∷ r) is)
  where
    head : Parts → List ℕ
    head [] = []
    head (z ∷ zs) = z

    head_is : (a b : Parts) → a ≡ b → head a ≡ head b
    head_is a b same = ap head same
one_longer (x ∷ z ∷ xs) [] q l r size is = absurd (omega (arith, size))
one_longer (x ∷ xs) (y ∷ ys) q l r size is =
    let head : x ≡ y = cc is in
    let tail : xs ++ q ≡ ys ++ l ∷ r = cc is in
    ap (λ (z : List ℕ). z ∷ xs) head ∙ ap (λ (zs : Parts). y ∷ zs) (one_longer xs ys q l r (omega (arith, size)) tail)

rows_size : (xs : List Line) → length (map row_of xs) ≡ length xs
rows_size xs = length-map xs row_of

-- no rows have a line more of the text
none_more : (text : List ℕ) (first : List Line) (l : List ℕ) (r : Parts) → parts_of text ≡ map row_of first ++ l ∷ r → (r ≡ [] → ⊥) ⊎ (r ≡ []) → ((r ≡ [] → ⊥) → after (after profile_text (map row_of first)) (l ∷ []) ≡ fault)
    → (g : ProfileRows) (more rest : List Line) (bytes : List ℕ) → Begins text g more rest bytes → length more ≡ length first + 1 → ⊥
none_more text first l r is (inr none) stops g more rest bytes b size =
    let both : map row_of more ++ parts_of bytes ≡ map row_of first ++ l ∷ r = sym (parts_of_begins text g more rest bytes b) ∙ is in
    let sizes : length (map row_of more) + length (parts_of bytes) ≡ length (map row_of first) + length (l ∷ r) = sym (length-append (map row_of more) (parts_of bytes)) ∙ ap length both ∙ length-append (map row_of first) (l ∷ r) in
    no_parts bytes (omega (arith, sizes, rows_size more, rows_size first, size, ap length none))
  where
    no_length : (ps : Parts) → length ps ≡ 0 → ps ≡ []
    no_length [] e = refl
    no_length (p ∷ ps) e = absurd (omega (arith, e))

    no_parts : (bs : List ℕ) → length (parts_of bs) ≡ 0 → ⊥
    no_parts bs e = some_part (λ b. b == 10) bs (no_length (parts_of bs) e)
none_more text first l r is (inl some) stops g more rest bytes b size =
    let both : map row_of more ++ parts_of bytes ≡ map row_of first ++ l ∷ r = sym (parts_of_begins text g more rest bytes b) ∙ is in
    let longer : map row_of more ≡ map row_of first ++ l ∷ [] = one_longer (map row_of more) (map row_of first) (parts_of bytes) l r (omega (arith, rows_size more, rows_size first, size)) both in
    let fails : after profile_text (map row_of more) ≡ fault = ap (after profile_text) longer ∙ after_on profile_text (map row_of first) (l ∷ []) ∙ stops some in
    not_at_fault (after profile_text (map row_of more)) g rest (pass text g more rest bytes b).goes fails

is_empty : (r : Parts) → (r ≡ [] → ⊥) ⊎ (r ≡ [])
is_empty [] = inr refl
is_empty (p ∷ r) = inl (λ none. cc none)

stuck_fault : (told : List ℕ → Due) (l : List ℕ) (r : Parts) → IsStuck told (l ∷ r) → (r ≡ [] → ⊥) → told l ≡ fault
stuck_fault told l [] stops some = absurd (some refl)
stuck_fault told l (m ∷ r) stops some = stops

stuck_outcome : (text : List ℕ) (f : ProfileRows) → AreFew f → (first : List Line) (x : Line) (others : List Line) (rest : Parts) (told : List ℕ → Due) → lines f ≡ first ++ x ∷ others → AreKept first → parts_of text ≡ map row_of first ++ rest → after profile_text (map row_of first) ≡ line told → IsStuck told rest → Outcome text
stuck_outcome text f few first x others [] told are kept is at stops = absurd stops
stuck_outcome text f few first x others (l ∷ r) told are kept is at stops =
    let some : (l ∷ r ≡ [] → ⊥) = λ none. cc none in
    let n = length first + 1 in
    fails n
    (record {
      f = f;
      first = first;
      others = x ∷ others;
      rest = join_with_byte 10 (l ∷ r);
      begins = begins_with text f first (x ∷ others) (join_with_byte 10 (l ∷ r)) few are kept (text_of text first (l ∷ r) some is);
      place = refl;
      goes_on = λ none also. cc none;
      none = λ g more after_more bytes b size. none_more text first l r is (is_empty r) (λ more_parts. ap (λ (d : Due). after d (l ∷ [])) at ∙ stuck_fault told l r stops more_parts) g more after_more bytes b size;
    })
    (ap (read profile_text 0) is
    ∙ read_after profile_text 0 (map row_of first) (l ∷ r) some (line_no_fault (after profile_text (map row_of first)) told at)
    ∙ ap (λ (d : Due). read d (0 + length (map row_of first)) (l ∷ r)) at
    ∙ ap (λ (k : ℕ). read (line told) k (l ∷ r)) (let size : 0 + length (map row_of first) ≡ length first = omega (arith, rows_size first) in size)
    ∙ stuck_read told (length first) (l ∷ r) stops)

-- all lines are there, and something follows
past_read : (f : ProfileRows) (n : ℕ) (l : List ℕ) (r : Parts) → (join_with_byte 10 (l ∷ r) ≡ [] → ⊥) → read (done f) n (l ∷ r) ≡ Err (n + 1)
past_read f n [] [] some = absurd (some refl)
past_read f n (b ∷ bs) [] some = refl
past_read f n l (m ∷ r) some = refl

past_outcome : (text : List ℕ) (f : ProfileRows) → AreFew f → AreKept (lines f) → (l : List ℕ) (r : Parts) → parts_of text ≡ map row_of (lines f) ++ l ∷ r → after profile_text (map row_of (lines f)) ≡ done f → (join_with_byte 10 (l ∷ r) ≡ [] → ⊥) → Outcome text
past_outcome text f few kept l r is at follows =
    let some : (l ∷ r ≡ [] → ⊥) = λ none. cc none in
    let n = length (lines f) + 1 in
    fails n
    (record {
      f = f;
      first = lines f;
      others = [];
      rest = join_with_byte 10 (l ∷ r);
      begins = begins_with text f (lines f) [] (join_with_byte 10 (l ∷ r)) few (sym (append-nil (lines f))) kept (text_of text (lines f) (l ∷ r) some is);
      place = refl;
      goes_on = λ none also. follows also;
      none = λ g more after_more bytes b size. none_more text (lines f) l r is (is_empty r) (λ more_parts. ap (λ (d : Due). after d (l ∷ [])) at) g more after_more bytes b size;
    })
    (ap (read profile_text 0) is
    ∙ read_after profile_text 0 (map row_of (lines f)) (l ∷ r) some (done_no_fault (after profile_text (map row_of (lines f))) f at)
    ∙ ap (λ (d : Due). read d (0 + length (map row_of (lines f))) (l ∷ r)) at
    ∙ ap (λ (k : ℕ). read (done f) k (l ∷ r)) (let size : 0 + length (map row_of (lines f)) ≡ length (lines f) = omega (arith, rows_size (lines f)) in size)
    ∙ past_read f (length (lines f)) l r follows)

whole_is_read : (text : List ℕ) (f : ProfileRows) → parts_of text ≡ map row_of (lines f) ++ [] ∷ [] → after profile_text (map row_of (lines f)) ≡ done f → read profile_text 0 (parts_of text) ≡ whole_read (length (lines f)) f
whole_is_read text f is at =
    ap (read profile_text 0) is
    ∙ read_after profile_text 0 (map row_of (lines f)) ([] ∷ []) (λ none. cc none) (done_no_fault (after profile_text (map row_of (lines f))) f at)
    ∙ ap (λ (d : Due). read d (0 + length (map row_of (lines f))) ([] ∷ [])) at
    ∙ ap (λ (k : ℕ). whole_read k f) (let size : 0 + length (map row_of (lines f)) ≡ length (lines f) = omega (arith, rows_size (lines f)) in size)

whole_outcome : (text : List ℕ) (f : ProfileRows) → AreFew f → AreKept (lines f) → (rest : Parts) → (rest ≡ [] → ⊥) → parts_of text ≡ map row_of (lines f) ++ rest → after profile_text (map row_of (lines f)) ≡ done f → Outcome text
whole_outcome text f few kept [] some is at = absurd (some refl)
whole_outcome text f few kept ([] ∷ []) some is at =
    ends f (begins_with text f (lines f) [] [] few (sym (append-nil (lines f))) kept (text_of text (lines f) ([] ∷ []) some is)) (whole_is_read text f is at)
whole_outcome text f few kept ((b ∷ bs) ∷ []) some is at = past_outcome text f few kept (b ∷ bs) [] is at (λ none. cc none)
whole_outcome text f few kept ([] ∷ q ∷ ps) some is at = past_outcome text f few kept [] (q ∷ ps) is at (λ none. cc none)
whole_outcome text f few kept ((b ∷ bs) ∷ q ∷ ps) some is at = past_outcome text f few kept (b ∷ bs) (q ∷ ps) is at (λ none. cc none)

of_reached : (text : List ℕ) (f : ProfileRows) → AreFew f → Reached profile_text (parts_of text) (lines f) (done f) → Outcome text
of_reached text f few (whole rest some kept clean is at) = whole_outcome text f few kept rest some is at
of_reached text f few (stuck first x others rest told are kept clean is at stops) = stuck_outcome text f few first x others rest told are kept is at stops

outcome : (text : List ℕ) → Outcome text
outcome text = let t = text_reached (parts_of text) (some_part (λ b. b == 10) text) in of_reached text t.f t.few t.reached

-- ---- orphans

found_orphan : (links : List LinkRow) (v n u : ℕ) → orphan_from links v n ≡ Some u → (v ≤ u) × (u < v + n) × (list_any (leads_down u) links ≡ false) × ((w : ℕ) → v ≤ w → w < u → list_any (leads_down w) links ≡ true)
found_orphan links v zero u h = absurd (cc h)
found_orphan links v (suc n) u h = by (list_any (leads_down v) links) refl h (λ more. found_orphan links (suc v) n u more)
  where
    by : (b : Bool) → list_any (leads_down v) links ≡ b → cond (list_any (leads_down v) links) (orphan_from links (suc v) n) (Some v) ≡ Some u
        → (orphan_from links (suc v) n ≡ Some u → (suc v ≤ u) × (u < suc v + n) × (list_any (leads_down u) links ≡ false) × ((w : ℕ) → suc v ≤ w → w < u → list_any (leads_down w) links ≡ true))
        → (v ≤ u) × (u < v + suc n) × (list_any (leads_down u) links ≡ false) × ((w : ℕ) → v ≤ w → w < u → list_any (leads_down w) links ≡ true)
    by true is h rest =
        let t = rest (sym (cond-true (list_any (leads_down v) links) (orphan_from links (suc v) n) (Some v) is) ∙ h) in
        let low : suc v ≤ u = t.0 in
        let high : u < suc v + n = t.1 in (
          omega (arith, low),
          omega (arith, high),
          t.2,
          λ w le lt. elim (cases_lt v w) [
            | inl above ↦ t.3 w (omega (arith, above)) lt
            | inr same ↦ let e : v ≡ w = omega (arith, le, same) in subst (λ (k : ℕ). list_any (leads_down k) links ≡ true) e is
          ],
        )
    by false is h rest =
        let here : Some v ≡ Some u = sym (cond-false (list_any (leads_down v) links) (orphan_from links (suc v) n) (Some v) is) ∙ h in
        let e : v ≡ u = cc here in
        (omega (arith, e), omega (arith, e), subst (λ (k : ℕ). list_any (leads_down k) links ≡ false) e is, λ w le lt. absurd (omega (arith, le, lt, e)))

lowest_found : (f : ProfileRows) (v : ℕ) → IsLowestOrphan f v → orphan_from f.links 1 (length f.nodes - 1) ≡ Some v
lowest_found f v o =
    let above : 0 < v = o.above in
    let within : v < length f.nodes = o.within in
    orphan_at f.links 1 (length f.nodes - 1) v (omega (arith, above)) (omega (arith, above, within))
    (false_from_ne_true (list_any (leads_down v) f.links) (λ h. o.alone (Any-from_list_any (leads_down v) f.links h)))
    (λ w le lt. list_any-from_Any (leads_down w) f.links (o.lower w (omega (arith, le)) lt))

found_lowest : (f : ProfileRows) (v : ℕ) → orphan_from f.links 1 (length f.nodes - 1) ≡ Some v → IsLowestOrphan f v
found_lowest f v is =
    let t = found_orphan f.links 1 (length f.nodes - 1) v is in
    let low : 1 ≤ v = t.0 in
    let high : v < 1 + (length f.nodes - 1) = t.1 in
    record {
      above = omega (arith, low);
      within = omega (arith, low, high);
      alone = λ a. both_ways (list_any (leads_down v) f.links) t.2 (list_any-from_Any (leads_down v) f.links a);
      lower = λ u above below. Any-from_list_any (leads_down u) f.links (t.3 u (omega (arith, above)) below);
    }

-- where the line of context v stands
behind_size : {X : Type 0} (line_of : List X → X → Line) (before xs : List X) → length (behind line_of before xs) ≡ length xs
behind_size {X} line_of before [] = refl
behind_size {X} line_of before (x ∷ xs) = ap (λ (n : ℕ). suc n) (behind_size line_of (before ++ x ∷ []) xs)

contexts_size : (f : ProfileRows) (vs : List ℕ) → length (context_list f vs) ≡ 1 + length vs
contexts_size f vs = omega (arith, behind_size (context_line (length f.statics.procs)) [] vs)

links_size : (f : ProfileRows) → length (link_list f) ≡ 1 + length f.links
links_size f = omega (arith, behind_size (link_line f.statics f.nodes) [] f.links)

orphan_line : (f : ProfileRows) (v : ℕ) → v < length f.nodes → length (lines f) - lines_behind f v ≡ length (before_context f v) + 1
orphan_line f v within =
    let all : length (lines f) ≡ length (front f) + ((1 + length f.nodes) + (1 + length f.links))
    = length-append (front f) (context_list f f.nodes ++ link_list f)
    ∙ ap (λ (k : ℕ). length (front f) + k) (length-append (context_list f f.nodes) (link_list f) ∙ ap (λ (k : ℕ). k + length (link_list f)) (contexts_size f f.nodes) ∙ ap (λ (k : ℕ). (1 + length f.nodes) + k) (links_size f)) in
    let le : v ≤ length f.nodes = omega (arith, within) in
    let some : length (before_context f v) ≡ length (front f) + (1 + v)
    = length-append (front f) (context_list f (take v f.nodes)) ∙ ap (λ (k : ℕ). length (front f) + k) (contexts_size f (take v f.nodes) ∙ ap (λ (k : ℕ). 1 + k) (length-take-le v f.nodes le)) in
    omega (arith, all, some, within)

-- ---- both ways

whole_at_orphan : (f : ProfileRows) (n v : ℕ) → orphan_from f.links 1 (length f.nodes - 1) ≡ Some v → whole_read n f ≡ Err (n - lines_behind f v)
whole_at_orphan f n v is = ap (reached n f) is

pub orphan_read : (text : List ℕ) (n : ℕ) → HasOrphan text n → IsFirstFault text n
orphan_read text n h =
    let f = h.f in
    let p = pass text f (lines f) [] [] h.begins in
    let within : h.v < length f.nodes = h.orphan.within in
    whole_is_read text f (parts_of_begins text f (lines f) [] [] h.begins) p.goes
    ∙ whole_at_orphan f (length (lines f)) h.v (lowest_found f h.v h.orphan)
    ∙ ap (λ (k : ℕ). Err k) (orphan_line f h.v within ∙ sym h.place)

same_error : (m n : ℕ) → ◌≡◌ {A = Result ProfileRows ℕ} (Err m) (Err n) → m ≡ n
same_error m n h = cc h

of_orphan : (text : List ℕ) (n : ℕ) (f : ProfileRows) → Begins text f (lines f) [] [] → (o : Option ℕ) → orphan_from f.links 1 (length f.nodes - 1) ≡ o → reached (length (lines f)) f o ≡ Err n → IsFirstFaulty text n
of_orphan text n f begins None is h = absurd (cc h)
of_orphan text n f begins (Some v) is h =
    let o = found_lowest f v is in
    let within : v < length f.nodes = o.within in
    inr (record { f = f; v = v; begins = begins; orphan = o; place = sym (same_error (length (lines f) - lines_behind f v) n h) ∙ orphan_line f v within })

fault_first : (text : List ℕ) (n : ℕ) → Outcome text → IsFirstFault text n → IsFirstFaulty text n
fault_first text n (fails k e is) h = (let same : k ≡ n = same_error k n (sym is ∙ h) in subst (IsFirstFaulty text) same (inl e))
fault_first text n (ends f begins is) h = of_orphan text n f begins (orphan_from f.links 1 (length f.nodes - 1)) refl (sym is ∙ h)

-- a front of lines that are some rows' is one too
shorter : (text : List ℕ) (f : ProfileRows) (first others : List Line) (rest : List ℕ) (j : ℕ) → Begins text f first others rest → j ≤ length first
    → (Begins text f (take j first) (drop j first ++ others) (laid (drop j first) ++ rest)) × (length (take j first) ≡ j)
shorter text f first others rest j b le =
    let parts : take j first ++ drop j first ≡ first = take-append-drop j first in
    let kept = front_kept (take j first) (drop j first) (subst AreKept (sym parts) (recursion_from_All Keeps first b.keep)) in (
      begins_with text f (take j first) (drop j first ++ others) (laid (drop j first) ++ rest) b.few
          (b.are ∙ ap (λ (xs : List Line). xs ++ others) (sym parts) ∙ append_assoc (take j first) (drop j first) others) kept
          (b.text_is ∙ ap (λ (xs : List Line). laid xs ++ rest) (sym parts) ∙ ap (λ (bs : List ℕ). bs ++ rest) (flat_map-append (λ x. row_of x ++ 10 ∷ []) (take j first) (drop j first)) ∙ append_assoc (laid (take j first)) (laid (drop j first)) rest),
      length-take-le j first le,
    )
  where
    front_kept : (xs ys : List Line) → AreKept (xs ++ ys) → AreKept xs
    front_kept [] ys all = tt
    front_kept (x ∷ xs) ys all = (all.0, front_kept xs ys all.1)

not_so_far : (text : List ℕ) (n : ℕ) (e : EndsBefore text n) (f : ProfileRows) (first others : List Line) (rest : List ℕ) → Begins text f first others rest → n ≤ length first → ⊥
not_so_far text n e f first others rest b le =
    let s = shorter text f first others rest n b le in
    e.none f (take n first) (drop n first ++ others) (laid (drop n first) ++ rest) s.0 s.1

one_end : (text : List ℕ) (m n : ℕ) → EndsBefore text m → EndsBefore text n → m ≡ n
one_end text m n e d =
    let m_is : m ≡ length e.first + 1 = e.place in
    let n_is : n ≡ length d.first + 1 = d.place in
    elim (cases_order m n) [
      | inl same ↦ same
      | inr other ↦ absurd (elim other [
        | inl less ↦ not_so_far text m e d.f d.first d.others d.rest d.begins (omega (arith, less, n_is))
        | inr more ↦ not_so_far text n d e.f e.first e.others e.rest e.begins (omega (arith, more, m_is))
      ])
    ]

-- a text that is whole doesn't end before a line
same_front : (xs ys : Parts) (q : Parts) → length xs ≡ length ys → xs ++ q ≡ ys ++ [] ∷ [] → (xs ≡ ys) × (q ≡ [] ∷ [])
same_front [] [] q size is = (refl, is)
same_front [] (y ∷ ys) q size is = absurd (omega (arith, size))
same_front (x ∷ xs) [] q size is = absurd (omega (arith, size))
same_front (x ∷ xs) (y ∷ ys) q size is =
    let head : x ≡ y = cc is in
    let tail : xs ++ q ≡ ys ++ [] ∷ [] = cc is in
    let t = same_front xs ys q (omega (arith, size)) tail in
    (ap (λ (z : List ℕ). z ∷ xs) head ∙ ap (λ (zs : Parts). y ∷ zs) t.0, t.1)

no_lines : (due : Due) (f g : ProfileRows) (xs : List Line) → due ≡ done f → Along due xs (done g) → xs ≡ []
no_lines due f g [] is along = refl
no_lines due f g (x ∷ xs) is along = absurd (let both : done f ≡ line along.0 = sym is ∙ along.1 in cc both)

not_before : (text : List ℕ) (n : ℕ) (f : ProfileRows) → Begins text f (lines f) [] [] → EndsBefore text n → ⊥
not_before text n f whole_text e = elim (cases_lt (length e.first) (length (lines f))) [
  | inl less ↦ (let n_is : n ≡ length e.first + 1 = e.place in not_so_far text n e f (lines f) [] [] whole_text (omega (arith, less, n_is)))
  | inr past ↦
      let both : map row_of e.first ++ parts_of e.rest ≡ map row_of (lines f) ++ [] ∷ [] = sym (parts_of_begins text e.f e.first e.others e.rest e.begins) ∙ parts_of_begins text f (lines f) [] [] whole_text in
      let sizes : length (map row_of e.first) + length (parts_of e.rest) ≡ length (map row_of (lines f)) + 1
      = sym (length-append (map row_of e.first) (parts_of e.rest)) ∙ ap length both ∙ length-append (map row_of (lines f)) ([] ∷ []) in
      let some : 0 < length (parts_of e.rest) = some_parts e.rest in
      let equal : length (map row_of e.first) ≡ length (map row_of (lines f)) = omega (arith, sizes, some, past, rows_size e.first, rows_size (lines f)) in
      let same = same_front (map row_of e.first) (map row_of (lines f)) (parts_of e.rest) equal both in
      let rest_none : e.rest ≡ [] = joined_split 10 e.rest ([] ∷ []) same.1 in
      let at : after profile_text (map row_of e.first) ≡ done f = ap (after profile_text) same.0 ∙ (pass text f (lines f) [] [] whole_text).goes in
      e.goes_on (no_lines (after profile_text (map row_of e.first)) f e.f e.others at (pass text e.f e.first e.others e.rest e.begins).goes) rest_none
]
  where
    some_length : (ps : Parts) → (ps ≡ [] → ⊥) → 0 < length ps
    some_length [] some = absurd (some refl)
    some_length (p ∷ ps) some = omega arith

    some_parts : (bs : List ℕ) → 0 < length (parts_of bs)
    some_parts bs = some_length (parts_of bs) (some_part (λ b. b == 10) bs)

ends_read : (text : List ℕ) (n : ℕ) → Outcome text → EndsBefore text n → IsFirstFault text n
ends_read text n (fails k d is) e = (let same : k ≡ n = one_end text k n d e in is ∙ ap (λ (j : ℕ). Err j) same)
ends_read text n (ends f begins is) e = absurd (not_before text n f begins e)

first_read : (text : List ℕ) (n : ℕ) → IsFirstFaulty text n → IsFirstFault text n
first_read text n (inl e) = ends_read text n (outcome text) e
first_read text n (inr h) = orphan_read text n h

pub one_faulty : (text : List ℕ) (m n : ℕ) → IsFirstFaulty text m → IsFirstFaulty text n → m ≡ n
one_faulty text m n this that = same_error m n (sym (first_read text m this) ∙ first_read text n that)

pub never_both : (text : List ℕ) (f : ProfileRows) (n : ℕ) → Spells text f → IsFirstFaulty text n → ⊥
never_both text f n spells faulty = (let both : ◌≡◌ {A = Result ProfileRows ℕ} (Ok f) (Err n) = sym (spells_read text f spells) ∙ first_read text n faulty in cc both)

by_reading : (text : List ℕ) (r : Result ProfileRows ℕ) → read profile_text 0 (parts_of text) ≡ r → ((f : ProfileRows) × Spells text f) ⊎ ((n : ℕ) × IsFirstFaulty text n)
by_reading text (Ok f) is = inl (f, read_spells text f is)
by_reading text (Err n) is = inr (n, fault_first text n (outcome text) is)

pub either : (text : List ℕ) → ((f : ProfileRows) × Spells text f) ⊎ ((n : ℕ) × IsFirstFaulty text n)
either text = by_reading text (read profile_text 0 (parts_of text)) refl

pub faulty_first : (text : List ℕ) (n : ℕ) → IsFirstFault text n ↔ IsFirstFaulty text n
faulty_first text n = (fault_first text n (outcome text), first_read text n)
