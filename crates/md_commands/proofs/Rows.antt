-- What the rows of a walk say of the parts of the words.
use Rattle.std.proofs.Common.{◌≡◌, refl, sym, ap, ap₂, ◌∙◌, Bool, true, false, not, cond, ◌&&◌, ◌||◌, List, [], ◌∷◌, ◌++◌, Option, None, Some, codes, true≢false, append-nil, append_assoc}
use Rattle.std.specs.Prelude.{is_some, find, fold, unwrap_or, option_map, option_and_then, slice_get}
use Rattle.md_commands.specs.Lines.{words_id}
use Rattle.md_commands.specs.Reading.{Tells}
use Rattle.std.specs.Option.{option_map_or}
use Rattle.std.specs.Str.{bytes_eq}
use Rattle.std.proofs.lemmas.Slice.Eq.{bytes_eq-Decides}
use Rattle.clap.specs.Walk.{Row, used, has_row, with_values, without, reading_by, stronger, more_values, with_default, row_text, all_of}
use Rattle.clap.specs.Kinds.{or_else}
use Rattle.clap.specs.declared.error.kind.ErrorKind.TheVariants.{ArgumentConflict}
use Rattle.clap.specs.Faults.{use_fault}
use Rattle.clap.proofs.WalkLemmas.{both}
use Rattle.clap.specs.declared.parser.matches.ValueSource.TheVariants.{CommandLine, DefaultValue}
use Rattle.clap.specs.declared.builder.value_parser.Reading.{Reading}
use Rattle.md_commands.specs.Parts.{Text, Usage, is_one_of, takes_value, is_flag, Part, Flagged, Valued, Refused, Other, others, is_given, value_of, are_right}
use Rattle.md_commands.proofs.Walks.{value_rule, flag_rule, words_rule, rules_of, flag_rules, valued_rules, Apart, well, done}

-- the row of an id
abbrev pub row_at : Text → List Row → Option Row
row_at id rows = find (λ r. bytes_eq r.id id) rows

abbrev pub values_at : Text → List Row → List Text
values_at id rows = option_map_or (λ r. r.values) (row_at id rows) []

abbrev pub row_by : Text → List Text → Reading → Row
row_by id values how = record { id = id; values = values; count = None; source = Some CommandLine; reading = how }

-- a row with more values
abbrev row_more : Row → List Text → Row
row_more r values = record r { values = r.values ++ values; source = Some (stronger r.source CommandLine) }

abbrev pub value_row : Text → Text → Row
value_row name value = row_by name (value ∷ []) (reading_by (value_rule name))

abbrev pub flag_row : Text → Row
flag_row name = row_by name (codes "true" ∷ []) (reading_by (flag_rule name))

abbrev pub first_some : Option Row → Option Row → Option Row
first_some None o = o
first_some (Some r) o = Some r

abbrev pub row_if : Bool → Row → Option Row
row_if b r = cond b (Some r) None

-- the row that an option gets
abbrev pub given : Text → List Part → Option Row
given name [] = None
given name (Flagged n ∷ parts) = first_some (row_if (bytes_eq n name) (flag_row n)) (given name parts)
given name (Valued n value ∷ parts) = first_some (row_if (bytes_eq n name) (value_row n value)) (given name parts)
given name (Refused ∷ parts) = given name parts
given name (Other word ∷ parts) = given name parts

-- ---- rows

pub has_is : (n : Text) (rows : List Row) → has_row n rows ≡ is_some (row_at n rows)
has_is n [] = refl
has_is n (r ∷ rows) = go (has_is n rows) (bytes_eq r.id n)
  where
    go : has_row n rows ≡ is_some (row_at n rows) → (b : Bool) → (b || has_row n rows) ≡ is_some (cond b (Some r) (row_at n rows))
    go rest true = refl
    go rest false = rest

pub row_end : (n : Text) (rows : List Row) (x : Row) → row_at n (rows ++ x ∷ []) ≡ first_some (row_at n rows) (row_if (bytes_eq x.id n) x)
row_end n [] x = refl
row_end n (r ∷ rows) x = go (row_end n rows x) (bytes_eq r.id n)
  where
    go : row_at n (rows ++ x ∷ []) ≡ first_some (row_at n rows) (row_if (bytes_eq x.id n) x) → (b : Bool)
        → cond b (Some r) (row_at n (rows ++ x ∷ [])) ≡ first_some (cond b (Some r) (row_at n rows)) (row_if (bytes_eq x.id n) x)
    go rest true = refl
    go rest false = rest

-- a use of an option that hasn't come is a new row
new_row : (id : Text) (how : Reading) (values : List Text) (rows : List Row) → has_row id rows ≡ false → with_values id how CommandLine values (without id rows) ≡ rows ++ row_by id values how ∷ []
new_row id how values [] none = refl
new_row id how values (r ∷ rows) none = go (new_row id how values rows) (bytes_eq r.id id) refl none
  where
    go : (has_row id rows ≡ false → with_values id how CommandLine values (without id rows) ≡ rows ++ row_by id values how ∷ []) → (b : Bool) → bytes_eq r.id id ≡ b → (b || has_row id rows) ≡ false
        → with_values id how CommandLine values (cond b rows (r ∷ without id rows)) ≡ r ∷ (rows ++ row_by id values how ∷ [])
    go rest true e h = absurd (true≢false h)
    go rest false e h = ap (λ b. cond b (row_more r values ∷ without id rows) (r ∷ with_values id how CommandLine values (without id rows))) e ∙ ap (λ rs. r ∷ rs) (rest h)

-- the words that are no options leave the other rows
other_row : (n : Text) (how : Reading) (values : List Text) (rows : List Row) → bytes_eq words_id n ≡ false → row_at n (with_values words_id how CommandLine values rows) ≡ row_at n rows
other_row n how values [] apart = ap (λ b. cond b (Some (row_by words_id values how)) None) apart
other_row n how values (r ∷ rows) apart = go (other_row n how values rows apart) (bytes_eq r.id words_id) refl
  where
    go : row_at n (with_values words_id how CommandLine values rows) ≡ row_at n rows → (b : Bool) → bytes_eq r.id words_id ≡ b
        → row_at n (cond b (row_more r values ∷ rows) (r ∷ with_values words_id how CommandLine values rows)) ≡ cond (bytes_eq r.id n) (Some r) (row_at n rows)
    go rest true e =
        let no : bytes_eq r.id n ≡ false = ap (λ t. bytes_eq t n) ((bytes_eq-Decides r.id words_id).0 e) ∙ apart in
        ap (λ b. cond b (Some (row_more r values)) (row_at n rows)) no ∙ sym (ap (λ b. cond b (Some r) (row_at n rows)) no)
    go rest false e = ap (λ o. cond (bytes_eq r.id n) (Some r) o) rest

words_row : (how : Reading) (word : Text) (rows : List Row) → values_at words_id (with_values words_id how CommandLine (word ∷ []) rows) ≡ values_at words_id rows ++ word ∷ []
words_row how word [] = refl
words_row how word (r ∷ rows) = go (words_row how word rows) (bytes_eq r.id words_id) refl
  where
    go : values_at words_id (with_values words_id how CommandLine (word ∷ []) rows) ≡ values_at words_id rows ++ word ∷ [] → (b : Bool) → bytes_eq r.id words_id ≡ b
        → values_at words_id (cond b (row_more r (word ∷ []) ∷ rows) (r ∷ with_values words_id how CommandLine (word ∷ []) rows)) ≡ option_map_or (λ r. r.values) (cond b (Some r) (row_at words_id rows)) [] ++ word ∷ []
    go rest true e = ap (λ b. option_map_or (λ r. r.values) (cond b (Some (row_more r (word ∷ []))) (row_at words_id rows)) []) e
    go rest false e = ap (λ b. option_map_or (λ r. r.values) (cond b (Some r) (row_at words_id (with_values words_id how CommandLine (word ∷ []) rows))) []) e ∙ rest

pub first_none : (o : Option Row) → first_some o None ≡ o
first_none None = refl
first_none (Some r) = refl

pub first_assoc : (a b d : Option Row) → first_some (first_some a b) d ≡ first_some a (first_some b d)
first_assoc None b d = refl
first_assoc (Some r) b d = refl

-- ---- uses

value_well : (n v : Text) (rows : List Row) → well (use_fault false (value_rule n) (v ∷ []) rows) ≡ not (has_row n rows)
value_well n v rows = go (has_row n rows)
  where
    go : (b : Bool) → well (or_else (cond (b && true) (ArgumentConflict ∷ []) []) []) ≡ not b
    go true = refl
    go false = refl

flag_well : (n : Text) (rows : List Row) → well (use_fault false (flag_rule n) [] rows) ≡ not (has_row n rows)
flag_well n rows = go (has_row n rows)
  where
    go : (b : Bool) → well (or_else (cond (b && true) (ArgumentConflict ∷ []) []) []) ≡ not b
    go true = refl
    go false = refl

not_true : (b : Bool) → not b ≡ true → b ≡ false
not_true true e = absurd (true≢false (sym e))
not_true false e = refl

cond_some : (b : Bool) (o : Option (List Row)) (rows : List Row) → cond b o None ≡ Some rows → (b ≡ true) × (o ≡ Some rows)
cond_some true o rows e = (refl, e)
cond_some false o rows e = absurd (true≢false (sym (ap is_some e)))

-- no option has the id of the words
pub apart_from : (names : List Text) (n other : Text) → is_one_of names n ≡ true → is_one_of names other ≡ false → bytes_eq n other ≡ false
apart_from [] n other e f = absurd (true≢false (sym e))
apart_from (m ∷ ms) n other e f = go (apart_from ms n other) (bytes_eq m n) refl (bytes_eq m other) refl e f
  where
    go : (is_one_of ms n ≡ true → is_one_of ms other ≡ false → bytes_eq n other ≡ false) → (b : Bool) → bytes_eq m n ≡ b → (d : Bool) → bytes_eq m other ≡ d
        → (b || is_one_of ms n) ≡ true → (d || is_one_of ms other) ≡ false → bytes_eq n other ≡ false
    go rest b same true off e f = absurd (true≢false f)
    go rest true same false off e f = ap (λ t. bytes_eq t other) (sym ((bytes_eq-Decides m n).0 same)) ∙ off
    go rest false same false off e f = rest e f

pub bytes_sym : (a b : Text) → bytes_eq a b ≡ bytes_eq b a
bytes_sym a b = go (bytes_eq a b) (bytes_eq b a) refl refl
  where
    go : (x y : Bool) → bytes_eq a b ≡ x → bytes_eq b a ≡ y → x ≡ y
    go true true e f = refl
    go false false e f = refl
    go true false e f = absurd (true≢false (sym ((bytes_eq-Decides b a).1 (sym ((bytes_eq-Decides a b).0 e))) ∙ f))
    go false true e f = absurd (true≢false (sym ((bytes_eq-Decides a b).1 (sym ((bytes_eq-Decides b a).0 f))) ∙ e))

has_end : (n : Text) (rows : List Row) (x : Row) → has_row n (rows ++ x ∷ []) ≡ (has_row n rows || bytes_eq x.id n)
has_end n [] x = go (bytes_eq x.id n)
  where
    go : (b : Bool) → (b || false) ≡ b
    go true = refl
    go false = refl
has_end n (r ∷ rows) x = go (has_end n rows x) (bytes_eq r.id n)
  where
    go : has_row n (rows ++ x ∷ []) ≡ (has_row n rows || bytes_eq x.id n) → (b : Bool) → (b || has_row n (rows ++ x ∷ [])) ≡ ((b || has_row n rows) || bytes_eq x.id n)
    go rest true = refl
    go rest false = rest

and_false : (b : Bool) → (b && false) ≡ false
and_false true = refl
and_false false = refl

regroup : (r g u : Bool) → (r && (not g && u)) ≡ ((not g && r) && u)
regroup true true u = refl
regroup true false u = refl
regroup false true u = refl
regroup false false u = refl

module _ (name : Text) (usage : Usage) (apart : Apart usage) where
  abbrev done_by : List Part → List Row → Option (List Row)
  done_by = done name usage apart

  valued_apart : (n : Text) → takes_value usage n ≡ true → bytes_eq n words_id ≡ false
  valued_apart n e = apart_from usage.valued n words_id e apart.valued

  flag_apart : (n : Text) → is_flag usage n ≡ true → bytes_eq n words_id ≡ false
  flag_apart n e = apart_from usage.flags n words_id e apart.flags

  -- a step with an option: it is one of the command's, has not come, and the rest goes on
  valued_step : (n v : Text) (parts : List Part) (rows after : List Row) → done_by (Valued n v ∷ parts) rows ≡ Some after
      → (takes_value usage n ≡ true) × (has_row n rows ≡ false) × (done_by parts (rows ++ value_row n v ∷ []) ≡ Some after)
  valued_step n v parts rows after e =
      let first = cond_some (takes_value usage n) _ after e in
      let second = cond_some (well (use_fault false (value_rule n) (v ∷ []) rows)) _ after first.1 in
      let fresh = not_true (has_row n rows) (sym (value_well n v rows) ∙ second.0) in
      (first.0, fresh, ap (done_by parts) (sym (new_row n (reading_by (value_rule n)) (v ∷ []) rows fresh)) ∙ second.1)

  flag_step : (n : Text) (parts : List Part) (rows after : List Row) → done_by (Flagged n ∷ parts) rows ≡ Some after
      → (is_flag usage n ≡ true) × (has_row n rows ≡ false) × (done_by parts (rows ++ flag_row n ∷ []) ≡ Some after)
  flag_step n parts rows after e =
      let first = cond_some (is_flag usage n) _ after e in
      let second = cond_some (well (use_fault false (flag_rule n) [] rows)) _ after first.1 in
      let fresh = not_true (has_row n rows) (sym (flag_well n rows) ∙ second.0) in
      (first.0, fresh, ap (done_by parts) (sym (new_row n (reading_by (flag_rule n)) (codes "true" ∷ []) rows fresh)) ∙ second.1)

  -- the row of an option is the one that the parts give it
  pub done_given : (n : Text) → bytes_eq words_id n ≡ false → (parts : List Part) (rows after : List Row) → done_by parts rows ≡ Some after → row_at n after ≡ first_some (row_at n rows) (given n parts)
  done_given n other [] rows after e = ap (λ o. option_map_or (row_at n) o None) (sym e) ∙ sym (first_none (row_at n rows))
  done_given n other (Flagged m ∷ parts) rows after e =
      let step = flag_step m parts rows after e in
      done_given n other parts (rows ++ flag_row m ∷ []) after step.2 ∙ ap (λ o. first_some o (given n parts)) (row_end n rows (flag_row m))
      ∙ first_assoc (row_at n rows) (row_if (bytes_eq m n) (flag_row m)) (given n parts)
  done_given n other (Valued m v ∷ parts) rows after e =
      let step = valued_step m v parts rows after e in
      done_given n other parts (rows ++ value_row m v ∷ []) after step.2 ∙ ap (λ o. first_some o (given n parts)) (row_end n rows (value_row m v))
      ∙ first_assoc (row_at n rows) (row_if (bytes_eq m n) (value_row m v)) (given n parts)
  done_given n other (Refused ∷ parts) rows after e = absurd (true≢false (sym (ap is_some e)))
  done_given n other (Other word ∷ parts) rows after e =
      done_given n other parts (used words_rule (word ∷ []) rows) after e
      ∙ ap (λ o. first_some o (given n parts)) (other_row n (reading_by words_rule) (word ∷ []) rows other)

  -- the words that are no options, in order
  pub done_others : (parts : List Part) (rows after : List Row) → done_by parts rows ≡ Some after → values_at words_id after ≡ values_at words_id rows ++ others parts
  done_others [] rows after e = ap (λ o. option_map_or (values_at words_id) o []) (sym e) ∙ sym (append-nil (values_at words_id rows))
  done_others (Flagged m ∷ parts) rows after e =
      let step = flag_step m parts rows after e in
      done_others parts (rows ++ flag_row m ∷ []) after step.2
      ∙ ap (λ o. option_map_or (λ r. r.values) o [] ++ others parts)
      (row_end words_id rows (flag_row m) ∙ ap (λ b. first_some (row_at words_id rows) (row_if b (flag_row m))) (flag_apart m step.0) ∙ first_none (row_at words_id rows))
  done_others (Valued m v ∷ parts) rows after e =
      let step = valued_step m v parts rows after e in
      done_others parts (rows ++ value_row m v ∷ []) after step.2
      ∙ ap (λ o. option_map_or (λ r. r.values) o [] ++ others parts)
      (row_end words_id rows (value_row m v) ∙ ap (λ b. first_some (row_at words_id rows) (row_if b (value_row m v))) (valued_apart m step.0) ∙ first_none (row_at words_id rows))
  done_others (Refused ∷ parts) rows after e = absurd (true≢false (sym (ap is_some e)))
  done_others (Other word ∷ parts) rows after e =
      done_others parts (used words_rule (word ∷ []) rows) after e
      ∙ ap (λ ws. ws ++ others parts) (words_row (reading_by words_rule) word rows) ∙ append_assoc (values_at words_id rows) (word ∷ []) (others parts)

  -- ---- when the parts go on

  -- no option of the parts has a row
  abbrev unseen : List Row → List Part → Bool
  unseen rows [] = true
  unseen rows (Flagged n ∷ parts) = not (has_row n rows) && unseen rows parts
  unseen rows (Valued n v ∷ parts) = not (has_row n rows) && unseen rows parts
  unseen rows (Refused ∷ parts) = unseen rows parts
  unseen rows (Other word ∷ parts) = unseen rows parts

  swap_first : (a b u g : Bool) → (not (a || b) && (not g && u)) ≡ (not (b || g) && (not a && u))
  swap_first true true true g = refl
  swap_first true true false g = refl
  swap_first true false u true = refl
  swap_first true false u false = refl
  swap_first false true u g = refl
  swap_first false false u true = refl
  swap_first false false u false = refl

  unseen_more : (x : Row) (rows : List Row) (parts : List Part) → unseen (rows ++ x ∷ []) parts ≡ (not (is_given x.id parts) && unseen rows parts)
  unseen_more x rows [] = refl
  unseen_more x rows (Flagged n ∷ parts) =
      ap₂ (λ a b. not a && b) (has_end n rows x) (unseen_more x rows parts) ∙ swap_first (has_row n rows) (bytes_eq x.id n) (unseen rows parts) (is_given x.id parts)
      ∙ ap (λ b. not (b || is_given x.id parts) && (not (has_row n rows) && unseen rows parts)) (bytes_sym x.id n)
  unseen_more x rows (Valued n v ∷ parts) =
      ap₂ (λ a b. not a && b) (has_end n rows x) (unseen_more x rows parts) ∙ swap_first (has_row n rows) (bytes_eq x.id n) (unseen rows parts) (is_given x.id parts)
      ∙ ap (λ b. not (b || is_given x.id parts) && (not (has_row n rows) && unseen rows parts)) (bytes_sym x.id n)
  unseen_more x rows (Refused ∷ parts) = unseen_more x rows parts
  unseen_more x rows (Other word ∷ parts) = unseen_more x rows parts

  same_has : (n word : Text) (rows : List Row) → bytes_eq n words_id ≡ false → has_row n (used words_rule (word ∷ []) rows) ≡ has_row n rows
  same_has n word rows other =
      has_is n (used words_rule (word ∷ []) rows) ∙ ap is_some (other_row n (reading_by words_rule) (word ∷ []) rows (bytes_sym words_id n ∙ other)) ∙ sym (has_is n rows)

  unseen_words : (word : Text) (rows : List Row) (parts : List Part) → are_right usage parts ≡ true → unseen (used words_rule (word ∷ []) rows) parts ≡ unseen rows parts
  unseen_words word rows [] right = refl
  unseen_words word rows (Flagged n ∷ parts) right =
      let first = both _ _ right in
      ap₂ (λ a b. not a && b) (same_has n word rows (flag_apart n first.0)) (unseen_words word rows parts (both _ _ first.1).1)
  unseen_words word rows (Valued n v ∷ parts) right =
      let first = both _ _ right in
      ap₂ (λ a b. not a && b) (same_has n word rows (valued_apart n first.0)) (unseen_words word rows parts (both _ _ first.1).1)
  unseen_words word rows (Refused ∷ parts) right = unseen_words word rows parts (absurd (true≢false (sym right)))
  unseen_words word rows (Other w ∷ parts) right = unseen_words word rows parts right

  -- the parts go on exactly where each option is one of the command's and comes once
  done_right : (parts : List Part) (rows : List Row) → is_some (done_by parts rows) ≡ (are_right usage parts && unseen rows parts)
  done_right [] rows = refl
  done_right (Flagged n ∷ parts) rows = go (done_right parts (rows ++ flag_row n ∷ [])) (is_flag usage n) (has_row n rows) refl
    where
      go : is_some (done_by parts (rows ++ flag_row n ∷ [])) ≡ (are_right usage parts && unseen (rows ++ flag_row n ∷ []) parts) → (f h : Bool) → has_row n rows ≡ h
          → is_some (cond f (cond (well (use_fault false (flag_rule n) [] rows)) (done_by parts (used (flag_rule n) [] rows)) None) None) ≡ ((f && (not (is_given n parts) && are_right usage parts)) && (not h && unseen rows parts))
      go rest false h e = refl
      go rest true true e =
          ap (λ b. is_some (cond b (done_by parts (used (flag_rule n) [] rows)) None)) (flag_well n rows ∙ ap not e) ∙ sym (and_false (not (is_given n parts) && are_right usage parts))
      go rest true false e =
          ap (λ b. is_some (cond b (done_by parts (used (flag_rule n) [] rows)) None)) (flag_well n rows ∙ ap not e)
          ∙ ap (λ rs. is_some (done_by parts rs)) (new_row n (reading_by (flag_rule n)) (codes "true" ∷ []) rows e) ∙ rest
          ∙ ap (λ u. are_right usage parts && u) (unseen_more (flag_row n) rows parts) ∙ regroup (are_right usage parts) (is_given n parts) (unseen rows parts)
  done_right (Valued n v ∷ parts) rows = go (done_right parts (rows ++ value_row n v ∷ [])) (takes_value usage n) (has_row n rows) refl
    where
      go : is_some (done_by parts (rows ++ value_row n v ∷ [])) ≡ (are_right usage parts && unseen (rows ++ value_row n v ∷ []) parts) → (f h : Bool) → has_row n rows ≡ h
          → is_some (cond f (cond (well (use_fault false (value_rule n) (v ∷ []) rows)) (done_by parts (used (value_rule n) (v ∷ []) rows)) None) None) ≡ ((f && (not (is_given n parts) && are_right usage parts)) && (not h && unseen rows parts))
      go rest false h e = refl
      go rest true true e =
          ap (λ b. is_some (cond b (done_by parts (used (value_rule n) (v ∷ []) rows)) None)) (value_well n v rows ∙ ap not e) ∙ sym (and_false (not (is_given n parts) && are_right usage parts))
      go rest true false e =
          ap (λ b. is_some (cond b (done_by parts (used (value_rule n) (v ∷ []) rows)) None)) (value_well n v rows ∙ ap not e)
          ∙ ap (λ rs. is_some (done_by parts rs)) (new_row n (reading_by (value_rule n)) (v ∷ []) rows e) ∙ rest
          ∙ ap (λ u. are_right usage parts && u) (unseen_more (value_row n v) rows parts) ∙ regroup (are_right usage parts) (is_given n parts) (unseen rows parts)
  done_right (Refused ∷ parts) rows = refl
  done_right (Other word ∷ parts) rows = done_right parts (used words_rule (word ∷ []) rows) ∙ go (are_right usage parts) refl
    where
      go : (b : Bool) → are_right usage parts ≡ b → (b && unseen (used words_rule (word ∷ []) rows) parts) ≡ (b && unseen rows parts)
      go false e = refl
      go true e = unseen_words word rows parts e

  all_unseen : (parts : List Part) → unseen [] parts ≡ true
  all_unseen [] = refl
  all_unseen (Flagged n ∷ parts) = all_unseen parts
  all_unseen (Valued n v ∷ parts) = all_unseen parts
  all_unseen (Refused ∷ parts) = all_unseen parts
  all_unseen (Other word ∷ parts) = all_unseen parts

  and_true : (a b : Bool) → b ≡ true → (a && b) ≡ a
  and_true true b e = e
  and_true false b e = refl

  -- so of all parts
  pub taken_right : (parts : List Part) → is_some (done_by parts []) ≡ are_right usage parts
  taken_right parts = done_right parts [] ∙ and_true (are_right usage parts) (unseen [] parts) (all_unseen parts)

-- ---- defaults

-- a flag that didn't come
abbrev pub default_row : Text → Row
default_row name = record { id = name; values = codes "false" ∷ []; count = None; source = Some DefaultValue; reading = reading_by (flag_rule name) }

default_new : (id : Text) (how : Reading) (values : List Text) (rows : List Row) → has_row id rows ≡ false → with_values id how DefaultValue values rows ≡ rows ++ record { id = id; values = values; count = None; source = Some DefaultValue; reading = how } ∷ []
default_new id how values [] none = refl
default_new id how values (r ∷ rows) none = go (default_new id how values rows) (bytes_eq r.id id) none
  where
    go : (has_row id rows ≡ false → with_values id how DefaultValue values rows ≡ rows ++ record { id = id; values = values; count = None; source = Some DefaultValue; reading = how } ∷ []) → (b : Bool) → (b || has_row id rows) ≡ false
        → cond b (more_values DefaultValue values r ++ rows) (r ∷ with_values id how DefaultValue values rows) ≡ r ∷ (rows ++ record { id = id; values = values; count = None; source = Some DefaultValue; reading = how } ∷ [])
    go rest true h = absurd (true≢false h)
    go rest false h = ap (λ rs. r ∷ rs) (rest h)

first_if : (o : Option Row) (x : Row) → is_some o ≡ true → first_some o (Some x) ≡ o
first_if None x e = absurd (true≢false (sym e))
first_if (Some r) x e = refl

-- a flag has a row then
flag_default : (m n : Text) (rows : List Row) → row_at m (with_default rows (flag_rule n)) ≡ first_some (row_at m rows) (row_if (bytes_eq n m) (default_row n))
flag_default m n rows = go (has_row n rows) refl
  where
    same : (b : Bool) → bytes_eq n m ≡ b → has_row n rows ≡ true → row_at m rows ≡ first_some (row_at m rows) (row_if b (default_row n))
    same false e has = sym (first_none (row_at m rows))
    same true e has = sym (first_if (row_at m rows) (default_row n) (sym (has_is m rows) ∙ ap (λ t. has_row t rows) (sym ((bytes_eq-Decides n m).0 e)) ∙ has))

    go : (h : Bool) → has_row n rows ≡ h → row_at m (cond h rows (with_values n (reading_by (flag_rule n)) DefaultValue (codes "false" ∷ []) rows)) ≡ first_some (row_at m rows) (row_if (bytes_eq n m) (default_row n))
    go true e = same (bytes_eq n m) refl e
    go false e = ap (row_at m) (default_new n (reading_by (flag_rule n)) (codes "false" ∷ []) rows e) ∙ row_end m rows (default_row n)

no_default : (n : Text) (rows : List Row) → with_default rows (value_rule n) ≡ rows
no_default n rows = go (has_row n rows)
  where
    go : (h : Bool) → cond h rows rows ≡ rows
    go true = refl
    go false = refl

no_words_default : (rows : List Row) → with_default rows words_rule ≡ rows
no_words_default rows = go (has_row words_id rows)
  where
    go : (h : Bool) → cond h rows rows ≡ rows
    go true = refl
    go false = refl

flags_filled : (m : Text) (names : List Text) (rows : List Row) → row_at m (fold with_default rows (flag_rules names)) ≡ first_some (row_at m rows) (row_if (is_one_of names m) (default_row m))
flags_filled m [] rows = ap (row_at m) (no_words_default rows) ∙ sym (first_none (row_at m rows))
flags_filled m (n ∷ names) rows =
    flags_filled m names (with_default rows (flag_rule n)) ∙ ap (λ o. first_some o (row_if (is_one_of names m) (default_row m))) (flag_default m n rows)
    ∙ first_assoc (row_at m rows) (row_if (bytes_eq n m) (default_row n)) (row_if (is_one_of names m) (default_row m))
    ∙ ap (first_some (row_at m rows)) (go (bytes_eq n m) refl)
  where
    go : (b : Bool) → bytes_eq n m ≡ b → first_some (row_if b (default_row n)) (row_if (is_one_of names m) (default_row m)) ≡ row_if (b || is_one_of names m) (default_row m)
    go true e = ap (λ t. Some (default_row t)) ((bytes_eq-Decides n m).0 e)
    go false e = refl

valued_filled : (m : Text) (names flags : List Text) (rows : List Row) → row_at m (fold with_default rows (valued_rules names flags)) ≡ first_some (row_at m rows) (row_if (is_one_of flags m) (default_row m))
valued_filled m [] flags rows = flags_filled m flags rows
valued_filled m (n ∷ names) flags rows = ap (λ rs. row_at m (fold with_default rs (valued_rules names flags))) (no_default n rows) ∙ valued_filled m names flags rows

-- ---- what is read of the rows

first_value_in : (name : Text) (parts : List Part) (usage : Usage) → is_flag usage name ≡ false → are_right usage parts ≡ true → option_and_then (λ r. slice_get r.values 0) (given name parts) ≡ value_of name parts
first_value_in name [] usage free right = refl
first_value_in name (Flagged n ∷ parts) usage free right =
    let first = both _ _ right in
    ap (λ b. option_and_then (λ r. slice_get r.values 0) (first_some (row_if b (flag_row n)) (given name parts))) (apart_from usage.flags n name first.0 free)
    ∙ first_value_in name parts usage free (both _ _ first.1).1
first_value_in name (Valued n v ∷ parts) usage free right = go (bytes_eq n name) (first_value_in name parts usage free (both _ _ (both _ _ right).1).1)
  where
    go : (b : Bool) → option_and_then (λ r. slice_get r.values 0) (given name parts) ≡ value_of name parts
        → option_and_then (λ r. slice_get r.values 0) (first_some (row_if b (value_row n v)) (given name parts)) ≡ cond b (Some v) (value_of name parts)
    go true rest = refl
    go false rest = rest
first_value_in name (Refused ∷ parts) usage free right = absurd (true≢false (sym right))
first_value_in name (Other word ∷ parts) usage free right = first_value_in name parts usage free right

flag_in : (name : Text) (parts : List Part) (usage : Usage) → takes_value usage name ≡ false → are_right usage parts ≡ true
    → option_and_then row_text (first_some (given name parts) (Some (default_row name))) ≡ Some (cond (is_given name parts) (codes "true") (codes "false"))
flag_in name [] usage free right = refl
flag_in name (Valued n v ∷ parts) usage free right =
    let first = both _ _ right in
    ap (λ b. option_and_then row_text (first_some (first_some (row_if b (value_row n v)) (given name parts)) (Some (default_row name)))) (apart_from usage.valued n name first.0 free)
    ∙ flag_in name parts usage free (both _ _ first.1).1
    ∙ ap (λ b. Some (cond (b || is_given name parts) (codes "true") (codes "false"))) (sym (apart_from usage.valued n name first.0 free))
flag_in name (Flagged n ∷ parts) usage free right = go (bytes_eq n name) (flag_in name parts usage free (both _ _ (both _ _ right).1).1)
  where
    go : (b : Bool) → option_and_then row_text (first_some (given name parts) (Some (default_row name))) ≡ Some (cond (is_given name parts) (codes "true") (codes "false"))
        → option_and_then row_text (first_some (first_some (row_if b (flag_row n)) (given name parts)) (Some (default_row name))) ≡ Some (cond (b || is_given name parts) (codes "true") (codes "false"))
    go true rest = refl
    go false rest = rest
flag_in name (Refused ∷ parts) usage free right = absurd (true≢false (sym right))
flag_in name (Other word ∷ parts) usage free right = flag_in name parts usage free right

values_of : (rows : List Row) → unwrap_or (all_of words_id rows) [] ≡ values_at words_id rows
values_of rows = go (row_at words_id rows)
  where
    go : (o : Option Row) → unwrap_or (option_map (λ r. r.values) o) [] ≡ option_map_or (λ r. r.values) o []
    go None = refl
    go (Some r) = refl

module _ (name : Text) (usage : Usage) (apart : Apart usage) (parts : List Part) (after : List Row) (taken : done name usage apart parts [] ≡ Some after) where
  abbrev filled_after : List Row
  filled_after = fold with_default after (rules_of usage)

  right_is : are_right usage parts ≡ true
  right_is = sym (taken_right name usage apart parts) ∙ ap is_some taken

  row_is : (n : Text) → bytes_eq words_id n ≡ false → row_at n filled_after ≡ first_some (given n parts) (row_if (is_flag usage n) (default_row n))
  row_is n other = valued_filled n usage.valued usage.flags after ∙ ap (λ o. first_some o (row_if (is_flag usage n) (default_row n))) (done_given name usage apart n other parts [] after taken)

  -- the rows tell the parts
  pub tells : Tells usage parts filled_after
  tells = record {
    right = right_is;
    valued = λ n takes.
        let no_flag = apart.disjoint n takes in
        let other = bytes_sym words_id n ∙ apart_from usage.valued n words_id takes apart.valued in
        ap (option_and_then (λ (r : Row). slice_get r.values 0)) (row_is n other ∙ ap (λ b. first_some (given n parts) (row_if b (default_row n))) no_flag ∙ first_none (given n parts))
        ∙ first_value_in n parts usage no_flag right_is;
    flags = λ n flag.
        let other = bytes_sym words_id n ∙ apart_from usage.flags n words_id flag apart.flags in
        ap (option_and_then row_text) (row_is n other ∙ ap (λ b. first_some (given n parts) (row_if b (default_row n))) flag)
        ∙ flag_in n parts usage (no_value n flag (takes_value usage n) refl) right_is;
    words = values_of filled_after
        ∙ ap (λ o. option_map_or (λ (r : Row). r.values) o []) (valued_filled words_id usage.valued usage.flags after ∙ ap (λ b. first_some (row_at words_id after) (row_if b (default_row words_id))) apart.flags ∙ first_none (row_at words_id after))
        ∙ done_others name usage apart parts [] after taken;
  }
    where
      no_value : (n : Text) → is_flag usage n ≡ true → (b : Bool) → takes_value usage n ≡ b → takes_value usage n ≡ false
      no_value n flag false e = e
      no_value n flag true e = absurd (true≢false (sym flag ∙ apart.disjoint n e))
