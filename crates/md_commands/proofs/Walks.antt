-- What clap's walk over the words after a command comes to.
use Rattle.std.proofs.Common.{◌≡◌, refl, sym, ap, ◌∙◌, subst, ℕ, Bool, true, false, cond, ◌==◌, ◌&&◌, ◌||◌, List, [], ◌∷◌, Option, None, Some, codes, arith, true≢false}
use Rattle.std.proofs.lemmas.Slice.Eq.{bytes_eq-Decides}
use Rattle.std.proofs.lemmas.Bool.Decides.{nat_tests}
use Rattle.std.specs.Prelude.{is_some, fold, length, drop, slice_get, nat_lt}
use Rattle.std.specs.Char.{encode_utf8}
use Rattle.std.specs.Str.{encode_utf8_all}
use Rattle.std.specs.List.{before_first}
use Rattle.std.specs.Option.{option_map_or}
use Rattle.std.specs.Str.{bytes_eq, chars, is_utf8}
use Rattle.clap.specs.Walk.{Rule, Row, Held, Walk, Waiting, Step, idle, option, positional, next, trailing, value, settled, used_by_id, is_pending, to_positional, pushed, used, walked, after_step, arg_by_id, arg_by_long, arg_by_short, arg_by_index, after_flag, long_met, long_or_other, short_or_plain, option_word}
use Rattle.clap.specs.Lexer.{long_of, short_of, name_and_value}
use Rattle.clap.specs.Simple.{Shape, new_rule, new_shape}
use Rattle.clap.specs.Faults.{settle_fault, use_fault, walk_fault, turn_fault, step_fault, stray_fault, positional_fault, long_fault, flag_word_fault, bundle_fault, bundle_step_fault, short_fault, flags_fault}
use Rattle.clap.specs.Kinds.{Kinds, or_else}
use Rattle.clap.specs.declared.builder.action.ArgAction.TheVariants.{Set, Append, SetTrue}
use Rattle.clap.specs.declared.builder.value_parser.ValueParser.TheVariants as vp
use Rattle.md_commands.specs.Lines.{words_id}
use Rattle.md_commands.specs.Parts.{Text, Usage, is_one_of, takes_value, is_flag, Kind, Dashes, Long, Short, Plain, Part, Flagged, Valued, Refused, Other, Front, Value, Rest, kind_of, behind_equals, parts_from, part_at, after, with_part}

-- ---- the arguments of a command

abbrev pub value_rule : Text → Rule
value_rule name = record (new_rule name) {
  long = Some name;
  action = Some Set;
  range = Some (record { start_inclusive = 1; end_inclusive = 1 });
  parser = Some vp.String;
}

abbrev pub flag_rule : Text → Rule
flag_rule name = record (new_rule name) {
  long = Some name;
  action = Some SetTrue;
  range = Some (record { start_inclusive = 0; end_inclusive = 0 });
  defaults = codes "false" ∷ [];
  missing = codes "true" ∷ [];
  parser = Some vp.Bool;
}

abbrev pub words_rule : Rule
words_rule = record (new_rule words_id) {
  index = Some 1;
  action = Some Append;
  range = Some (record { start_inclusive = 1; end_inclusive = 1 });
  parser = Some vp.String;
}

abbrev pub flag_rules : List Text → List Rule
flag_rules [] = words_rule ∷ []
flag_rules (name ∷ names) = flag_rule name ∷ flag_rules names

abbrev pub valued_rules : List Text → List Text → List Rule
valued_rules [] flags = flag_rules flags
valued_rules (name ∷ names) flags = value_rule name ∷ valued_rules names flags

-- the arguments of a command as clap builds them: its options, and the other words
abbrev pub rules_of : Usage → List Rule
rules_of usage = valued_rules usage.valued usage.flags

-- the command as clap builds it
abbrev pub leaf : Text → Usage → Shape
leaf name usage = record (new_shape name) {
  rules = rules_of usage;
  no_binary_name = true;
  disable_help_flag = true;
  disable_help_subcommand = true;
  is_built = true;
}

-- ---- what is looked up

abbrev rule_named : Usage → Text → Option Rule
rule_named usage name = cond (takes_value usage name) (Some (value_rule name)) (cond (is_flag usage name) (Some (flag_rule name)) None)

-- equal texts, as a test says
pub same_text : (m n : Text) → bytes_eq m n ≡ true → m ≡ n
same_text m n e = (bytes_eq-Decides m n).0 e

same_self : (n : Text) → bytes_eq n n ≡ true
same_self n = (bytes_eq-Decides n n).1 refl

long_flag : (names : List Text) (name : Text) → arg_by_long (flag_rules names) name ≡ cond (is_one_of names name) (Some (flag_rule name)) None
long_flag [] name = refl
long_flag (m ∷ ms) name = go (long_flag ms name) (bytes_eq m name) refl
  where
    go : arg_by_long (flag_rules ms) name ≡ cond (is_one_of ms name) (Some (flag_rule name)) None → (b : Bool) → bytes_eq m name ≡ b → cond (b || false) (Some (flag_rule m)) (arg_by_long (flag_rules ms) name) ≡ cond (b || is_one_of ms name) (Some (flag_rule name)) None
    go rest true e = ap (λ (t : Text). Some (flag_rule t)) (same_text m name e)
    go rest false e = rest

long_valued : (names flags : List Text) (name : Text) → arg_by_long (valued_rules names flags) name ≡ rule_named (record { valued = names; flags = flags }) name
long_valued [] flags name = long_flag flags name
long_valued (m ∷ ms) flags name = go (long_valued ms flags name) (bytes_eq m name) refl
  where
    go : arg_by_long (valued_rules ms flags) name ≡ rule_named (record { valued = ms; flags = flags }) name → (b : Bool) → bytes_eq m name ≡ b → cond (b || false) (Some (value_rule m)) (arg_by_long (valued_rules ms flags) name) ≡ cond (b || is_one_of ms name) (Some (value_rule name)) (cond (is_one_of flags name) (Some (flag_rule name)) None)
    go rest true e = ap (λ (t : Text). Some (value_rule t)) (same_text m name e)
    go rest false e = rest

long_is : (usage : Usage) (name : Text) → arg_by_long (rules_of usage) name ≡ rule_named usage name
long_is usage name = long_valued usage.valued usage.flags name

short_flag : (names : List Text) (x : ℕ) → arg_by_short (flag_rules names) x ≡ None
short_flag [] x = refl
short_flag (m ∷ ms) x = short_flag ms x

short_valued : (names flags : List Text) (x : ℕ) → arg_by_short (valued_rules names flags) x ≡ None
short_valued [] flags x = short_flag flags x
short_valued (m ∷ ms) flags x = short_valued ms flags x

-- no option has a short name
no_short : (usage : Usage) (x : ℕ) → arg_by_short (rules_of usage) x ≡ None
no_short usage x = short_valued usage.valued usage.flags x

id_valued : (names flags : List Text) (name : Text) → is_one_of names name ≡ true → arg_by_id (valued_rules names flags) name ≡ Some (value_rule name)
id_valued [] flags name e = absurd (true≢false (sym e))
id_valued (m ∷ ms) flags name e = go (id_valued ms flags name) (bytes_eq m name) refl e
  where
    go : (is_one_of ms name ≡ true → arg_by_id (valued_rules ms flags) name ≡ Some (value_rule name)) → (b : Bool) → bytes_eq m name ≡ b → (b || is_one_of ms name) ≡ true → cond b (Some (value_rule m)) (arg_by_id (valued_rules ms flags) name) ≡ Some (value_rule name)
    go rest true is h = ap (λ (t : Text). Some (value_rule t)) (same_text m name is)
    go rest false is h = rest h

id_is : (usage : Usage) (name : Text) → takes_value usage name ≡ true → arg_by_id (rules_of usage) name ≡ Some (value_rule name)
id_is usage name e = id_valued usage.valued usage.flags name e

place_flag : (names : List Text) → arg_by_index (flag_rules names) 1 ≡ Some words_rule
place_flag [] = refl
place_flag (m ∷ ms) = place_flag ms

place_valued : (names flags : List Text) → arg_by_index (valued_rules names flags) 1 ≡ Some words_rule
place_valued [] flags = place_flag flags
place_valued (m ∷ ms) flags = place_valued ms flags

place_is : (usage : Usage) → arg_by_index (rules_of usage) 1 ≡ Some words_rule
place_is usage = place_valued usage.valued usage.flags

words_flag : (names : List Text) → is_one_of names words_id ≡ false → arg_by_id (flag_rules names) words_id ≡ Some words_rule
words_flag [] e = refl
words_flag (m ∷ ms) e = go (words_flag ms) (bytes_eq m words_id) e
  where
    go : (is_one_of ms words_id ≡ false → arg_by_id (flag_rules ms) words_id ≡ Some words_rule) → (b : Bool) → (b || is_one_of ms words_id) ≡ false → cond b (Some (flag_rule m)) (arg_by_id (flag_rules ms) words_id) ≡ Some words_rule
    go rest true h = absurd (true≢false h)
    go rest false h = rest h

words_valued : (names flags : List Text) → is_one_of names words_id ≡ false → is_one_of flags words_id ≡ false → arg_by_id (valued_rules names flags) words_id ≡ Some words_rule
words_valued [] flags e f = words_flag flags f
words_valued (m ∷ ms) flags e f = go (λ h. words_valued ms flags h f) (bytes_eq m words_id) e
  where
    go : (is_one_of ms words_id ≡ false → arg_by_id (valued_rules ms flags) words_id ≡ Some words_rule) → (b : Bool) → (b || is_one_of ms words_id) ≡ false → cond b (Some (value_rule m)) (arg_by_id (valued_rules ms flags) words_id) ≡ Some words_rule
    go rest true h = absurd (true≢false h)
    go rest false h = rest h

-- no option has the id of the other words, and none is of both kinds
pub record Apart (usage : Usage) : Type 0 where
  pub valued : is_one_of usage.valued words_id ≡ false
  pub flags : is_one_of usage.flags words_id ≡ false
  pub disjoint : (name : Text) → takes_value usage name ≡ true → is_flag usage name ≡ false

words_is : (usage : Usage) → Apart usage → arg_by_id (rules_of usage) words_id ≡ Some words_rule
words_is usage apart = words_valued usage.valued usage.flags apart.valued apart.flags

-- ---- faults

abbrev pub well : Kinds → Bool
well [] = true
well (k ∷ ks) = false

pub well_end : (a : Kinds) → well (or_else a []) ≡ well a
well_end [] = refl
well_end (k ∷ ks) = refl

-- ---- words, as clap sees them

pub data Look (word : Text) : Type 0 where
  dashes : bytes_eq word (45 ∷ 45 ∷ []) ≡ true → kind_of word ≡ Dashes → Look word
  long : (x : ℕ) (xs : Text) → bytes_eq word (45 ∷ 45 ∷ []) ≡ false → long_of word ≡ Some (name_and_value (x ∷ xs)) → kind_of word ≡ Long (before_first (λ b. b == 61) (x ∷ xs)) (behind_equals (x ∷ xs)) → Look word
  short : (x : ℕ) (xs : Text) → word ≡ 45 ∷ x ∷ xs → bytes_eq word (45 ∷ 45 ∷ []) ≡ false → long_of word ≡ None → short_of word ≡ Some (x ∷ xs) → kind_of word ≡ Short → Look word
  plain : bytes_eq word (45 ∷ 45 ∷ []) ≡ false → long_of word ≡ None → short_of word ≡ None → kind_of word ≡ Plain → Look word

nat_is : (a b : ℕ) → (a == b) ≡ true → a ≡ b
nat_is a b e = grind (arith, nat_tests, e)

behind_first : (xs : Text) → Look (45 ∷ xs)
behind_first [] = plain refl refl refl refl
behind_first (x ∷ xs) = go (x == 45) refl
  where
    two : (ys : Text) → Look (45 ∷ 45 ∷ ys)
    two [] = dashes refl refl
    two (y ∷ ys) = long y ys refl refl refl

    go : (b : Bool) → (x == 45) ≡ b → Look (45 ∷ x ∷ xs)
    go true e = subst (λ n. Look (45 ∷ n ∷ xs)) (sym (nat_is x 45 e)) (two xs)
    go false e = short x xs refl (rw e refl) (rw e refl) (rw e refl) (rw e refl)

pub look : (word : Text) → Look word
look [] = plain refl refl refl refl
look (x ∷ xs) = go (x == 45) refl
  where
    go : (b : Bool) → (x == 45) ≡ b → Look (x ∷ xs)
    go true e = subst (λ n. Look (n ∷ xs)) (sym (nat_is x 45 e)) (behind_first xs)
    go false e = plain (rw e refl) (rw e refl) (rw e refl) (rw e refl)

and_right : (a b : Bool) → (a && b) ≡ true → b ≡ true
and_right true b e = e
and_right false b e = absurd (true≢false (sym e))

-- a dash and no character spell no longer text
no_char : (cs : List ℕ) (x : ℕ) (xs : Text) → slice_get cs 0 ≡ None → bytes_eq (encode_utf8_all (45 ∷ cs)) (45 ∷ x ∷ xs) ≡ true → ⊥
unfolding encode_utf8
no_char [] x xs none e = true≢false (sym e)
no_char (y ∷ ys) x xs none e = true≢false (ap is_some none)

-- ---- the walk

abbrev pub walk_end : Shape → Walk → List Text → Walk
walk_end s w words = fold (walked s.rules []) w words

-- the rows after the words, with what waits put in; None where a step fails
abbrev pub ended : Shape → Walk → List Text → Option (List Row)
ended s w words = cond (well (or_else (walk_fault s [] w words) (settle_fault s.rules false (walk_end s w words).held))) (Some (settled s.rules (walk_end s w words).held).rows) None

both_well : (a b d : Kinds) (r : Option (List Row)) → cond (well (or_else (or_else a b) d)) r None ≡ cond (well a) (cond (well (or_else b d)) r None) None
both_well [] b d r = refl
both_well (k ∷ ks) b d r = refl

ended_cons : (s : Shape) (w : Walk) (word : Text) (words : List Text) → ended s w (word ∷ words) ≡ cond (well (turn_fault s [] w word)) (ended s (walked s.rules [] w word) words) None
unfolding walk_fault
ended_cons s w word words = both_well (turn_fault s [] w word) (walk_fault s [] (walked s.rules [] w word) words) (settle_fault s.rules false (walk_end s (walked s.rules [] w word) words).held) _

-- a walk that has met no subcommand
abbrev at : List Row → Option (Text × List Text) → Waiting → Bool → Walk
at rows pending waiting is_trailing = record {
  held = record { rows = rows; pending = pending; skip = 0 };
  waiting = waiting;
  position = 1;
  is_trailing = is_trailing;
  stopped = None;
}

abbrev no_rows : Option (List Row)
no_rows = None

some_char : (x : ℕ) (xs : Text) → is_utf8 (45 ∷ x ∷ xs) ≡ true → slice_get (chars (x ∷ xs)) 0 ≡ None → ⊥
unfolding chars is_utf8
some_char x xs is none = no_char (chars (x ∷ xs)) x xs none (and_right _ _ is)

-- where no option has a short name, one is a fault
pub short_bad : (c : List Rule) → ((y : ℕ) → arg_by_short c y ≡ None) → (x : ℕ) (xs : Text) (h : Held) → h.skip ≡ 0 → is_utf8 (45 ∷ x ∷ xs) ≡ true → well (bundle_fault c false (x ∷ xs) h) ≡ false
unfolding flags_fault
short_bad c no_short x xs h none is = go (slice_get (chars (x ∷ xs)) 0) refl
  where
    go : (o : Option ℕ) → slice_get (chars (x ∷ xs)) 0 ≡ o → well (bundle_fault c false (x ∷ xs) h) ≡ false
    go None e = absurd (some_char x xs is e)
    go (Some y) e =
        ap (λ k. well (bundle_step_fault c false (slice_get (chars (x ∷ xs)) 0) (x ∷ xs) k (record h { skip = 0 }) (flags_fault c false (length xs)))) none
        ∙ ap (λ p. well (bundle_step_fault c false p (x ∷ xs) 0 (record h { skip = 0 }) (flags_fault c false (length xs)))) e
        ∙ ap (λ a. well (short_fault c false a (drop (length (encode_utf8 y)) (x ∷ xs)) (record h { skip = 0 }) (flags_fault c false (length xs) (drop (length (encode_utf8 y)) (x ∷ xs)) 0))) (no_short y)

-- ---- what is refused

pub bad_left : (a b : Kinds) (r : Option (List Row)) → well a ≡ false → cond (well (or_else a b)) r None ≡ None
bad_left [] b r e = absurd (true≢false e)
bad_left (k ∷ ks) b r e = refl

pub bad_or : (a b : Kinds) → well a ≡ false → well (or_else a b) ≡ false
bad_or [] b e = absurd (true≢false e)
bad_or (k ∷ ks) b e = refl

never : (b : Bool) → no_rows ≡ cond b no_rows no_rows
never true = refl
never false = refl

-- the words are texts
abbrev pub AreTexts : List Text → Type 0
AreTexts [] = Unit {0}
AreTexts (word ∷ words) = (is_utf8 word ≡ true) × AreTexts words

module _ (name : Text) (usage : Usage) (apart : Apart usage) where
  abbrev s : Shape
  s = leaf name usage

  abbrev c : List Rule
  c = rules_of usage

  -- the rows that the parts add to rows; None where an option may not come
  abbrev pub done : List Part → List Row → Option (List Row)
  done [] rows = Some rows
  done (Flagged n ∷ parts) rows = cond (is_flag usage n) (cond (well (use_fault false (flag_rule n) [] rows)) (done parts (used (flag_rule n) [] rows)) None) None
  done (Valued n v ∷ parts) rows = cond (takes_value usage n) (cond (well (use_fault false (value_rule n) (v ∷ []) rows)) (done parts (used (value_rule n) (v ∷ []) rows)) None) None
  done (Refused ∷ parts) rows = None
  done (Other word ∷ parts) rows = done parts (used words_rule (word ∷ []) rows)

  -- what is held before words, with what comes of them
  abbrev Goes : Walk → List Text → List Part → Type 0
  Goes w words parts = ended s w words ≡ cond (well (settle_fault c false w.held)) (done parts (settled c w.held).rows) None

  abbrev after_use : List Row → Text → List Part → Option Rule → Option (List Row)
  after_use rows word parts o = cond (well (option_map_or (λ a. use_fault false a (word ∷ []) rows) o [])) (done parts (used_by_id o (word ∷ []) rows)) None

  -- after a word that goes to the ordinary ones
  after_words : (rows : List Row) (word : Text) (words : List Text) (parts : List Part) (is_trailing : Bool)
      → Goes (at rows (Some (words_id, word ∷ [])) positional is_trailing) words parts
      → ended s (at rows (Some (words_id, word ∷ [])) positional is_trailing) words ≡ done parts (used words_rule (word ∷ []) rows)
  after_words rows word words parts is_trailing goes = goes ∙ ap (after_use rows word parts) (words_is usage apart)

  abbrev by_rule : Walk → Text → List Text → Option Rule → Option (List Row)
  by_rule w word words o = cond (well (option_map_or (λ a. positional_fault c false a w.held) o (stray_fault s))) (ended s (to_positional c o word w w.held) words) None

  abbrev placed_at : Held → Text → List Text → (is_pending is_trailing : Bool) → Option (List Row)
  placed_at h word words b t = cond (well (cond (b && false) [] (settle_fault c false h))) (ended s (record {
    held = pushed words_id word (cond (b && false) h (settled c h));
    waiting = positional;
    position = 1;
    is_trailing = t || false;
    stopped = None;
  }) words) None

  by_pending : (h : Held) (word : Text) (words : List Text) (b t : Bool) → placed_at h word words b t ≡ cond (well (settle_fault c false h)) (ended s (record {
    held = pushed words_id word (settled c h);
    waiting = positional;
    position = 1;
    is_trailing = t;
    stopped = None;
  }) words) None
  by_pending h word words true true = refl
  by_pending h word words true false = refl
  by_pending h word words false true = refl
  by_pending h word words false false = refl

  -- a word goes to the ordinary ones
  placed : (rows : List Row) (pending : Option (Text × List Text)) (waiting : Waiting) (is_trailing : Bool) (word : Text) (words : List Text) (parts : List Part)
      → ((rows : List Row) → Goes (at rows (Some (words_id, word ∷ [])) positional is_trailing) words parts)
      → cond (well (step_fault s 1 (at rows pending waiting is_trailing).held value)) (ended s (after_step c word (at rows pending waiting is_trailing) (at rows pending waiting is_trailing).held value) words) None
      ≡ cond (well (settle_fault c false (at rows pending waiting is_trailing).held)) (done (Other word ∷ parts) (settled c (at rows pending waiting is_trailing).held).rows) None
  placed rows pending waiting is_trailing word words parts goes =
      let h = (at rows pending waiting is_trailing).held in
      ap (by_rule (at rows pending waiting is_trailing) word words) (place_is usage) ∙ by_pending h word words (is_pending words_rule pending) is_trailing
      ∙ ap (λ o. cond (well (settle_fault c false h)) o None) (after_words (settled c h).rows word words parts is_trailing (goes (settled c h).rows))

  -- behind `--` each word is an ordinary one
  rest_goes : (words : List Text) (rows : List Row) (pending : Option (Text × List Text)) (waiting : Waiting) → Goes (at rows pending waiting true) words (parts_from usage Rest words)
  unfolding walk_fault walked
  rest_goes [] rows pending waiting = refl
  rest_goes (word ∷ words) rows pending waiting =
      ended_cons s (at rows pending waiting true) word words
      ∙ placed rows pending waiting true word words (parts_from usage Rest words) (λ rs. rest_goes words rs (Some (words_id, word ∷ [])) positional)

  -- ---- a word before `--`, by what clap makes of it

  abbrev met_by : Waiting → Text → Held → Bool → Option (Text × Option Text) → Held × Step
  met_by waiting word h dash l = cond dash (h, trailing 1) (long_or_other c waiting word l h)

  abbrev turned : Kinds → Walk → Text → List Text → Held × Step → Option (List Row)
  turned fault w word words met = cond (well (or_else fault (step_fault s 1 met.0 met.1))) (ended s (after_step c word w met.0 met.1) words) None

  -- the turn of a word, where it is `--` or not, and begins with two dashes or not
  abbrev by_dash : Walk → Text → List Text → Bool → Option (Text × Option Text) → Option (List Row)
  by_dash w word words dash l = turned (cond dash [] (flag_word_fault c false l word w.held)) w word words (met_by w.waiting word w.held dash l)

  abbrev by_long : Walk → Text → List Text → Option Text → Option Rule → Option (List Row)
  by_long w word words v o = turned (long_fault c false o v w.held) w word words (after_flag c w.waiting word (long_met c o v w.held).0 (long_met c o v w.held).1)

  abbrev by_short : Walk → Text → List Text → Option Text → Option (List Row)
  by_short w word words sh = turned (option_map_or (λ flags. bundle_fault c false flags w.held) sh []) w word words (short_or_plain c w.waiting word sh w.held)

  front_turn : (rows : List Row) (pending : Option (Text × List Text)) (waiting : Waiting) (word : Text) (words : List Text)
      → ended s (at rows pending waiting false) (word ∷ words) ≡ by_dash (at rows pending waiting false) word words (bytes_eq word (45 ∷ 45 ∷ [])) (long_of word)
  unfolding walked
  front_turn rows pending idle word words = ended_cons s (at rows pending idle false) word words
  front_turn rows pending positional word words = ended_cons s (at rows pending positional false) word words
  front_turn rows pending (option id) word words = ended_cons s (at rows pending (option id) false) word words

  dash_turn : (rows : List Row) (pending : Option (Text × List Text)) (waiting : Waiting) (word : Text) (words : List Text) → bytes_eq word (45 ∷ 45 ∷ []) ≡ true
      → ended s (at rows pending waiting false) (word ∷ words) ≡ ended s (at rows pending waiting true) words
  dash_turn rows pending waiting word words is = front_turn rows pending waiting word words ∙ ap (λ d. by_dash (at rows pending waiting false) word words d (long_of word)) is

  long_turn : (rows : List Row) (pending : Option (Text × List Text)) (waiting : Waiting) (word name : Text) (v : Option Text) (words : List Text) → bytes_eq word (45 ∷ 45 ∷ []) ≡ false → long_of word ≡ Some (name, v)
      → ended s (at rows pending waiting false) (word ∷ words) ≡ by_long (at rows pending waiting false) word words v (rule_named usage name)
  long_turn rows pending waiting word name v words is long_is' =
      front_turn rows pending waiting word words ∙ ap (λ d. by_dash (at rows pending waiting false) word words d (long_of word)) is
      ∙ ap (by_dash (at rows pending waiting false) word words false) long_is' ∙ ap (by_long (at rows pending waiting false) word words v) (long_is usage name)

  short_turn : (rows : List Row) (pending : Option (Text × List Text)) (waiting : Waiting) (word : Text) (sh : Option Text) (words : List Text) → bytes_eq word (45 ∷ 45 ∷ []) ≡ false → long_of word ≡ None → short_of word ≡ sh
      → ended s (at rows pending waiting false) (word ∷ words) ≡ by_short (at rows pending waiting false) word words sh
  short_turn rows pending waiting word sh words is no_long is_short =
      front_turn rows pending waiting word words ∙ ap (λ d. by_dash (at rows pending waiting false) word words d (long_of word)) is
      ∙ ap (by_dash (at rows pending waiting false) word words false) no_long ∙ ap (by_short (at rows pending waiting false) word words) is_short

  -- ---- options

  react_well : (a b : Kinds) (r : Option (List Row)) → cond (well (or_else (or_else a b) [])) r None ≡ cond (well a) (cond (well b) r None) None
  react_well [] b r = ap (λ t. cond t r None) (well_end b)
  react_well (k ∷ ks) b r = refl

  abbrev Fronts : List Text → Type 0
  Fronts words = (rows : List Row) (pending : Option (Text × List Text)) (b : Bool) → Goes (at rows pending (cond b positional idle) false) words (parts_from usage Front words)

  abbrev Values : List Text → Type 0
  Values words = (rows : List Row) (n : Text) → takes_value usage n ≡ true → ended s (at rows (Some (n, [])) (option n) false) words ≡ done (parts_from usage (Value n) words) rows

  -- what a word of this kind comes to, where any may stand
  abbrev front_of : Walk → Text → List Text → Kind → Option (List Row)
  front_of w word words kind = cond (well (settle_fault c false w.held)) (done (with_part (part_at usage Front word kind) (parts_from usage (after usage Front kind) words)) (settled c w.held).rows) None

  abbrev named_by : Text → Bool → Bool → Option Rule
  named_by n t f = cond t (Some (value_rule n)) (cond f (Some (flag_rule n)) None)

  named_is : (n : Text) (t f : Bool) → takes_value usage n ≡ t → is_flag usage n ≡ f → rule_named usage n ≡ named_by n t f
  named_is n t f takes flag = ap (λ b. named_by n b (is_flag usage n)) takes ∙ ap (named_by n t) flag

  -- an option with what stands behind its `=`
  front_equals : (rows : List Row) (pending : Option (Text × List Text)) (b : Bool) (word n v : Text) (words : List Text) (t f : Bool) → Fronts words → takes_value usage n ≡ t → is_flag usage n ≡ f
      → by_long (at rows pending (cond b positional idle) false) word words (Some v) (named_by n t f) ≡ front_of (at rows pending (cond b positional idle) false) word words (Long n (Some v))
  front_equals rows pending b word n v words true f goes takes flag =
      let h = (at rows pending (cond b positional idle) false).held in
      let rs = (settled c h).rows in
      let u = use_fault false (value_rule n) (v ∷ []) rs in
      react_well (settle_fault c false h) u _ ∙ ap (λ o. cond (well (settle_fault c false h)) (cond (well u) o None) None) (goes (used (value_rule n) (v ∷ []) rs) None false)
      ∙ ap (λ t. cond (well (settle_fault c false h)) (cond t (cond (well u) (done (parts_from usage Front words) (used (value_rule n) (v ∷ []) rs)) None) None) None) (sym takes)
  front_equals rows pending b word n v words false true goes takes flag =
      let h = (at rows pending (cond b positional idle) false).held in
      let rs = (settled c h).rows in
      never (well (settle_fault c false h))
      ∙ ap (λ t. cond (well (settle_fault c false h)) (cond t (cond (well (use_fault false (value_rule n) (v ∷ []) rs)) (done (parts_from usage Front words) (used (value_rule n) (v ∷ []) rs)) None) None) None) (sym takes)
  front_equals rows pending b word n v words false false goes takes flag =
      let h = (at rows pending (cond b positional idle) false).held in
      let rs = (settled c h).rows in
      never (well (settle_fault c false h))
      ∙ ap (λ t. cond (well (settle_fault c false h)) (cond t (cond (well (use_fault false (value_rule n) (v ∷ []) rs)) (done (parts_from usage Front words) (used (value_rule n) (v ∷ []) rs)) None) None) None) (sym takes)

  -- an option's name alone
  front_bare : (rows : List Row) (pending : Option (Text × List Text)) (b : Bool) (word n : Text) (words : List Text) (t f : Bool) → Fronts words → Values words → takes_value usage n ≡ t → is_flag usage n ≡ f
      → by_long (at rows pending (cond b positional idle) false) word words None (named_by n t f) ≡ front_of (at rows pending (cond b positional idle) false) word words (Long n None)
  front_bare rows pending b word n words true f goes waits takes flag =
      let h = (at rows pending (cond b positional idle) false).held in
      let rs = (settled c h).rows in
      ap (λ t. cond t (ended s (at rs (Some (n, [])) (option n) false) words) None) (well_end (settle_fault c false h))
      ∙ ap (λ o. cond (well (settle_fault c false h)) o None) (waits rs n takes)
      ∙ ap (λ t. cond (well (settle_fault c false h)) (done (with_part (cond t None (Some (Flagged n))) (parts_from usage (cond t (Value n) Front) words)) rs) None) (sym takes)
  front_bare rows pending b word n words false true goes waits takes flag =
      let h = (at rows pending (cond b positional idle) false).held in
      let rs = (settled c h).rows in
      let u = use_fault false (flag_rule n) [] rs in
      react_well (settle_fault c false h) u _ ∙ ap (λ o. cond (well (settle_fault c false h)) (cond (well u) o None) None) (goes (used (flag_rule n) [] rs) None false)
      ∙ ap (λ f. cond (well (settle_fault c false h)) (cond f (cond (well u) (done (parts_from usage Front words) (used (flag_rule n) [] rs)) None) None) None) (sym flag)
      ∙ ap (λ t. cond (well (settle_fault c false h)) (done (with_part (cond t None (Some (Flagged n))) (parts_from usage (cond t (Value n) Front) words)) rs) None) (sym takes)
  front_bare rows pending b word n words false false goes waits takes flag =
      let h = (at rows pending (cond b positional idle) false).held in
      let rs = (settled c h).rows in
      let u = use_fault false (flag_rule n) [] rs in
      never (well (settle_fault c false h))
      ∙ ap (λ f. cond (well (settle_fault c false h)) (cond f (cond (well u) (done (parts_from usage Front words) (used (flag_rule n) [] rs)) None) None) None) (sym flag)
      ∙ ap (λ t. cond (well (settle_fault c false h)) (done (with_part (cond t None (Some (Flagged n))) (parts_from usage (cond t (Value n) Front) words)) rs) None) (sym takes)

  front_long : (rows : List Row) (pending : Option (Text × List Text)) (b : Bool) (word n : Text) (v : Option Text) (words : List Text) → Fronts words → Values words
      → by_long (at rows pending (cond b positional idle) false) word words v (rule_named usage n) ≡ front_of (at rows pending (cond b positional idle) false) word words (Long n v)
  front_long rows pending b word n None words goes waits =
      ap (by_long (at rows pending (cond b positional idle) false) word words None) (named_is n (takes_value usage n) (is_flag usage n) refl refl)
      ∙ front_bare rows pending b word n words (takes_value usage n) (is_flag usage n) goes waits refl refl
  front_long rows pending b word n (Some v) words goes waits =
      front_equals rows pending b word n v words (takes_value usage n) (is_flag usage n) goes refl refl

  -- a word where any may stand
  front_word : (rows : List Row) (pending : Option (Text × List Text)) (b : Bool) (word : Text) (words : List Text) → Look word → is_utf8 word ≡ true → Fronts words → Values words
      → ended s (at rows pending (cond b positional idle) false) (word ∷ words) ≡ front_of (at rows pending (cond b positional idle) false) word words (kind_of word)
  front_word rows pending b word words (dashes is kind) text goes waits =
      dash_turn rows pending (cond b positional idle) word words is ∙ rest_goes words rows pending (cond b positional idle)
      ∙ ap (front_of (at rows pending (cond b positional idle) false) word words) (sym kind)
  front_word rows pending b word words (long x xs is is_long kind) text goes waits =
      long_turn rows pending (cond b positional idle) word (before_first (λ b. b == 61) (x ∷ xs)) (behind_equals (x ∷ xs)) words is is_long
      ∙ front_long rows pending b word (before_first (λ b. b == 61) (x ∷ xs)) (behind_equals (x ∷ xs)) words goes waits
      ∙ ap (front_of (at rows pending (cond b positional idle) false) word words) (sym kind)
  front_word rows pending b word words (short x xs same is no_long is_short kind) text goes waits =
      short_turn rows pending (cond b positional idle) word (Some (x ∷ xs)) words is no_long is_short
      ∙ bad_left _ _ _ (short_bad c (no_short usage) x xs (at rows pending (cond b positional idle) false).held refl (subst (λ w. is_utf8 w ≡ true) same text))
      ∙ never (well (settle_fault c false (at rows pending (cond b positional idle) false).held))
      ∙ ap (front_of (at rows pending (cond b positional idle) false) word words) (sym kind)
  front_word rows pending b word words (plain is no_long no_short kind) text goes waits =
      short_turn rows pending (cond b positional idle) word None words is no_long no_short ∙ by b
      ∙ placed rows pending (cond b positional idle) false word words (parts_from usage Front words) (λ rs. goes rs (Some (words_id, word ∷ [])) true)
      ∙ ap (front_of (at rows pending (cond b positional idle) false) word words) (sym kind)
    where
      by : (b : Bool) → by_short (at rows pending (cond b positional idle) false) word words None
          ≡ cond (well (step_fault s 1 (at rows pending (cond b positional idle) false).held value)) (ended s (after_step c word (at rows pending (cond b positional idle) false) (at rows pending (cond b positional idle) false).held value) words) None
      by true = refl
      by false = refl

  -- ---- the value of an option

  abbrev value_of_kind : List Row → Text → Text → List Text → Kind → Option (List Row)
  value_of_kind rows n word words kind = done (with_part (part_at usage (Value n) word kind) (parts_from usage Front words)) rows

  abbrev waiting_at : List Row → Text → Walk
  waiting_at rows n = at rows (Some (n, [])) (option n) false

  -- an option that waits for its value may not be left so
  lacks_value : (rows : List Row) (n : Text) → takes_value usage n ≡ true → well (settle_fault c false (waiting_at rows n).held) ≡ false
  lacks_value rows n takes = ap (λ o. well (option_map_or (λ a. use_fault false a [] rows) o [])) (id_is usage n takes)

  no_option_waiting : (rows : List Row) (n word m : Text) (v : Option Text) (words : List Text) (t f : Bool) → well (settle_fault c false (waiting_at rows n).held) ≡ false
      → by_long (waiting_at rows n) word words v (named_by m t f) ≡ None
  no_option_waiting rows n word m None words true f bad = bad_left _ _ _ bad
  no_option_waiting rows n word m (Some v) words true f bad = bad_left _ _ _ (bad_or _ _ bad)
  no_option_waiting rows n word m None words false true bad = bad_left _ _ _ (bad_or _ _ bad)
  no_option_waiting rows n word m (Some v) words false true bad = refl
  no_option_waiting rows n word m None words false false bad = refl
  no_option_waiting rows n word m (Some v) words false false bad = refl

  -- a word that is no option is the value
  abbrev taken : List Row → Text → Text → List Text → Option Rule → Option (List Row)
  taken rows n word words o = turned [] (waiting_at rows n) word words ((option_word o n word (waiting_at rows n).held).0, next (option_word o n word (waiting_at rows n).held).1)

  abbrev taken_as : List Row → Text → Text → List Text → Bool → Option (List Row)
  taken_as rows n word words same = ended s (at rows (Some (n, word ∷ [])) (cond (nat_lt (cond same 1 0) 1) (option n) idle) false) words

  abbrev used_at : List Row → Text → Text → List Part → Option Rule → Option (List Row)
  used_at rows n word parts o = cond (well (option_map_or (λ a. use_fault false a (word ∷ []) rows) o [])) (done parts (used_by_id o (word ∷ []) rows)) None

  value_word : (rows : List Row) (n word : Text) (words : List Text) → Look word → is_utf8 word ≡ true → takes_value usage n ≡ true → Fronts words
      → ended s (waiting_at rows n) (word ∷ words) ≡ value_of_kind rows n word words (kind_of word)
  value_word rows n word words (dashes is kind) text takes goes =
      dash_turn rows (Some (n, [])) (option n) word words is ∙ rest_goes words rows (Some (n, [])) (option n)
      ∙ ap (λ b. cond b (done (parts_from usage Rest words) (settled c (waiting_at rows n).held).rows) None) (lacks_value rows n takes)
      ∙ ap (value_of_kind rows n word words) (sym kind)
  value_word rows n word words (long x xs is is_long kind) text takes goes =
      long_turn rows (Some (n, [])) (option n) word (before_first (λ b. b == 61) (x ∷ xs)) (behind_equals (x ∷ xs)) words is is_long
      ∙ no_option_waiting rows n word (before_first (λ b. b == 61) (x ∷ xs)) (behind_equals (x ∷ xs)) words (takes_value usage _) (is_flag usage _) (lacks_value rows n takes)
      ∙ ap (value_of_kind rows n word words) (sym kind)
  value_word rows n word words (short x xs same is no_long is_short kind) text takes goes =
      short_turn rows (Some (n, [])) (option n) word (Some (x ∷ xs)) words is no_long is_short
      ∙ bad_left _ _ _ (short_bad c (no_short usage) x xs (waiting_at rows n).held refl (subst (λ w. is_utf8 w ≡ true) same text))
      ∙ ap (value_of_kind rows n word words) (sym kind)
  value_word rows n word words (plain is no_long no_short kind) text takes goes =
      short_turn rows (Some (n, [])) (option n) word None words is no_long no_short
      ∙ ap (taken rows n word words) (id_is usage n takes) ∙ ap (taken_as rows n word words) (same_self n)
      ∙ goes rows (Some (n, word ∷ [])) false ∙ ap (used_at rows n word (parts_from usage Front words)) (id_is usage n takes)
      ∙ ap (λ t. cond t (used_at rows n word (parts_from usage Front words) (Some (value_rule n))) None) (sym takes)
      ∙ ap (value_of_kind rows n word words) (sym kind)

  value_end : (rows : List Row) (n : Text) → takes_value usage n ≡ true → ended s (waiting_at rows n) [] ≡ None
  unfolding walk_fault
  value_end rows n takes = ap (λ b. cond b (Some (settled c (waiting_at rows n).held).rows) None) (lacks_value rows n takes)

  front_end : (rows : List Row) (pending : Option (Text × List Text)) (b : Bool) → Goes (at rows pending (cond b positional idle) false) [] []
  unfolding walk_fault
  front_end rows pending b = refl

  -- the walk over the words after a command has what their parts have
  pub walk_goes : (words : List Text) → AreTexts words → Fronts words × Values words
  walk_goes [] texts = (front_end, value_end)
  walk_goes (word ∷ words) texts =
      let rest = walk_goes words texts.1 in (
        (λ rows pending b. front_word rows pending b word words (look word) texts.0 rest.0 rest.1),
        (λ rows n takes. value_word rows n word words (look word) texts.0 takes rest.0),
      )
