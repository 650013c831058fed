-- What clap makes of the words of a command line, with the commands as its subcommands.
use Rattle.std.proofs.Common.{◌≡◌, refl, sym, ap, ap₂, ◌∙◌, subst, Bool, true, false, not, cond, ◌&&◌, ◌||◌, List, [], ◌∷◌, map, Option, None, Some, codes, true≢false}
use Rattle.clap.specs.declared.error.kind.ErrorKind.TheVariants.{DisplayHelp, InvalidSubcommand}
use Rattle.clap.specs.Takes.{is_given}
use Rattle.std.specs.Prelude.{is_some, find, fold, option_map}
use Rattle.std.specs.List.{list_any}
use Rattle.std.specs.Option.{option_map_or}
use Rattle.std.specs.Str.{bytes_eq, is_utf8}
use Rattle.std.proofs.lemmas.Slice.Eq.{bytes_eq-Decides}
use Rattle.clap.specs.Walk.{Row, Rule, Walk, Names, idle, walk, walk_from, walked, nothing_held, settled, finished, with_default, answers_to, after_step, subcommand_or_other, trailing, long_or_other, short_or_plain, rows_after, has_row}
use Rattle.clap.specs.Simple.{App, Shape, new_shape, label_of, names_of, entered, rows_at}
use Rattle.clap.specs.Lexer.{long_of}
use Rattle.clap.specs.Faults.{level_fault, entered_fault, built_fault, walk_fault, turn_fault, settle_fault, defaults_fault, check_fault, other_fault, step_fault, flag_word_fault, bundle_fault}
use Rattle.clap.specs.Kinds.{Kinds, check_kinds, or_else}
use Rattle.clap.proofs.WalkLemmas.{walk_stopped}
use Rattle.clap.proofs.FaultLemmas.{stopped_fault}
use Rattle.md_commands.specs.declared.tool.Tool.{Tool}
use Rattle.md_commands.specs.Tools.{name_of, usage_of, named_in}
use Rattle.md_commands.specs.Parts.{Text, Usage, Front, parts_from}
use Rattle.md_commands.proofs.Rows.{bytes_sym}
use Rattle.md_commands.proofs.Walks.{Apart, AreTexts, Look, dashes, long, short, plain, leaf, rules_of, flag_rules, valued_rules, value_rule, flag_rule, words_rule, well, well_end, done, ended, walk_goes, bad_or, short_bad}

-- ---- a command

-- each option that didn't come gets its default
abbrev pub filled_rows : Usage → List Row → List Row
filled_rows usage rows = fold with_default rows (rules_of usage)

flag_defaults : (names : List Text) (rows : List Row) → defaults_fault rows (flag_rules names) ≡ []
unfolding defaults_fault
flag_defaults [] rows = go (has_row words_rule.id rows)
  where
    go : (b : Bool) → or_else (cond (b || true) [] []) [] ≡ []
    go true = refl
    go false = refl
flag_defaults (n ∷ names) rows = go (has_row n rows) (flag_defaults names)
  where
    go : (b : Bool) → ((rows : List Row) → defaults_fault rows (flag_rules names) ≡ []) → or_else (cond (b || false) [] []) (defaults_fault (with_default rows (flag_rule n)) (flag_rules names)) ≡ []
    go true rest = rest (with_default rows (flag_rule n))
    go false rest = rest (with_default rows (flag_rule n))

valued_defaults : (names flags : List Text) (rows : List Row) → defaults_fault rows (valued_rules names flags) ≡ []
unfolding defaults_fault
valued_defaults [] flags rows = flag_defaults flags rows
valued_defaults (n ∷ names) flags rows = go (has_row n rows) (valued_defaults names flags)
  where
    go : (b : Bool) → ((rows : List Row) → defaults_fault rows (valued_rules names flags) ≡ []) → or_else (cond (b || true) [] []) (defaults_fault (with_default rows (value_rule n)) (valued_rules names flags)) ≡ []
    go true rest = rest (with_default rows (value_rule n))
    go false rest = rest (with_default rows (value_rule n))

none_required : (names flags : List Text) (p : Rule → Bool) → list_any (λ a. a.required && p a) (valued_rules names flags) ≡ false
none_required [] [] p = refl
none_required [] (f ∷ flags) p = none_required [] flags p
none_required (n ∷ names) flags p = none_required names flags p

well_both : (a b : Kinds) (r : Option (List Row)) (x : List Row) → cond (well (or_else a b)) (Some x) None ≡ r → well (or_else a (or_else [] (or_else b (or_else [] [])))) ≡ is_some r
well_both [] [] r x e = ap is_some e
well_both [] (k ∷ ks) r x e = ap is_some e
well_both (k ∷ ks) b r x e = ap is_some e

some_rows : (b : Bool) (x after : List Row) (r : Option (List Row)) → cond b (Some x) None ≡ r → r ≡ Some after → x ≡ after
some_rows true x after r e f = ap (λ o. option_map_or (λ rows. rows) o x) (e ∙ f)
some_rows false x after r e f = absurd (true≢false (sym (ap is_some (e ∙ f))))

module _ (name : Text) (usage : Usage) (apart : Apart usage) where
  abbrev taken : List Text → Option (List Row)
  taken words = done name usage apart (parts_from usage Front words) []

  walk_is : (words : List Text) → AreTexts words → ended (leaf name usage) (walk_from nothing_held) words ≡ taken words
  walk_is words texts = (walk_goes name usage apart words texts).0 [] None false

  -- a command takes the words whose parts go on
  pub level_well : (words : List Text) → AreTexts words → well (level_fault (leaf name usage) [] nothing_held words false []) ≡ is_some (taken words)
  level_well words texts =
      let end = (walk (rules_of usage) [] nothing_held words).held in
      ap₂ (λ d q. well (or_else (walk_fault (leaf name usage) [] (walk_from nothing_held) words) (or_else [] (or_else (settle_fault (rules_of usage) false end) (or_else d (check_kinds false false q))))))
      (valued_defaults usage.valued usage.flags (settled (rules_of usage) end).rows)
      (none_required usage.valued usage.flags (λ a. not (is_given a.id (finished (rules_of usage) end))))
      ∙ well_both (walk_fault (leaf name usage) [] (walk_from nothing_held) words) (settle_fault (rules_of usage) false end) (taken words) (settled (rules_of usage) end).rows (walk_is words texts)

  -- and its rows are theirs
  pub level_rows : (words : List Text) → AreTexts words → (after : List Row) → taken words ≡ Some after → rows_after (rules_of usage) [] words ≡ filled_rows usage after
  level_rows words texts after e = ap (filled_rows usage) (some_rows _ _ after (taken words) (walk_is words texts) e)

-- ---- the commands as subcommands

abbrev pub leaf_of : Tool → Shape
leaf_of tool = leaf (name_of tool) (usage_of tool)

-- the command line as clap builds it
abbrev pub top_shape : Shape
top_shape = record (new_shape (codes "mdprof")) {
  is_leaf = false;
  no_binary_name = true;
  disable_help_flag = true;
  disable_help_subcommand = true;
  subcommand_required = true;
  is_built = true;
}

abbrev pub built_app : List Tool → App
built_app tools = record { top = top_shape; subs = map leaf_of tools }

label_first : (tools : List Tool) (word : Text) → find (answers_to word) (names_of (built_app tools)) ≡ option_map (λ t. (name_of t, [])) (named_in tools word)
label_first [] word = refl
label_first (t ∷ tools) word = go (label_first tools word) (bytes_eq (name_of t) word) ∙ ap (λ b. option_map (λ t. (name_of t, [])) (cond b (Some t) (named_in tools word))) (bytes_sym (name_of t) word)
  where
    go : find (answers_to word) (names_of (built_app tools)) ≡ option_map (λ t. (name_of t, [])) (named_in tools word) → (b : Bool)
        → cond (b || false) (Some (name_of t, [])) (find (answers_to word) (names_of (built_app tools))) ≡ option_map (λ t. (name_of t, [])) (cond b (Some t) (named_in tools word))
    go rest true = refl
    go rest false = rest

leaf_first : (tools : List Tool) (word : Text) → find (λ s. answers_to word (label_of s)) (map leaf_of tools) ≡ option_map leaf_of (named_in tools word)
leaf_first [] word = refl
leaf_first (t ∷ tools) word = go (leaf_first tools word) (bytes_eq (name_of t) word) ∙ ap (λ b. option_map leaf_of (cond b (Some t) (named_in tools word))) (bytes_sym (name_of t) word)
  where
    go : find (λ s. answers_to word (label_of s)) (map leaf_of tools) ≡ option_map leaf_of (named_in tools word) → (b : Bool)
        → cond (b || false) (Some (leaf_of t)) (find (λ s. answers_to word (label_of s)) (map leaf_of tools)) ≡ option_map leaf_of (cond b (Some t) (named_in tools word))
    go rest true = refl
    go rest false = rest

found_name : (tools : List Tool) (word : Text) (tool : Tool) → named_in tools word ≡ Some tool → word ≡ name_of tool
found_name [] word tool e = absurd (true≢false (sym (ap is_some e)))
found_name (t ∷ tools) word tool e = go (found_name tools word tool) (bytes_eq word (name_of t)) refl e
  where
    go : (named_in tools word ≡ Some tool → word ≡ name_of tool) → (b : Bool) → bytes_eq word (name_of t) ≡ b → cond b (Some t) (named_in tools word) ≡ Some tool → word ≡ name_of tool
    go rest true same e = (bytes_eq-Decides word (name_of t)).0 same ∙ ap (λ o. name_of (option_map_or (λ t. t) o t)) e
    go rest false same e = rest e

module _ (tools : List Tool) where
  abbrev a : App
  a = built_app tools

  abbrev ns : Names
  ns = names_of a

  abbrev w : Walk
  w = walk_from nothing_held

  -- the walk and the faults of the first word, by the command that it names
  abbrev step_by : Text → Option (Text × List Text) → Walk
  step_by word o =
      let met = subcommand_or_other [] (option_map (λ s. s.0) o) idle 1 word nothing_held in
      after_step [] word w met.0 met.1

  abbrev turn_by : Text → Option (Text × List Text) → Kinds
  turn_by word o =
      let met = subcommand_or_other [] (option_map (λ s. s.0) o) idle 1 word nothing_held in
      or_else (other_fault top_shape (option_map (λ s. s.0) o) word nothing_held) (step_fault top_shape 1 met.0 met.1)

  abbrev stopped_at : Text → List Text → Walk
  stopped_at name words = record w { stopped = Some (name, words) }

  top_walk : (word : Text) (words : List Text) (tool : Tool) → named_in tools word ≡ Some tool → walk [] ns nothing_held (word ∷ words) ≡ stopped_at (name_of tool) words
  unfolding walked
  top_walk word words tool found =
      ap (λ o. fold (walked [] ns) (step_by word o) words) (label_first tools word ∙ ap (option_map (λ t. (name_of t, []))) found)
      ∙ sym (walk_stopped [] ns w (name_of tool) [] words)

  top_turn : (word : Text) (tool : Tool) → named_in tools word ≡ Some tool → turn_fault top_shape ns w word ≡ []
  top_turn word tool found = ap (turn_by word) (label_first tools word ∙ ap (option_map (λ t. (name_of t, []))) found) ∙ no_help (bytes_eq (name_of tool) (codes "help"))
    where
      no_help : (b : Bool) → or_else (cond (b && false) (DisplayHelp ∷ InvalidSubcommand ∷ []) []) [] ≡ []
      no_help true = refl
      no_help false = refl

  top_fault : (word : Text) (words : List Text) (tool : Tool) → named_in tools word ≡ Some tool → walk_fault top_shape ns w (word ∷ words) ≡ []
  unfolding walk_fault walked
  top_fault word words tool found =
      ap₂ (λ t x. or_else t (walk_fault top_shape ns x words)) (top_turn word tool found) (ap (step_by word) (label_first tools word ∙ ap (option_map (λ t. (name_of t, []))) found))
      ∙ stopped_fault top_shape ns w (name_of tool, []) words

  -- the faults of the whole, by the walk over its words
  abbrev whole_by : Walk → Kinds → Kinds
  whole_by x fault = or_else fault (or_else (entered_fault a x.stopped) (or_else (settle_fault [] false x.held) (or_else (defaults_fault (settled [] x.held).rows []) (check_fault top_shape (finished [] x.held) (is_some (entered a x.stopped))))))

  abbrev below_by : List Text → Option Shape → Kinds
  below_by words o = or_else (option_map_or (λ s. level_fault s [] nothing_held words false []) o []) (check_fault top_shape [] (is_some (option_map (λ s. rows_at s words) o)))

  abbrev found_leaf : Text → Option Shape
  found_leaf name = find (λ s. answers_to name (label_of s)) (map leaf_of tools)

  leaf_found : (word : Text) (tool : Tool) → named_in tools word ≡ Some tool → found_leaf (name_of tool) ≡ Some (leaf_of tool)
  leaf_found word tool found = leaf_first tools (name_of tool) ∙ ap (λ t. option_map leaf_of (named_in tools t)) (sym (found_name tools word tool found)) ∙ ap (option_map leaf_of) found

  pub whole_well : (word : Text) (words : List Text) (tool : Tool) → named_in tools word ≡ Some tool
      → well (built_fault a nothing_held (word ∷ words)) ≡ well (level_fault (leaf_of tool) [] nothing_held words false [])
  unfolding defaults_fault
  whole_well word words tool found =
      ap₂ (λ x f. well (whole_by x f)) (top_walk word words tool found) (top_fault word words tool found)
      ∙ ap (λ o. well (below_by words o)) (leaf_found word tool found)
      ∙ well_end (level_fault (leaf_of tool) [] nothing_held words false [])

  pub entered_is : (word : Text) (words : List Text) (tool : Tool) → named_in tools word ≡ Some tool
      → entered a (walk [] ns nothing_held (word ∷ words)).stopped ≡ Some (rows_at (leaf_of tool) words)
  entered_is word words tool found =
      ap (λ x. entered a x.stopped) (top_walk word words tool found) ∙ ap (option_map (λ s. rows_at s words)) (leaf_found word tool found)

  -- ---- words that name no command

  left_bad : (x : Walk) (fault : Kinds) → well fault ≡ false → well (whole_by x fault) ≡ false
  left_bad x fault bad = bad_or fault _ bad

  first_bad : (word : Text) (words : List Text) → well (turn_fault top_shape ns w word) ≡ false → well (built_fault a nothing_held (word ∷ words)) ≡ false
  unfolding walk_fault
  first_bad word words bad = left_bad (walk [] ns nothing_held (word ∷ words)) (walk_fault top_shape ns w (word ∷ words)) (bad_or (turn_fault top_shape ns w word) _ bad)

  nameless_step : (word : Text) → named_in tools word ≡ None → walked [] ns w word ≡ step_by word None
  unfolding walked
  nameless_step word none = ap (step_by word) (label_first tools word ∙ ap (option_map (λ t. (name_of t, []))) none)

  nameless_turn : (word : Text) → named_in tools word ≡ None → turn_fault top_shape ns w word ≡ turn_by word None
  nameless_turn word none = ap (turn_by word) (label_first tools word ∙ ap (option_map (λ t. (name_of t, []))) none)

  abbrev turn_of : Text → Bool → Option (Text × Option Text) → Kinds
  turn_of word dash l =
      let met = cond dash (nothing_held, trailing 1) (long_or_other [] idle word l nothing_held) in
      or_else (cond dash [] (flag_word_fault [] false l word nothing_held)) (step_fault top_shape 1 met.0 met.1)

  abbrev turn_short : Text → Option Text → Kinds
  turn_short word sh =
      let met = short_or_plain [] idle word sh nothing_held in
      or_else (option_map_or (λ flags. bundle_fault [] false flags nothing_held) sh []) (step_fault top_shape 1 met.0 met.1)

  abbrev trailing_walk : Walk
  trailing_walk = record w { is_trailing = true }

  abbrev ended_at : List Text → Walk → Kinds
  ended_at words x = whole_by (fold (walked [] ns) x words) (walk_fault top_shape ns x words)

  only_dashes : (words : List Text) → well (ended_at words trailing_walk) ≡ false
  unfolding walk_fault defaults_fault
  only_dashes [] = refl
  only_dashes (word ∷ words) = refl

  first_dashes : (word : Text) (words : List Text) → well (built_fault a nothing_held (word ∷ words)) ≡ well (whole_by (fold (walked [] ns) (walked [] ns w word) words) (or_else (turn_fault top_shape ns w word) (walk_fault top_shape ns (walked [] ns w word) words)))
  unfolding walk_fault
  first_dashes word words = refl

  pub nameless_bad : (word : Text) (words : List Text) → Look word → is_utf8 word ≡ true → named_in tools word ≡ None → well (built_fault a nothing_held (word ∷ words)) ≡ false
  nameless_bad word words (dashes is kind) text none =
      first_dashes word words
      ∙ ap₂ (λ t x. well (whole_by (fold (walked [] ns) x words) (or_else t (walk_fault top_shape ns x words))))
      (nameless_turn word none ∙ ap (λ d. turn_of word d (long_of word)) is)
      (nameless_step word none ∙ ap (λ d. after_step [] word w (cond d (nothing_held, trailing 1) (long_or_other [] idle word (long_of word) nothing_held)).0 (cond d (nothing_held, trailing 1) (long_or_other [] idle word (long_of word) nothing_held)).1) is)
      ∙ only_dashes words
  nameless_bad word words (long x xs is is_long kind) text none =
      first_bad word words (ap well (nameless_turn word none ∙ ap (λ d. turn_of word d (long_of word)) is ∙ ap (turn_of word false) is_long))
  nameless_bad word words (short x xs same is no_long is_short kind) text none =
      first_bad word words (ap well (nameless_turn word none ∙ ap (λ d. turn_of word d (long_of word)) is ∙ ap (turn_of word false) no_long ∙ ap (turn_short word) is_short)
      ∙ bad_or (bundle_fault [] false (x ∷ xs) nothing_held) _ (short_bad [] (λ y. refl) x xs nothing_held refl (subst (λ v. is_utf8 v ≡ true) same text)))
  nameless_bad word words (plain is no_long no_short kind) text none =
      first_bad word words (ap well (nameless_turn word none ∙ ap (λ d. turn_of word d (long_of word)) is ∙ ap (turn_of word false) no_long ∙ ap (turn_short word) no_short))

  pub no_words_bad : well (built_fault a nothing_held []) ≡ false
  unfolding walk_fault defaults_fault
  no_words_bad = refl
