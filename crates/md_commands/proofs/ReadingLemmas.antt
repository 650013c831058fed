-- What clap reads is what the words are.
use Rattle.std.proofs.Common.{◌≡◌, refl, sym, ap, ◌∙◌, subst, Bool, true, false, cond, List, [], ◌∷◌, map, Option, None, Some, codes, true≢false}
use Rattle.clap.specs.Kinds.{Kinds}
use Rattle.std.specs.Prelude.{is_some, option_map, unwrap_or, String, string_bytes}
use Rattle.std.specs.Borrow.{Bor}
use Rattle.std.specs.declared.alloc.Global.{Global}
use Rattle.std.proofs.lemmas.Str.{IsUtf8-string_bytes, is_utf8-from_IsUtf8}
use Rattle.clap.specs.Walk.{Row, nothing_held, walk}
use Rattle.clap.specs.Simple.{HasMatchesOf, subcommand_of, subcommand_rows_of}
use Rattle.clap.specs.Faults.{built_fault, fault_of}
use Rattle.clap.specs.Matches.{subcommand_name_of}
use Rattle.clap.specs.Simple.{entered, names_of, subcommand_rows}
use Rattle.clap.specs.declared.parser.matches.ArgMatches.TheViews.{out-ArgMatches, out-SubCommand}
use Rattle.clap.specs.declared.parser.matches.SubCommand.{SubCommand}
use Rattle.std.specs.Prelude.{Box}
use Rattle.std.specs.Box.{box_value}
use Rattle.clap.specs.declared.parser.matches.ArgMatches.{ArgMatches}
use Rattle.md_commands.specs.declared.tool.Tool.{Tool}
use Rattle.md_commands.specs.declared.tool.Tool.TheVariants as tool
use Rattle.md_commands.specs.Parts.{Text, Part, Front, are_right, parts_from}
use Rattle.md_commands.specs.Tools.{name_of, tool_named, tools, usage_of}
use Rattle.md_commands.specs.Lines.{line_of}
use Rattle.md_commands.specs.Reading.{IsReading, IsReadingOf}
use Rattle.md_commands.specs.Form.{parts_by, parts_of, right_parts, words_of}
use Rattle.md_commands.specs.Told.{text_told, texts, words_told}
use Rattle.md_commands.proofs.LineLemmas.{line_built, line_simple_only}
use Rattle.md_commands.proofs.Walks.{Apart, AreTexts, done, look, well}
use Rattle.md_commands.proofs.Rows.{taken_right, tells}
use Rattle.md_commands.proofs.Apps.{built_app, entered_is, filled_rows, level_rows, level_well, nameless_bad, no_words_bad, whole_well}

-- no option has the id of the other words, and no command has options of both kinds
apart_of : (t : Tool) → Apart (usage_of t)
apart_of tool.Check = record { valued = refl; flags = refl; disjoint = λ name e. absurd (true≢false (sym e)) }
apart_of tool.Run = record { valued = refl; flags = refl; disjoint = λ name e. refl }
apart_of tool.Report = record { valued = refl; flags = refl; disjoint = λ name e. refl }
apart_of tool.Page = record { valued = refl; flags = refl; disjoint = λ name e. refl }
apart_of tool.Serve = record { valued = refl; flags = refl; disjoint = λ name e. refl }
apart_of tool.Gen = record { valued = refl; flags = refl; disjoint = λ name e. absurd (true≢false (sym e)) }
apart_of tool.Migrate = record { valued = refl; flags = refl; disjoint = λ name e. refl }
apart_of tool.Feedback = record { valued = refl; flags = refl; disjoint = λ name e. refl }
apart_of tool.Dump = record { valued = refl; flags = refl; disjoint = λ name e. refl }
apart_of tool.Undump = record { valued = refl; flags = refl; disjoint = λ name e. refl }
apart_of tool.Cover = record { valued = refl; flags = refl; disjoint = λ name e. refl }
apart_of tool.Sum = record { valued = refl; flags = refl; disjoint = λ name e. refl }
apart_of tool.Compare = record { valued = refl; flags = refl; disjoint = λ name e. refl }

pub are_texts : (words : List (String Global)) → AreTexts (words_of words)
are_texts [] = tt
are_texts (word ∷ words) = (is_utf8-from_IsUtf8 (string_bytes word) (IsUtf8-string_bytes word), are_texts words)

fault_is : (words : List Text) → well (fault_of (line_of tools) words) ≡ well (built_fault (built_app tools) nothing_held words)
fault_is words = ap (λ a. well (built_fault a nothing_held words)) line_built

right_some : (t : Tool) (parts : List Part) → are_right (usage_of t) parts ≡ is_some (right_parts t parts)
right_some t parts = go (are_right (usage_of t) parts)
  where
    go : (b : Bool) → b ≡ is_some {T = Tool × List Part} (cond b (Some (t, parts)) None)
    go true = refl
    go false = refl

-- clap takes the words exactly where they are a command with its options
takes_words : (words : List Text) → AreTexts words → well (fault_of (line_of tools) words) ≡ is_some (parts_of words)
takes_words [] texts = fault_is [] ∙ no_words_bad tools
takes_words (command ∷ words) texts = fault_is (command ∷ words) ∙ go (tool_named command) refl
  where
    go : (o : Option Tool) → tool_named command ≡ o → well (built_fault (built_app tools) nothing_held (command ∷ words)) ≡ is_some (parts_of (command ∷ words))
    go None e = nameless_bad tools command words (look command) texts.0 e ∙ sym (ap (λ o. is_some (parts_by o words)) e)
    go (Some t) e =
        whole_well tools command words t e ∙ level_well (name_of t) (usage_of t) (apart_of t) words texts.1
        ∙ taken_right (name_of t) (usage_of t) (apart_of t) (parts_from (usage_of t) Front words) ∙ right_some t (parts_from (usage_of t) Front words)
        ∙ sym (ap (λ o. is_some (parts_by o words)) e)

some_of : (o : Option (List Row)) → is_some o ≡ true → (rows : List Row) × (o ≡ Some rows)
some_of None e = absurd (true≢false (sym e))
some_of (Some rows) e = (rows, refl)

-- the matches of a command tell its parts
entered_reading : (command : Text) (words : List Text) (t : Tool) (m : ArgMatches) → AreTexts words → tool_named command ≡ Some t → are_right (usage_of t) (parts_from (usage_of t) Front words) ≡ true
    → subcommand_rows_of m ≡ subcommand_of (line_of tools) (command ∷ words) → IsReadingOf t (parts_from (usage_of t) Front words) m
entered_reading command words t m texts named right same =
    let parts = parts_from (usage_of t) Front words in
    let taken = some_of (done (name_of t) (usage_of t) (apart_of t) parts []) (taken_right (name_of t) (usage_of t) (apart_of t) parts ∙ right) in
    record {
      rows = filled_rows (usage_of t) taken.0;
      entered = same ∙ ap (λ a. entered a (walk a.top.rules (names_of a) nothing_held (command ∷ words)).stopped) line_built
          ∙ entered_is tools command words t named
          ∙ ap (λ rows. Some (name_of t, rows)) (level_rows (name_of t) (usage_of t) (apart_of t) words texts taken.0 taken.1);
      tells = tells (name_of t) (usage_of t) (apart_of t) parts taken.0 taken.1;
    }

pub reading_ok : (words : List Text) (m : ArgMatches) → AreTexts words → fault_of (line_of tools) words ≡ [] → HasMatchesOf (line_of tools) words m → IsReading (parts_of words) (Some m)
reading_ok [] m texts none same = absurd (true≢false (sym (ap well none) ∙ takes_words [] texts))
reading_ok (command ∷ words) m texts none same =
    go (tool_named command) refl (sym (takes_words (command ∷ words) texts) ∙ ap well none)
  where
    right : (t : Tool) → tool_named command ≡ Some t → (b : Bool) → are_right (usage_of t) (parts_from (usage_of t) Front words) ≡ b → is_some (parts_of (command ∷ words)) ≡ true → IsReading (parts_of (command ∷ words)) (Some m)
    right t named true e some =
        subst (λ o. IsReading o (Some m)) (sym (ap (λ o. parts_by o words) named ∙ ap (λ b. cond b (Some (t, parts_from (usage_of t) Front words)) None) e))
        (entered_reading command words t m texts.1 named e (same line_simple_only).1)
    right t named false e some =
        absurd (true≢false (sym some ∙ ap (λ o. is_some (parts_by o words)) named ∙ ap (λ b. is_some {T = Tool × List Part} (cond b (Some (t, parts_from (usage_of t) Front words)) None)) e))

    go : (o : Option Tool) → tool_named command ≡ o → is_some (parts_of (command ∷ words)) ≡ true → IsReading (parts_of (command ∷ words)) (Some m)
    go None e some = absurd (true≢false (sym some ∙ ap (λ o. is_some (parts_by o words)) e))
    go (Some t) e some = right t e (are_right (usage_of t) (parts_from (usage_of t) Front words)) refl some

pub reading_none : (words : List Text) → AreTexts words → (fault_of (line_of tools) words ≡ [] → ⊥) → IsReading (parts_of words) None
reading_none words texts fails = go (parts_of words) (sym (takes_words words texts) ∙ not_well (fault_of (line_of tools) words) fails)
  where
    not_well : (k : Kinds) → (k ≡ [] → ⊥) → well k ≡ false
    not_well [] f = absurd (f refl)
    not_well (k ∷ ks) f = refl

    go : (o : Option (Tool × List Part)) → is_some o ≡ false → IsReading o None
    go None e = tt
    go (Some a) e = absurd (true≢false e)

-- ---- what is looked up

pub told_text : (o : Option (Bor Text)) → text_told o ≡ option_map (λ s. s.now) o
told_text None = refl
told_text (Some w) = refl

pub told_texts : (ws : List (Bor Text)) → texts ws ≡ map (λ w. w.now) ws
told_texts [] = refl
told_texts (w ∷ ws) = ap (λ ts. w.now ∷ ts) (told_texts ws)

pub flag_read : (b r : Bool) (o : Option Text) → o ≡ Some (cond b (codes "true") (codes "false")) → (o ≡ Some (codes "true") → r ≡ true) → (o ≡ Some (codes "false") → r ≡ false) → r ≡ b
flag_read true r o e on off = on e
flag_read false r o e on off = off e

pub told_words : (o : Option (Bor (List (Bor Text)))) → words_told o ≡ unwrap_or (option_map (λ s. map (λ v. v.now) s.now) o) []
told_words None = refl
told_words (Some ws) = told_texts ws.now

-- ---- the command that matches enter

named_self : (t : Tool) → tool_named (name_of t) ≡ Some t
named_self tool.Check = refl
named_self tool.Run = refl
named_self tool.Report = refl
named_self tool.Page = refl
named_self tool.Serve = refl
named_self tool.Gen = refl
named_self tool.Migrate = refl
named_self tool.Feedback = refl
named_self tool.Dump = refl
named_self tool.Undump = refl
named_self tool.Cover = refl
named_self tool.Sum = refl
named_self tool.Compare = refl

name_first : {Z : Type 0} (o : Option (Box SubCommand Z)) → option_map (λ p. p.0) (subcommand_rows o) ≡ option_map (λ b. (out-SubCommand (box_value b)).name.now) o
name_first None = refl
name_first (Some b) = refl

-- the name that the matches have
entered_name : (m : ArgMatches) (name : Text) (rows : List Row) → subcommand_rows_of m ≡ Some (name, rows) → subcommand_name_of m ≡ Some name
entered_name m name rows e = sym (name_first (out-ArgMatches m).subcommand) ∙ ap (option_map (λ p. p.0)) e

pub entered_tool : (m : ArgMatches) (t : Tool) (rows : List Row) (name : Text) → subcommand_rows_of m ≡ Some (name_of t, rows) → Some name ≡ subcommand_name_of m → tool_named name ≡ Some t
entered_tool m t rows name enters same =
    ap (λ o. tool_named (unwrap_or o name)) (same ∙ entered_name m (name_of t) rows enters) ∙ named_self t

pub some_same : {X : Type 0} (x y : X) → Some x ≡ Some y → x ≡ y
some_same x y e = ap (λ o. unwrap_or o x) e
