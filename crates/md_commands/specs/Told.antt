-- The words as the code keeps them.
use Rattle.std.specs.Prelude.{ℕ, List, [], ◌∷◌, Option, Some, None}
use Rattle.std.specs.Borrow.{Bor}
use Rattle.md_query.specs.Told.{asked}
use Rattle.md_commands.specs.declared.command.Command.{Command}
use Rattle.md_commands.specs.declared.command.Command.TheVariants as command
use Rattle.md_commands.specs.declared.procedure.ProcWord.{ProcWord}
use Rattle.md_commands.specs.declared.procedure.ProcWord.TheVariants as word
use Rattle.md_commands.specs.Form.{Form, Meant, Number, Name, Check, Run, Report, Page, Serve, Gen, Migrate, Feedback, Dump, Undump, Cover, Sum, Compare}

abbrev pub texts : List (Bor (List ℕ)) → List (List ℕ)
texts [] = []
texts (w ∷ ws) = w.now ∷ texts ws

abbrev pub words_told : Option (Bor (List (Bor (List ℕ)))) → List (List ℕ)
words_told None = []
words_told (Some words) = texts words.now

abbrev pub meant : ProcWord → Meant
meant (word.Number number) = Number number
meant (word.Name name) = Name name.now

abbrev pub meant_told : Option ProcWord → Option Meant
meant_told None = None
meant_told (Some w) = Some (meant w)

abbrev pub told : Command → Form
told (command.Check file print) = Check file.now print
told (command.Run file steps profile) = Run file.now steps profile.now
told (command.Report file query steps) = Report file.now (asked query) steps
told (command.Page name query) = Page name.now (asked query)
told (command.Serve name port requests) = Serve name.now port requests
told (command.Gen n summary) = Gen n summary
told (command.Migrate name new) = Migrate name.now new.now
told (command.Feedback file new steps least) = Feedback file.now new.now steps least
told (command.Dump name) = Dump name.now
told (command.Undump text new) = Undump text.now new.now
told (command.Cover file procedure steps) = Cover file.now (meant procedure) steps
told (command.Sum names) = Sum (texts names.items)
told (command.Compare old new by least) = Compare old.now new.now by least

abbrev pub command_told : Option Command → Option Form
command_told None = None
command_told (Some c) = Some (told c)

abbrev pub text_told : Option (Bor (List ℕ)) → Option (List ℕ)
text_told None = None
text_told (Some w) = Some w.now

abbrev pub pair_told : Option (Bor (List ℕ) × Bor (List ℕ)) → Option (List ℕ × List ℕ)
pair_told None = None
pair_told (Some p) = Some (p.0.now, p.1.now)
