use Rattle.std.proofs.Common.{◌≡◌, ◌∙◌, subst, IfOk, ℕ, List}
use Rattle.md_tool.specs.Fault.{file_line}
use Rattle.md_tool.proofs.fault.damaged.Goals as goal

pub returns : goal.returns
returns c =
    subst (λ (text : List ℕ). IfOk c.of_file.result (λ told. told.items ≡ file_line c.args.file.now text)) (c.as_str.ensures.value ∙ c.in_ok-text.ensures) c.of_file.ensures
