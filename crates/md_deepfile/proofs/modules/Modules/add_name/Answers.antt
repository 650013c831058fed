use Rattle.std.proofs.Common.{◌≡◌, ℕ, ◌∙◌, sym, ap, refl, true, false, Vec, List, Bool, not, arith}
use Rattle.std.proofs.lemmas.Grind.{common_steps}
use Rattle.std.specs.Str.{bytes_eq}
use Rattle.std.specs.List.{list_any}
use Rattle.std.specs.declared.alloc.Global.{Global}
use Rattle.md_deepfile.proofs.Keys.{told_by_keys}
use Rattle.md_deepfile.proofs.modules.Modules.add_name.Goals as goal

-- the test of a key is that of the name, and the names are those that the contract sees
told_of : (key name : List ℕ) (names seen : List (List ℕ)) (fresh answer : Bool) → key ≡ name → names ≡ seen → fresh ≡ answer
    → fresh ≡ not (list_any (bytes_eq key) names) → answer ≡ not (list_any (bytes_eq name) seen)
told_of key name names seen fresh answer same are is told =
    sym is ∙ told ∙ ap (λ (x : List ℕ). not (list_any (bytes_eq x) names)) same ∙ ap (λ (xs : List (List ℕ)). not (list_any (bytes_eq name) xs)) are

pub returns-then-not-branch-clause-added : goal.returns-then-not-branch-clause-added
returns-then-not-branch-clause-added c =
    told_of c.in_ok-key.key.items c.args.name c.self.inside.names.items c.args.self.now c.in_ok-insert.field-0 false (c.in_ok-key.ensures.items ∙ c.as_bytes.ensures.bytes) c.self.view_is c.if-not-branch.true
    (told_by_keys (λ (k : Vec ℕ Global). k.items) (bytes_eq c.in_ok-key.key.items) c.self.inside.keys.keys c.self.inside.names.items true c.in_ok-insert.field-0 c.self.invariant refl c.in_ok-insert.ensures.added)

pub returns-clause-added : goal.returns-clause-added
returns-clause-added c =
    told_of c.in_ok-key.key.items c.args.name c.self.inside.names.items c.args.self.now c.in_ok-insert.field-0 true (c.in_ok-key.ensures.items ∙ c.as_bytes.ensures.bytes) c.self.view_is c.if-not-branch.false
    (told_by_keys (λ (k : Vec ℕ Global). k.items) (bytes_eq c.in_ok-key.key.items) c.self.inside.keys.keys c.self.inside.names.items true c.in_ok-insert.field-0 c.self.invariant refl c.in_ok-insert.ensures.added)

pub returns-clause-names : goal.returns-clause-names
returns-clause-names c = grind (arith, common_steps)

pub returns-then-not-branch-clause-names : goal.returns-then-not-branch-clause-names
returns-then-not-branch-clause-names c = grind (arith, common_steps)
