use Rattle.std.proofs.Common.{◌≡◌, ℕ, ◌∙◌, sym, ap, not, ◌&&◌, ◌==◌, Vec, List, Bool, map}
use Rattle.std.specs.Str.{bytes_eq}
use Rattle.std.specs.List.{list_any}
use Rattle.std.specs.declared.alloc.Global.{Global}
use Rattle.md_static.specs.declared.entry.Proc.{Proc}
use Rattle.md_static.specs.Names.{is_name}
use Rattle.md_deepfile.specs.Rules.{is_proc}
use Rattle.md_deepfile.specs.Sets.{key_of}
use Rattle.md_deepfile.proofs.Keys.{any_map, told_by_keys}
use Rattle.md_deepfile.proofs.procs.Procs.is_new.Goals as goal

told_of : (home : ℕ) (name bytes : List ℕ) (procs seen : List Proc) (answer : Bool) → name ≡ bytes → procs ≡ seen
    → answer ≡ (is_name bytes && not (list_any (λ (k : ℕ × List ℕ). (home == k.0) && bytes_eq name k.1) (map key_of procs)))
    → answer ≡ (is_name bytes && not (list_any (is_proc home bytes) seen))
told_of home name bytes procs seen answer same are told =
    told ∙ ap (λ (b : Bool). is_name bytes && not b) (any_map key_of (λ (k : ℕ × List ℕ). (home == k.0) && bytes_eq name k.1) procs)
    ∙ ap (λ (x : List ℕ). is_name bytes && not (list_any (is_proc home x) procs)) same ∙ ap (λ (ps : List Proc). is_name bytes && not (list_any (is_proc home bytes) ps)) are

pub returns : goal.returns
returns c =
    let name = c.in_ok-from_slice.field-0.items in
    let named = sym c.is_program_name.ensures ∙ c.if-not-is_program_name.false in
    told_of c.args.home name c.args.bytes.now c.self.inside.procs.items c.args.self.now (not c.contains.result) c.in_ok-from_slice.ensures.items c.self.view_is
    (told_by_keys (λ (k : ℕ × Vec ℕ Global). (k.0, k.1.items)) (λ (k : ℕ × List ℕ). (c.args.home == k.0) && bytes_eq name k.1) c.self.inside.keys.keys (map key_of c.self.inside.procs.items)
    (is_name c.args.bytes.now) (not c.contains.result) c.self.invariant named (ap not c.contains.ensures))
