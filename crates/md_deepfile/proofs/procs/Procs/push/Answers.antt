use Rattle.std.proofs.Common.{◌≡◌, ℕ, ◌∙◌, ap, true, false, not, ◌&&◌, ◌==◌, Vec, List, map, rules, arith}
use Rattle.std.proofs.lemmas.Grind.{common_steps}
use Rattle.std.specs.Str.{bytes_eq}
use Rattle.std.specs.List.{list_any}
use Rattle.std.specs.declared.alloc.Global.{Global}
use Rattle.std.proofs.lemmas.Bool.{and_parts, not-true}
use Rattle.md_static.specs.declared.entry.Proc.{Proc}
use Rattle.md_static.specs.Names.{is_name}
use Rattle.md_deepfile.specs.Rules.{is_proc, proc_of}
use Rattle.md_deepfile.specs.Sets.{key_of}
use Rattle.md_deepfile.proofs.Keys.{any_map, keys_push}
use Rattle.md_deepfile.proofs.procs.Procs.push.Goals as goal

-- none of the procedures has the key
none_has : (home : ℕ) (name bytes : List ℕ) (procs seen : List Proc) → name ≡ bytes → procs ≡ seen → (is_name bytes && not (list_any (is_proc home bytes) seen)) ≡ true
    → list_any (λ (k : ℕ × List ℕ). (home == k.0) && bytes_eq name k.1) (map key_of procs) ≡ false
none_has home name bytes procs seen same are told =
    any_map key_of (λ (k : ℕ × List ℕ). (home == k.0) && bytes_eq name k.1) procs
    ∙ ap (λ (x : List ℕ). list_any (is_proc home x) procs) same ∙ ap (list_any (is_proc home bytes)) are
    ∙ not-true (list_any (is_proc home bytes) seen) (and_parts (is_name bytes) (not (list_any (is_proc home bytes) seen)) told).1

pub invariant_of-self-2 : goal.invariant_of-self-2
invariant_of-self-2 c =
    let name = c.in_ok-from_slice.field-0.items in
    keys_push (λ (k : ℕ × Vec ℕ Global). (k.0, k.1.items)) key_of (λ (k : ℕ × List ℕ). (c.args.home == k.0) && bytes_eq name k.1)
    c.self.inside.keys.keys c.insert.new.self.keys c.self.inside.procs.items c.push.new.self.items (c.args.home, c.in_ok-from_slice.field-0) (proc_of c.args.home c.args.bytes.now c.args.arity)
    c.self.invariant (none_has c.args.home name c.args.bytes.now c.self.inside.procs.items c.args.self.now c.in_ok-from_slice.ensures.items c.self.view_is c.requires)
    c.in_ok-insert.ensures.keys (search rules) (ap (λ (x : List ℕ). (c.args.home, x)) c.in_ok-from_slice.ensures.items)

pub returns : goal.returns
returns c = grind (arith, common_steps)
