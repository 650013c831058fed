use Rattle.std.proofs.Common.{◌≡◌, ℕ, ◌+◌, ◌-◌, ◌*◌, ◌<◌, min, length, ap, ◌∙◌, arith}
use Rattle.md_deepfile.specs.Rules.{link_size}
use Rattle.md_deepfile.specs.State.{width}
use Rattle.md_deepfile.proofs.reader.Reader.place_of.Goals as goal

-- what stands still at the last number of 64 bits is past the place anyway
place_is : (at n context links d a b e f place : ℕ) → at < 18446744073709551616 → d ≡ n - context → a ≡ min links 18446744073709551615 → b ≡ min (a + 4) 18446744073709551615
    → e ≡ min (d * 4) 18446744073709551615 → f ≡ min (e + b) 18446744073709551615 → place ≡ at - f → place ≡ at - (4 * (n - context) + (4 + links))
place_is at n context links d a b e f place fits one two three four five six = omega arith

pub returns : goal.returns
returns c =
    let links = length c.args.self.now.graph.links in
    let nodes = length c.args.self.now.graph.nodes in
    let size = link_size (width c.args.self.now.version) in
    let first : c.saturating_sub-contexts.result ≡ nodes - c.args.context = c.saturating_sub-contexts.ensures ∙ ap (λ (n : ℕ). n - c.args.context) (ap length c.nodes.ensures) in
    let second : c.saturating_mul.result ≡ min (size * links) 18446744073709551615 =
    c.saturating_mul.ensures ∙ ap (λ (x : ℕ). min (x * c.link_count-links.result) 18446744073709551615) c.link_size.ensures ∙ ap (λ (x : ℕ). min (size * x) 18446744073709551615) c.link_count-links.ensures in
    place_is c.args.self.now.at nodes c.args.context (size * links) c.saturating_sub-contexts.result c.saturating_mul.result c.saturating_add-list.result c.saturating_mul-2.result c.saturating_add.result c.saturating_sub.result
    (omega (arith, c.requires)) first second c.saturating_add-list.ensures c.saturating_mul-2.ensures c.saturating_add.ensures c.saturating_sub.ensures
