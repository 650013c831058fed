use Rattle.std.proofs.Common.{[], ◌∷◌, arith}
use Rattle.md_tool.proofs.SizeLemmas.{few_links}
use Rattle.md_tool.proofs.sums.add_file.Goals as goal

pub add-requires-clause-few_links : goal.add-requires-clause-few_links
add-requires-clause-few_links g c =
    few_links (g.S.Store.held c.args.store.now) (c.args.name.now ∷ []) (c.in_ok-loaded.loaded ∷ []) (c.in_ok-loaded.ensures.loaded, tt) 0 c.in_ok-loaded.loaded (omega arith)
