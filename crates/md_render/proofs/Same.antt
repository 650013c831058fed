-- A loaded profile has what every view of it says of names.
use Rattle.std.proofs.Common.{◌≡◌, ℕ, List, ap, ◌∙◌}
use Rattle.md_dynamic.specs.Valid.{IsValid}
use Rattle.md_cost.specs.FileView.{IsFileView}
use Rattle.md_cost.specs.Loading.{LoadedRows, IsLoadedOf}
use Rattle.md_cost.specs.View.{View}
use Rattle.md_cost.proofs.ValidSteps.{valid_sound}
use Rattle.md_cost.proofs.ViewSteps.{view_cliques}
use Rattle.md_render.specs.Kept.{names_in}
use Rattle.md_render.specs.Names.{names_of}

pub same_names : (loaded : LoadedRows) → IsValid loaded.profile → IsLoadedOf loaded.profile loaded → (v : View) → IsFileView loaded.profile v → names_of v ≡ names_in loaded
same_names loaded valid is_loaded v is =
    let f = loaded.profile in
    ap names_of is.is
    ∙ ap (λ (ks : List ℕ). names_in (record loaded { cliques = ks }))
    (view_cliques f (valid_sound f valid).links loaded.cliques loaded.entries is_loaded.tree v is)
