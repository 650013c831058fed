-- Call sites of goals one after the other, and of goals with parts.
use Rattle.std.proofs.Common.{◌≡◌, refl, ap, ◌∙◌, ℕ, suc, List, [], ◌∷◌, ◌++◌, length}
use Rattle.std.specs.List.{flat_map}
use Rattle.std.proofs.lemmas.Grind.{flat_map-append}
use Rattle.md_hlds.specs.declared.types.Ty.{Ty}
use Rattle.md_hlds.specs.declared.types.Mode.{Mode}
use Rattle.md_hlds.specs.HldsGoal.{HldsGoal, HldsGoals, also, goals_within, goals_among}
use Rattle.md_hlds.specs.Hlds.{Hlds, args_of}
use Rattle.md_static.specs.declared.entry.Site.{Site}
use Rattle.md_ports.specs.Ports.{site_of, goal_sites, all_sites}

pub length_args_of : (args : List (Ty × Mode)) → length (args_of args) ≡ length args
length_args_of [] = refl
length_args_of (a ∷ args) = ap suc (length_args_of args)

-- the call sites among these goals
abbrev sites_among : Hlds → ℕ → List HldsGoal → List Site
sites_among s owner gs = flat_map (site_of s owner) gs

among_append : (s : Hlds) (owner : ℕ) (gs hs : List HldsGoal) → sites_among s owner (gs ++ hs) ≡ sites_among s owner gs ++ sites_among s owner hs
among_append s owner gs hs = flat_map-append (site_of s owner) gs hs

-- one goal in front of others
pub sites-also : (s : Hlds) (owner : ℕ) (g : HldsGoal) (gs : HldsGoals) → all_sites s owner (also g gs) ≡ goal_sites s owner g ++ all_sites s owner gs
sites-also s owner g gs = among_append s owner (goals_within g) (goals_among gs)

-- an if-then-else's parts, one after the other
pub sites-parts : (s : Hlds) (owner : ℕ) (c t e : HldsGoal)
    → flat_map (site_of s owner) (goals_within c ++ (goals_within t ++ goals_within e)) ≡ goal_sites s owner c ++ (goal_sites s owner t ++ goal_sites s owner e)
sites-parts s owner c t e =
    among_append s owner (goals_within c) (goals_within t ++ goals_within e)
    ∙ ap (λ (xs : List Site). goal_sites s owner c ++ xs) (among_append s owner (goals_within t) (goals_within e))
