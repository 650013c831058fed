-- The shape of a switch whose arms stand in a program.
use Rattle.std.proofs.Common.{◌≡◌, ap, ◌∙◌, ℕ, suc, List, [], ◌∷◌}
use Rattle.md_hlds.specs.HldsGoal.{HldsGoal, HldsGoals, goals_among}
use Rattle.md_hlds.specs.Hlds.{Hlds}
use Rattle.md_hlds.specs.Switch.{switch_shape}
use Rattle.md_names.specs.Named.{name_of}
use Rattle.md_modes.specs.Classes.{size_of}
use Rattle.md_switch.specs.Reading.{read_shape}
use Rattle.md_switch.proofs.Tells.{Tells, shape_is}
use Rattle.md_code.specs.Facts.{Stand}

tells : (s : Hlds) (n : ℕ) (gs : List HldsGoal) → Stand s n gs → Tells s n gs
tells s n [] h = tt
tells s n (g ∷ gs) h = (ap (name_of s) h.0, ap size_of h.0, tells s (suc n) gs h.1)

pub shape-there : (s : Hlds) (n first : ℕ) (ps : HldsGoals) → first ≡ suc n → Stand s (suc n) (goals_among ps) → read_shape s first ps ≡ switch_shape s ps
shape-there s n first ps at h = ap (λ k. read_shape s k ps) at ∙ shape_is s (suc n) ps (tells s (suc n) (goals_among ps) h)
