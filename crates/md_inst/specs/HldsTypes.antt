-- Types that are the same.
use Rattle.std.specs.Prelude.{Bool, true, false, ◌&&◌, List, [], ◌∷◌}
use Rattle.std.specs.Str.{bytes_eq}
use Rattle.md_hlds.specs.declared.types.Mode.{Mode}
use Rattle.md_hlds.specs.declared.types.Mode.TheVariants.{In, Out, Di, Uo}
use Rattle.md_hlds.specs.declared.types.Det.{Det}
use Rattle.md_hlds.specs.declared.types.Det.TheVariants as det
use Rattle.md_hlds.specs.Hlds.{HldsType, HldsTypes, number, text, world, named, closure, no_types, also_type}

abbrev pub same_mode : Mode → Mode → Bool
same_mode In In = true
same_mode Out Out = true
same_mode Di Di = true
same_mode Uo Uo = true
same_mode m n = false

abbrev pub same_modes : List Mode → List Mode → Bool
same_modes [] [] = true
same_modes (m ∷ ms) (n ∷ ns) = same_mode m n && same_modes ms ns
same_modes ms ns = false

abbrev pub same_det : Det → Det → Bool
same_det det.Det det.Det = true
same_det det.Semidet det.Semidet = true
same_det det.Multi det.Multi = true
same_det det.Nondet det.Nondet = true
same_det det.Failure det.Failure = true
same_det d e = false

-- types of no higher order
abbrev pub same_plain : HldsType → HldsType → Bool
same_plain number number = true
same_plain text text = true
same_plain world world = true
same_plain (named m) (named n) = bytes_eq m n
same_plain t u = false

abbrev pub same_sorts : HldsTypes → HldsTypes → Bool
same_sorts no_types no_types = true
same_sorts (also_type t ts) (also_type u us) = same_plain t u && same_sorts ts us
same_sorts ts us = false

-- below a higher-order type there is none: the checks of declarations refuse it
abbrev pub same_sort : HldsType → HldsType → Bool
same_sort (closure ts ms d) (closure us ns e) = same_sorts ts us && (same_modes ms ns && same_det d e)
same_sort t u = same_plain t u

-- the type of the io state
abbrev pub is_world : HldsType → Bool
is_world world = true
is_world t = false

-- a higher-order type
abbrev pub is_closure : HldsType → Bool
is_closure (closure ts ms d) = true
is_closure t = false
