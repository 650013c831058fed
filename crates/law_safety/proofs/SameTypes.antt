-- Types that a test calls the same are one type.
use Rattle.std.proofs.Common.{◌≡◌, refl, ap, ap₂, true, false, ◌&&◌, List, [], ◌∷◌, ℕ, bytes_eq}
use Rattle.std.proofs.lemmas.Bool.{and_parts, false≢true}
use Rattle.std.proofs.lemmas.Slice.Eq.{bytes_eq-Decides}
use Rattle.md_hlds.specs.declared.types.Mode.{Mode}
use Rattle.md_hlds.specs.declared.types.Mode.TheVariants.{In, Out, Di, Uo}
use Rattle.md_hlds.specs.declared.types.Det.{Det}
use Rattle.md_hlds.specs.declared.types.Det.TheVariants as det
use Rattle.md_hlds.specs.Hlds.{HldsType, HldsTypes, number, text, world, named, closure, no_types, also_type}
use Rattle.md_inst.specs.HldsTypes.{same_mode, same_modes, same_det, same_plain, same_sorts, same_sort}

no : {A : Type 0} → false ≡ true → A
no h = absurd (false≢true h)

pub same_bytes_are : (a b : List ℕ) → bytes_eq a b ≡ true → a ≡ b
same_bytes_are a b h = (bytes_eq-Decides a b).0 h

same_mode_is : (m n : Mode) → same_mode m n ≡ true → m ≡ n
same_mode_is In In h = refl
same_mode_is Out Out h = refl
same_mode_is Di Di h = refl
same_mode_is Uo Uo h = refl
same_mode_is In Out h = no h
same_mode_is In Di h = no h
same_mode_is In Uo h = no h
same_mode_is Out In h = no h
same_mode_is Out Di h = no h
same_mode_is Out Uo h = no h
same_mode_is Di In h = no h
same_mode_is Di Out h = no h
same_mode_is Di Uo h = no h
same_mode_is Uo In h = no h
same_mode_is Uo Out h = no h
same_mode_is Uo Di h = no h

same_modes_are : (ms ns : List Mode) → same_modes ms ns ≡ true → ms ≡ ns
same_modes_are [] [] h = refl
same_modes_are (m ∷ ms) (n ∷ ns) h =
    let both = and_parts (same_mode m n) (same_modes ms ns) h in
    ap₂ (λ (a : Mode) (b : List Mode). a ∷ b) (same_mode_is m n both.0) (same_modes_are ms ns both.1)
same_modes_are [] (n ∷ ns) h = no h
same_modes_are (m ∷ ms) [] h = no h

pub same_det_is : (d e : Det) → same_det d e ≡ true → d ≡ e
same_det_is det.Det det.Det h = refl
same_det_is det.Semidet det.Semidet h = refl
same_det_is det.Multi det.Multi h = refl
same_det_is det.Nondet det.Nondet h = refl
same_det_is det.Failure det.Failure h = refl
same_det_is det.Det det.Semidet h = no h
same_det_is det.Det det.Multi h = no h
same_det_is det.Det det.Nondet h = no h
same_det_is det.Det det.Failure h = no h
same_det_is det.Semidet det.Det h = no h
same_det_is det.Semidet det.Multi h = no h
same_det_is det.Semidet det.Nondet h = no h
same_det_is det.Semidet det.Failure h = no h
same_det_is det.Multi det.Det h = no h
same_det_is det.Multi det.Semidet h = no h
same_det_is det.Multi det.Nondet h = no h
same_det_is det.Multi det.Failure h = no h
same_det_is det.Nondet det.Det h = no h
same_det_is det.Nondet det.Semidet h = no h
same_det_is det.Nondet det.Multi h = no h
same_det_is det.Nondet det.Failure h = no h
same_det_is det.Failure det.Det h = no h
same_det_is det.Failure det.Semidet h = no h
same_det_is det.Failure det.Multi h = no h
same_det_is det.Failure det.Nondet h = no h

same_plain_is : (t u : HldsType) → same_plain t u ≡ true → t ≡ u
same_plain_is number number h = refl
same_plain_is text text h = refl
same_plain_is world world h = refl
same_plain_is (named m) (named n) h = ap named (same_bytes_are m n h)
same_plain_is number text h = no h
same_plain_is number world h = no h
same_plain_is number (named n) h = no h
same_plain_is number (closure us ns e) h = no h
same_plain_is text number h = no h
same_plain_is text world h = no h
same_plain_is text (named n) h = no h
same_plain_is text (closure us ns e) h = no h
same_plain_is world number h = no h
same_plain_is world text h = no h
same_plain_is world (named n) h = no h
same_plain_is world (closure us ns e) h = no h
same_plain_is (named m) number h = no h
same_plain_is (named m) text h = no h
same_plain_is (named m) world h = no h
same_plain_is (named m) (closure us ns e) h = no h
same_plain_is (closure ts ms d) number h = no h
same_plain_is (closure ts ms d) text h = no h
same_plain_is (closure ts ms d) world h = no h
same_plain_is (closure ts ms d) (named n) h = no h
same_plain_is (closure ts ms d) (closure us ns e) h = no h

same_sorts_are : (ts us : HldsTypes) → same_sorts ts us ≡ true → ts ≡ us
same_sorts_are no_types no_types h = refl
same_sorts_are (also_type t ts) (also_type u us) h =
    let both = and_parts (same_plain t u) (same_sorts ts us) h in
    ap₂ (λ (a : HldsType) (b : HldsTypes). also_type a b) (same_plain_is t u both.0) (same_sorts_are ts us both.1)
same_sorts_are no_types (also_type u us) h = no h
same_sorts_are (also_type t ts) no_types h = no h

three : (ts us : HldsTypes) (ms ns : List Mode) (d e : Det) → ts ≡ us → ms ≡ ns → d ≡ e → closure ts ms d ≡ closure us ns e
three ts us ms ns d e p q r = cc

pub same_sort_is : (t u : HldsType) → same_sort t u ≡ true → t ≡ u
same_sort_is (closure ts ms d) (closure us ns e) h =
    let first = and_parts (same_sorts ts us) (same_modes ms ns && same_det d e) h in
    let second = and_parts (same_modes ms ns) (same_det d e) first.1 in
    three ts us ms ns d e (same_sorts_are ts us first.0) (same_modes_are ms ns second.0) (same_det_is d e second.1)
same_sort_is (closure ts ms d) number h = no h
same_sort_is (closure ts ms d) text h = no h
same_sort_is (closure ts ms d) world h = no h
same_sort_is (closure ts ms d) (named n) h = no h
same_sort_is number u h = same_plain_is number u h
same_sort_is text u h = same_plain_is text u h
same_sort_is world u h = same_plain_is world u h
same_sort_is (named m) u h = same_plain_is (named m) u h
