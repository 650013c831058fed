-- What is printed of a vector inside a goal or a type.
use Rattle.std.proofs.Common.{◌≡◌, ℕ, Bool, true, false, List, ◌∙◌, ap, sym, Vec, codes}
use Rattle.std.specs.declared.alloc.Global.{Global}
use Rattle.md_hlds.specs.declared.goal.Goal.{Goal}
use Rattle.md_hlds.specs.declared.goal.GoalKind.{GoalKind, Conj, Disj}
use Rattle.md_hlds.specs.declared.types.Ty.{Ty, Ho}
use Rattle.md_hlds.specs.declared.types.HoTy.{HoTy}
use Rattle.md_hlds.specs.HldsGoal.{gathered, goals_of, expr_of}
use Rattle.md_hlds.specs.Hlds.{HldsType, hlds_type_of, hlds_types_of}
use Rattle.md_hlds.proofs.Bridge.{expr_of-Conj, expr_of-Disj, hlds_type_of-Ho, listed_types-gathered}
use Rattle.md_printer.specs.Layout.{in_parentheses, separated}
use Rattle.md_printer.specs.Printed.{expr_tokens, goals_tokens, enclosed, inner_types, single, type_word}

pub tokens_of-Conj : (names : List (List ℕ)) (inner : Bool) (k : GoalKind) (v : Vec Goal Global) (gs : List Goal) → k ≡ Conj v → gs ≡ v.items
    → expr_tokens names inner (expr_of k) ≡ enclosed inner (goals_tokens names true (codes ",") (gathered (goals_of gs)))
tokens_of-Conj names inner k v gs is same =
    ap (λ (k : GoalKind). expr_tokens names inner (expr_of k)) is
    ∙ ap (expr_tokens names inner) (expr_of-Conj v)
    ∙ ap (λ (gs : List Goal). enclosed inner (goals_tokens names true (codes ",") (gathered (goals_of gs)))) (sym same)

pub tokens_of-Disj : (names : List (List ℕ)) (inner : Bool) (k : GoalKind) (v : Vec Goal Global) (gs : List Goal) → k ≡ Disj v → gs ≡ v.items
    → expr_tokens names inner (expr_of k) ≡ in_parentheses (goals_tokens names false (codes ";") (gathered (goals_of gs)))
tokens_of-Disj names inner k v gs is same =
    ap (λ (k : GoalKind). expr_tokens names inner (expr_of k)) is
    ∙ ap (expr_tokens names inner) (expr_of-Disj v)
    ∙ ap (λ (gs : List Goal). in_parentheses (goals_tokens names false (codes ";") (gathered (goals_of gs)))) (sym same)

pub inner_types-Ho : (t : Ty) (h : HoTy) (ts : List Ty) → t ≡ Ho h → ts ≡ h.types.items
    → inner_types (hlds_type_of t) ≡ in_parentheses (separated (single type_word) (codes ",") (hlds_types_of ts))
inner_types-Ho t h ts is same =
    ap (λ (t : Ty). inner_types (hlds_type_of t)) is
    ∙ ap inner_types (hlds_type_of-Ho h)
    ∙ ap (λ (us : List HldsType). in_parentheses (separated (single type_word) (codes ",") us)) (listed_types-gathered (hlds_types_of h.types.items) ∙ ap hlds_types_of (sym same))
