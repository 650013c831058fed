-- The run of a program is what is told of main's body.
use Rattle.std.proofs.Common.{◌≡◌, refl, ap, ◌∙◌, sym, ℕ, ◌-◌, Bool, true, false, List, [], ◌∷◌, ◌++◌, Some, None, cond, nat_le, append_assoc, append-nil}
use Rattle.std.proofs.Common.{arith}
use Rattle.std.proofs.lemmas.Option.{cond_some}
use Rattle.md_hlds.specs.Hlds.{Hlds, Procedure, procedure_called}
use Rattle.md_hlds.specs.Value.{Env}
use Rattle.md_hlds.specs.Trace.{Call, Exit, Fail, Answer, Items, first, trace, call_weight}
use Rattle.md_hlds.specs.Run.{cut, cut_turn, run, run_main, main_name, main_frame}
use Rattle.md_plain.specs.Told.{Run, End, Answered, Missed, Thrown, Over, Told, start, turned, turn, called, closing, closed, in_job, traces}
use Rattle.md_plain.specs.declared.told.Item.{Item}
use Rattle.md_plain.specs.Runs.{item_of, items_told}
use Rattle.md_plain.proofs.ToldLemmas.{cut_on, cut_first}

abbrev ends : Env → ℕ → Items
ends e k = Exit 0 ∷ Answer e ∷ []

abbrev fails : ℕ → Items
fails k = Fail 0 ∷ []

closed_by : (r : Run) (e : End) → closing r e ≡ cut_on ends fails [] (record { run = r; end = e })
closed_by r (Answered e) = append_assoc r.items (Exit 0 ∷ []) (Answer e ∷ [])
closed_by r Missed = refl
closed_by r Thrown = sym (append-nil r.items)
closed_by r Over = refl

pub items_told-append : (xs ys : List Item) → items_told (xs ++ ys) ≡ items_told xs ++ items_told ys
items_told-append [] ys = refl
items_told-append (x ∷ xs) ys = ap (λ zs. item_of x ∷ zs) (items_told-append xs ys)

-- a program without main has no run
pub no_main : (s : Hlds) (b : ℕ) → None ≡ procedure_called s main_name → [] ≡ run s b
unfolding run
no_main s b is = ap (run_main s b) is

refused_main : (b : Bool) (t : Run) (xs : Items) (w : ℕ) → None ≡ cond b (Some t) None → [] ≡ cut_turn 0 None w xs b
refused_main true t xs w is = absurd (grind (arith, is))
refused_main false t xs w is = refl

-- nor has one whose main weighs too much
pub no_budget : (s : Hlds) (b : ℕ) (m : ℕ × Procedure) → Some m ≡ procedure_called s main_name → None ≡ turn (start b) 0 None (call_weight m.1) → [] ≡ run s b
unfolding run
no_budget s b m is made =
    let w : ℕ = call_weight m.1 in
    refused_main (nat_le w b) (turned (start b) 0 None w) (cut (b - w) (Call 0 None None m.0 ∷ first (trace s b (main_frame s m) [] 1) 1 ends fails [])) w made
    ∙ ap (run_main s b) is

pub run_told : (s : Hlds) (b : ℕ) (m : ℕ × Procedure) (t : Run) (u : Told) → Some m ≡ procedure_called s main_name → Some t ≡ turn (start b) 0 None (call_weight m.1)
    → u ≡ traces s b (in_job (main_frame s m) []) (called t t.next None None m.0) → closed u ≡ run s b
unfolding run
run_told s b m t u is made told =
    let w : ℕ = call_weight m.1 in
    let v : Run = turned (start b) 0 None w in
    let fits : (nat_le w b ≡ true) × (v ≡ t) = cond_some (nat_le w b) v t (sym made) in
    closed_by u.run u.end
    ∙ (ap (cut_on ends fails []) (told ∙ ap (λ x. traces s b (in_job (main_frame s m) []) (called x x.next None None m.0)) (sym fits.1))
    ∙ (sym (cut_first (trace s b (main_frame s m) [] 1) (called v 0 None None m.0) ends fails [])
    ∙ (ap (cut_turn 0 None w (cut (b - w) (Call 0 None None m.0 ∷ first (trace s b (main_frame s m) [] 1) 1 ends fails []))) (sym fits.0)
    ∙ ap (run_main s b) is)))
