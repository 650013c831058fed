-- Connections that were served, one more at a time.
use Rattle.std.proofs.Common.{◌≡◌, ℕ, ◌+◌, ◌<◌, ◌≤◌, List, [], ◌∷◌, ◌++◌, length, Option, None, Some, Ok, Err, refl, sym, ◌∙◌, ap, subst, arith, append_assoc, length-append}
use Rattle.std.proofs.lemmas.List.{append-nil}
use Rattle.md_base.specs.Nets.{Connection, Connections}
use Rattle.md_cost.specs.View.{View}
use Rattle.md_http.specs.Served.{IsServed}
use Rattle.md_http.specs.Serving.{AreServed, none, answered, not_read, not_written, HasServed, IsStep, ServesAll, Serves, fresh_ends, ends_of}
use Rattle.md_http.specs.declared.link.Served.{Served}
use Rattle.md_http.specs.declared.link.Served.TheVariants.{Answered, ReadFault, WriteFault, NoMemory}
use Rattle.md_http.specs.declared.serving.Tally.{Tally}
use Rattle.md_http.specs.declared.serving.ServeFault.{ServeFault}
use Rattle.md_http.specs.declared.serving.ServeFault.TheVariants as fault

abbrev net_of : List (List ℕ) → List Connection → Option Connections
net_of coming served = Some (record { coming = coming; served = served })

pub served_none : (v : View) (before : Connections) (now : Option Connections) → now ≡ Some before → HasServed v before now (record { connections = 0; answered = 0 })
served_none v before now is = record {
  inputs = [];
  connections = [];
  rest = before.coming;
  first = refl;
  given_back = is ∙ ap (λ (served : List Connection). net_of before.coming served) (sym (append-nil before.served));
  each = none;
  counted = refl;
}

-- the same, told of a net that holds as much
same_served : (v : View) (before : Connections) (middle now : Option Connections) (tally : Tally) → (so : HasServed v before middle tally) → now ≡ net_of so.rest (before.served ++ so.connections) → HasServed v before now tally
same_served v before middle now tally so is = record {
  inputs = so.inputs;
  connections = so.connections;
  rest = so.rest;
  first = so.first;
  given_back = is;
  each = so.each;
  counted = so.counted;
}

-- what a count of connections becomes
pub record IsCounted (how : Served) (before now : Tally) : Type 0 where
  pub connections : now.connections ≡ before.connections + 1
  pub answered : how ≡ Answered → now.answered ≡ before.answered + 1
  pub others : (how ≡ Answered → ⊥) → now.answered ≡ before.answered

each_more : (v : View) (inputs : List (List ℕ)) (connections : List Connection) (input : List ℕ) (connection : Connection) (how : Served) (before now : Tally) → IsCounted how before now
    → (how ≡ NoMemory → ⊥) → AreServed v inputs connections before.answered → IsServed v (fresh_ends input) (ends_of connection) how
    → AreServed v (inputs ++ (input ∷ [])) (connections ++ (connection ∷ [])) now.answered
each_more v inputs connections input connection Answered before now is well each served =
    subst (λ (n : ℕ). AreServed v (inputs ++ (input ∷ [])) (connections ++ (connection ∷ [])) n) (sym (is.answered refl)) (answered inputs connections before.answered input connection each served)
each_more v inputs connections input connection ReadFault before now is well each served =
    subst (λ (n : ℕ). AreServed v (inputs ++ (input ∷ [])) (connections ++ (connection ∷ [])) n) (sym (is.others (λ e. cc))) (not_read inputs connections before.answered input connection each served)
each_more v inputs connections input connection WriteFault before now is well each served =
    subst (λ (n : ℕ). AreServed v (inputs ++ (input ∷ [])) (connections ++ (connection ∷ [])) n) (sym (is.others (λ e. cc))) (not_written inputs connections before.answered input connection each served)
each_more v inputs connections input connection NoMemory before now is well each served = absurd (well refl)

-- one connection more
pub served_more : (v : View) (before : Connections) (middle now : Option Connections) (how : Served) (tally more : Tally) → HasServed v before middle tally
    → ((b : Connections) → middle ≡ Some b → IsStep v b now (Ok (Some how))) → (how ≡ NoMemory → ⊥) → IsCounted how tally more → HasServed v before now more
served_more v before middle now how tally more so step well is =
    let one = step _ so.given_back in
    let input = one.0 in
    let connection = one.1 in
    let back = one.2 in
    record {
      inputs = so.inputs ++ (input ∷ []);
      connections = so.connections ++ (connection ∷ []);
      rest = back.rest;
      first = so.first ∙ ap (λ (rest : List (List ℕ)). so.inputs ++ rest) back.first ∙ sym (append_assoc so.inputs (input ∷ []) back.rest);
      given_back = back.given_back ∙ ap (λ (served : List Connection). net_of back.rest served) (append_assoc before.served so.connections (connection ∷ []));
      each = each_more v so.inputs so.connections input connection how tally more is well so.each one.3;
      counted = omega (arith, is.connections, so.counted, length-append so.inputs (input ∷ []));
    }

-- as many as were asked for
pub served_enough : (v : View) (before : Connections) (now : Option Connections) (tally : Tally) (requests : ℕ) → HasServed v before now tally → tally.connections ≤ requests → requests ≤ tally.connections
    → ServesAll v requests before now tally
served_enough v before now tally requests so within enough = record {
  served = so;
  number = omega (arith, within, enough, so.counted, ap length so.first, length-append so.inputs so.rest);
}

-- no more come
pub served_whole : (v : View) (before : Connections) (middle now : Option Connections) (tally : Tally) (requests : ℕ) → HasServed v before middle tally → tally.connections ≤ requests
    → ((b : Connections) → middle ≡ Some b → IsStep v b now (Ok None)) → ServesAll v requests before now tally
served_whole v before middle now tally requests so within step =
    let last = step _ so.given_back in
    record {
      served = same_served v before middle now tally so last.1;
      number = omega (arith, within, so.counted, ap length so.first, length-append so.inputs so.rest, ap length last.0);
    }

-- the next one was refused
pub served_some : (v : View) (before : Connections) (middle now : Option Connections) (tally : Tally) (requests : ℕ) (why : ServeFault) → HasServed v before middle tally → tally.connections < requests
    → ((b : Connections) → middle ≡ Some b → IsStep v b now (Err why)) → Serves v requests before now (Err why)
served_some v before middle now tally requests fault.Net so few step = record { tally = tally; served = same_served v before middle now tally so (step _ so.given_back); fewer = few }
served_some v before middle now tally requests fault.NoMemory so few step =
    record { tally = tally; fewer = few; middle = record { coming = so.rest; served = before.served ++ so.connections }; served = same_served v before middle _ tally so refl; refused = step _ so.given_back }
