use Rattle.std.proofs.Common.{List, ℕ, Option, drop, length, ◌∙◌, subst, sym, [], ap, unwrap_or}
use Rattle.md_base.specs.Outside.{Gives}
use Rattle.test_memory.specs.Memory.{listed, given_of}
use Rattle.test_memory.proofs.Stored.{bytes_at-is, given_named, given_any, named_bytes}
use Rattle.test_memory.proofs.store.give_named.Goals as goal

pub returns-clause-gives : goal.returns-clause-gives
returns-clause-gives c =
    let is = c.deref.ensures.value ∙ bytes_at-is c.args.files.now c.in_ok-place.place c.index-files-place.result c.in_ok-place.ensures.within c.index-files-place.is in
    given_named c.args.name.now (listed c.args.files.now) c.in_ok-place.place c.args.at c.give.result c.give.new.buf c.in_ok-place.ensures.there
    (subst (λ (bytes : List ℕ). Gives (drop c.args.at bytes) c.give.result c.give.new.buf) is c.give.ensures.gives)

pub returns-clause-of_any : goal.returns-clause-of_any
returns-clause-of_any c =
    let is = c.deref.ensures.value ∙ bytes_at-is c.args.files.now c.in_ok-place.place c.index-files-place.result c.in_ok-place.ensures.within c.index-files-place.is in
    given_any c.args.name.now (listed c.args.files.now) c.in_ok-place.place c.args.at c.give.result c.give.new.buf c.in_ok-place.ensures.there
    (subst (λ (bytes : List ℕ). Gives (drop c.args.at bytes) c.give.result c.give.new.buf) is c.give.ensures.gives)

pub returns-clause-there : goal.returns-clause-there
returns-clause-there c =
    let found = named_bytes c.args.name.now (listed c.args.files.now) c.in_ok-place.place c.in_ok-place.ensures.there in
    λ absent. cc (found, absent)

pub returns-clause-count : goal.returns-clause-count
returns-clause-count c =
    let is = c.deref.ensures.value ∙ bytes_at-is c.args.files.now c.in_ok-place.place c.index-files-place.result c.in_ok-place.ensures.within c.index-files-place.is in
    let found = named_bytes c.args.name.now (listed c.args.files.now) c.in_ok-place.place c.in_ok-place.ensures.there in
    c.give.ensures.count
    ∙ ap (λ (bytes : List ℕ). given_of (length c.args.buf.now) c.args.most c.args.at bytes) (is ∙ ap (λ (o : Option (List ℕ)). unwrap_or o []) (sym found))
