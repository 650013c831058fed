-- A higher-order site without a link of a procedure is fresh for it.
use Rattle.std.proofs.Common.{ℕ, ◌≡◌, Option, Some, None, IsSomeAnd, MatchOption, slice_get, sym, subst}
use Rattle.md_static.specs.declared.entry.Site.{Site}
use Rattle.md_static.specs.Tables.{callee_of}
use Rattle.md_dynamic.specs.Rows.{Rows, IsHigherOrderSite, IsFresh, callee_in, link_in}

pub fresh-from : (r : Rows) (node site q : ℕ) (o : Option Site) → IsSomeAnd o (λ x. callee_of x.kind ≡ None) → callee_in r node site q ≡ None →
    IsSomeAnd o (λ x. MatchOption (callee_of x.kind) (callee_in r node site q ≡ None) (λ c. link_in r node site ≡ None))
fresh-from r node site q None is none = absurd is
fresh-from r node site q (Some x) is none =
    let P : Option ℕ → Type 0 = λ k. MatchOption k (callee_in r node site q ≡ None) (λ c. link_in r node site ≡ None) in
    subst P (sym is) none

-- likewise in tables that a look-up has left as they were
pub fresh-after : (r old : Rows) (node site q : ℕ) → r ≡ old → IsHigherOrderSite old site → callee_in old node site q ≡ None → IsFresh r node site q
fresh-after r old node site q same is none =
    subst (λ (z : Rows). IsFresh z node site q) (sym same) (fresh-from old node site q (slice_get old.statics.sites site) is none)
