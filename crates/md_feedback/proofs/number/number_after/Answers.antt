use Rattle.std.proofs.Common.{rules, ◌≡◌, sym, ◌∙◌, ap, subst, true, take, drop}
use Rattle.std.specs.List.{prefix_len}
use Rattle.std.specs.Char.{is_ascii_digit}
use Rattle.std.specs.Str.{all_ascii_digits}
use Rattle.md_feedback.proofs.Digits.{NoDigit, stripped, not_stripped, front_is_digits, none_follows, no_number, number_found}
use Rattle.md_feedback.proofs.number.number_after.Goals as goal

pub returns-in_err-text : goal.returns-in_err-text
returns-in_err-text c = rw c.from_residual.ensures (not_stripped c.args.words.now c.args.text.now c.in_err-text.ensures.cases)

pub number_of-requires : goal.number_of-requires
number_of-requires c =
    let text = c.in_ok-text.text.now in
    let is : c.split_at.result.0.now ≡ take (prefix_len is_ascii_digit text) text = c.split_at.ensures.front ∙ ap (λ n. take n text) c.digits_length.ensures.length in
    rw is (front_is_digits text)

pub returns-in_err-number : goal.returns-in_err-number
returns-in_err-number c =
    let text = c.in_ok-text.text.now in
    let front : c.split_at.result.0.now ≡ take (prefix_len is_ascii_digit text) text = c.split_at.ensures.front ∙ ap (λ n. take n text) c.digits_length.ensures.length in
    let back : c.split_at.result.1.now ≡ drop (prefix_len is_ascii_digit text) text = c.split_at.ensures.back ∙ ap (λ n. drop n text) c.digits_length.ensures.length in
    let all : all_ascii_digits c.split_at.result.0.now ≡ true = rw front (front_is_digits text) in
    let none : NoDigit c.split_at.result.1.now = subst NoDigit (sym back) (none_follows text) in
    rw c.from_residual-in_err-number.ensures
    (no_number c.args.words.now c.args.text.now text c.split_at.result.0.now c.split_at.result.1.now
    (stripped c.args.text.now c.args.words.now text c.in_ok-text.ensures.cases.0 c.in_ok-text.ensures.cases.1) c.split_at.ensures.by_index.0 all none c.in_err-number.ensures)

pub returns : goal.returns
returns c =
    let text = c.in_ok-text.text.now in
    let back : c.split_at.result.1.now ≡ drop (prefix_len is_ascii_digit text) text = c.split_at.ensures.back ∙ ap (λ n. drop n text) c.digits_length.ensures.length in
    let none : NoDigit c.split_at.result.1.now = subst NoDigit (sym back) (none_follows text) in
    number_found c.args.words.now c.args.text.now text c.split_at.result.0.now c.split_at.result.1.now c.in_ok-number.number
    (stripped c.args.text.now c.args.words.now text c.in_ok-text.ensures.cases.0 c.in_ok-text.ensures.cases.1) c.split_at.ensures.by_index.0 none c.in_ok-number.ensures (search rules)
