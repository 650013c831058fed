-- The text for each number is read as its program: all of them are computed.
use Rattle.std.proofs.Common.{◌≡◌, refl, ℕ, ◌≤◌, Ok, map}
use Rattle.std.specs.Fmt.{digits}
use Rattle.std.specs.List.{range_with_len}
use Rattle.md_token.specs.Kinds.{same_kind}
use Rattle.md_token.specs.Token as token
use Rattle.md_reader.specs.Grammar.{Spells}
use Rattle.md_reader.specs.Input as input
use Rattle.md_reader.specs.Rules as rule
use Rattle.md_reader.specs.Duplicates as twice
use Rattle.md_reader.specs.Reading.{reading}
use Rattle.md_reader.proofs.SoundPrograms.{reading_sound}
use Rattle.law_generated.specs.Generated.{gen_text, generated}
use Rattle.law_generated.proofs.Numbers.{same_at}

all_read : map (λ n. reading (gen_text n)) (range_with_len 1 20) ≡ map (λ n. Ok (generated n)) (range_with_len 1 20)
unfolding digits reading same_kind token.tokens_of token.prefix_at token.token_at token.name_at token.variable_at token.word_kind token.sign_at token.colon_at token.single_at input.token input.sees input.next input.after input.expect input.take_name input.word input.variable input.with_variable input.end_clause input.site input.place rule.written rule.pred_name rule.declared_name rule.this_name rule.arguments rule.second rule.call rule.relation rule.unit rule.units_from rule.units rule.conjunction rule.simple_type rule.mode_word rule.determinism rule.plain_argument rule.argument rule.arguments_from rule.declared_arguments rule.head_from rule.head rule.declared_determinism rule.declaration rule.body rule.clause rule.procedure_from rule.procedure rule.module_name rule.heading rule.with_procedure rule.declared_procedure rule.declared rule.declarations_from rule.declarations rule.program twice.second_type_definition twice.second_functor twice.second_procedure twice.duplicate
all_read = refl

pub each_read : (n : ℕ) → 1 ≤ n → n ≤ 20 → reading (gen_text n) ≡ Ok (generated n)
each_read n some few = same_at (λ n. reading (gen_text n)) (λ n. Ok (generated n)) 20 n all_read some few

pub each_spelled : (n : ℕ) → 1 ≤ n → n ≤ 20 → Spells (gen_text n) (generated n)
each_spelled n some few = reading_sound (gen_text n) (generated n) (each_read n some few)
