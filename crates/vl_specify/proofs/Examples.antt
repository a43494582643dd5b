-- Worked examples of the definitions.
use Rattle.std.proofs.Common.{◌≡◌, Some, None, refl}
use Rattle.std.specs.Prelude.{codes}
use Rattle.sg_text.specs.declared.words.Keyword.TheVariants as keyword
use Rattle.vl_token.specs.declared.symbols.Symbol.TheVariants as symbol
use Rattle.vl_token.specs.Tokens.{name_token, symbol_token, system_token, word_token}
use Rattle.vl_specify.specs.Faults.{left_out, told, told_by_limit}
use Rattle.vl_specify.specs.declared.faults.SpecifyKind.TheVariants.{ShowCancelled, UnsupportedCheck, BadDelayCount}

the_word : told (word_token keyword.ShowCancelled) ≡ Some ShowCancelled
the_word = refl

another_word : told (word_token keyword.NoShowCancelled) ≡ None
another_word = refl

a_check_left_out : told (system_token (codes "$nochange")) ≡ Some UnsupportedCheck
unfolding left_out
a_check_left_out = refl

a_check_of_the_grammar : told (system_token (codes "$setup")) ≡ None
unfolding left_out
a_check_of_the_grammar = refl

a_list_goes_on : told_by_limit (symbol_token symbol.Comma) ≡ BadDelayCount
a_list_goes_on = refl

a_list_ends : told_by_limit (symbol_token symbol.RightParen) ≡ BadDelayCount
a_list_ends = refl

a_filled_argument : told_by_limit (name_token (codes "n")) ≡ UnsupportedCheck
a_filled_argument = refl
