use Rattle.std.proofs.Common.{◌∙◌, sym, ap}
use Rattle.sdf_lex.specs.Words.{is_sized}
use Rattle.sdf_lex.proofs.NumberLaws.{size_stands}
use Rattle.sdf_lex.proofs.words.size_of.Goals as goal
use Rattle.sdf_lex.proofs.words.size_of.Goals.{After-number_of}
use Rattle.std.proofs.Common.{◌≡◌, true, drop}

sized : (c : After-number_of) → is_sized c.digits_len-count.result (drop c.digits_len-count.result c.args.bytes.now) ≡ true
sized c = ap (λ xs. is_sized c.digits_len-count.result xs) (sym c.split_at.ensures.back) ∙ sym c.is_sized.ensures ∙ c.if-not-is_sized.false

pub returns-clause-value : goal.returns-clause-value
returns-clause-value c = (size_stands c.args.bytes.now c.split_at.result.0.now c.digits_len-count.result c.number_of.result c.digits_len-count.ensures.size c.split_at.ensures.front (sized c) c.number_of.ensures.some c.number_of.ensures.none).0

pub returns-clause-small : goal.returns-clause-small
returns-clause-small c = (size_stands c.args.bytes.now c.split_at.result.0.now c.digits_len-count.result c.number_of.result c.digits_len-count.ensures.size c.split_at.ensures.front (sized c) c.number_of.ensures.some c.number_of.ensures.none).1
