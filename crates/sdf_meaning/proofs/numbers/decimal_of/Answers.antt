-- What the bytes say is what they spell.
use Rattle.std.proofs.Common.{◌^◌, length, sym, ◌∙◌}
use Rattle.std.proofs.lemmas.Bool.{ltb-true}
use Rattle.sg_time.proofs.SaysLaws.{says_parts}
use Rattle.sg_time.specs.Seen.{outcome}
use Rattle.sdf_meaning.proofs.Decimals.{short_decimal}
use Rattle.sdf_meaning.proofs.numbers.decimal_of.Goals as goal

pub read-requires : goal.read-requires
read-requires c = ltb-true (length c.args.text.now) (2 ^ 30) (sym c.is_short.ensures ∙ c.if-not-is_short.false)

pub returns : goal.returns
returns c = short_decimal c.args.text.now (outcome c.read.result) (sym c.is_short.ensures ∙ c.if-not-is_short.false) (c.read.ensures.only _ (says_parts c.args.text.now))
