use Rattle.std.proofs.Common.{◌≡◌, ◌∙◌, sym, true}
use Rattle.run_words.proofs.NumberLaws.{time_read}
use Rattle.run_words.specs.Words.{is_number}
use Rattle.run_words.proofs.numbers.time_within.Goals as goal

pub returns : goal.returns
returns c =
    let number : is_number c.args.digits c.args.text.now ≡ true = sym c.is_number.ensures ∙ c.if-not-is_number.false in
    c.ok.ensures.value ∙ time_read c.args.text.now c.parse.result c.args.digits c.requires c.parse.ensures.value.0 number
