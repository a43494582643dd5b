use Rattle.std.proofs.Common.{◌≡◌, ◌∙◌, sym, true}
use Rattle.run_words.proofs.NumberLaws.{is_read}
use Rattle.run_words.specs.Words.{is_number}
use Rattle.run_words.proofs.numbers.number_up_to.Goals as goal

pub returns-in_err-number : goal.returns-in_err-number
returns-in_err-number c =
    let number : is_number c.args.digits c.args.text.now ≡ true = sym c.is_number.ensures ∙ c.if-not-is_number.false in
    absurd (is_read c.args.text.now c.parse.result c.args.digits c.requires c.parse.ensures.value.0 number (sym c.ok.ensures.value ∙ c.in_err-number.was))
