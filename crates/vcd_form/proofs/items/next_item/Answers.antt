-- The end of the text, or the failing word.
use Rattle.std.proofs.Common.{refl}
use Rattle.std.proofs.lemmas.Option.{slice_get_within}
use Rattle.vcd_form.specs.Places.{read_at}
use Rattle.vcd_form.specs.Words.{words}
use Rattle.vcd_form.proofs.PlaceLaws.{all_read}
use Rattle.vcd_form.proofs.items.next_item.Goals as goal

pub returns-in_default-clause-read : goal.returns-in_default-clause-read
returns-in_default-clause-read c = (all_read c.args.words.now.text.now c.args.words.now.at c.in_default.ensures, refl)

pub returns-in-Err-clause-read : goal.returns-in-Err-clause-read
returns-in-Err-clause-read c = (
  slice_get_within (words c.args.words.now.text.now) (read_at c.args.words.now.text.now c.args.words.now.at) _ c.in-Some.ensures.0,
  (read_at c.args.words.now.text.now c.in-Err.place, c.in-Err.ensures.0, c.byte_from.ensures),
)
