use Rattle.std.proofs.Common.{◌≡◌, ◌-◌, length}
use Rattle.vcd_form.specs.Places.{read_at, IsBetween}
use Rattle.vcd_form.specs.Rules.{remark_rest}
use Rattle.vcd_form.specs.Words.{words}
use Rattle.vcd_form.proofs.sections.remark_rest.Given as goal

abbrev pub invariant-more : goal.invariant-more
invariant-more l = record {
  rest : remark_rest.read (words l.text) (read_at l.text l.place) ≡ remark_rest.read (words l.text) (read_at l.text l.at);
  between : IsBetween l.text l.place;
}

abbrev pub decreases-more : goal.decreases-more
decreases-more l = length (words l.text) - read_at l.text l.place
