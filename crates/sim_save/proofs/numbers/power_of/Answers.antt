-- A word that isn't read is none of these.
use Rattle.std.proofs.Common.{◌∙◌, sym}
use Rattle.sim_save.proofs.NumberLaws.{failed, no_parsed_power, no_text_power, other_power, worked}
use Rattle.sim_save.proofs.numbers.power_of.Goals as goal

pub returns-in_err-ok : goal.returns-in_err-ok
returns-in_err-ok c =
    let f = failed _ _ c.from_utf8.result c.from_utf8.ensures.cases c.in_err-ok.ensures.value in
    rw c.from_residual.ensures (no_text_power c.args.word.now f.1.0)

pub returns-in_err-power : goal.returns-in_err-power
returns-in_err-power c =
    let t = worked _ _ c.from_utf8.result c.in_ok-ok.field-0 c.from_utf8.ensures.cases c.in_ok-ok.ensures.value in
    rw c.from_residual-in_err-power.ensures (no_parsed_power c.args.word.now c.in_ok-ok.field-0.now c.parse.result t.0 c.parse.ensures.value.0 c.in_err-power.ensures.value)

pub returns-else-eq : goal.returns-else-eq
returns-else-eq c =
    let t = worked _ _ c.from_utf8.result c.in_ok-ok.field-0 c.from_utf8.ensures.cases c.in_ok-ok.ensures.value in
    let s = c.as_bytes.ensures.value in
    let o = c.format.ensures.text in
    other_power c.args.word.now c.in_ok-ok.field-0.now c.as_bytes.result.now c.parse.result c.in_ok-power.power t.0 c.parse.ensures.value.0 c.in_ok-power.ensures.value (s ∙ o) (sym c.if-eq.ensures)
