-- A word that isn't read is none of these.
use Rattle.std.proofs.Common.{◌∙◌, sym}
use Rattle.sim_save.proofs.NumberLaws.{failed, no_parsed_count, no_text_count, other_count, worked}
use Rattle.sim_save.proofs.numbers.count_of.Goals as goal

pub returns-in_err-ok : goal.returns-in_err-ok
returns-in_err-ok c =
    let f = failed _ _ c.from_utf8.result c.from_utf8.ensures.cases c.in_err-ok.ensures.value in
    rw c.from_residual.ensures (no_text_count c.args.word.now f.1.0)

pub returns-in_err-n : goal.returns-in_err-n
returns-in_err-n c =
    let t = worked _ _ c.from_utf8.result c.in_ok-ok.field-0 c.from_utf8.ensures.cases c.in_ok-ok.ensures.value in
    rw c.from_residual-in_err-n.ensures (no_parsed_count c.args.word.now c.in_ok-ok.field-0.now c.parse.result t.0 c.parse.ensures.value.0 c.in_err-n.ensures.value)

pub returns-else-eq : goal.returns-else-eq
returns-else-eq c =
    let t = worked _ _ c.from_utf8.result c.in_ok-ok.field-0 c.from_utf8.ensures.cases c.in_ok-ok.ensures.value in
    let s = c.as_bytes.ensures.value in
    let o = c.format.ensures.text in
    other_count c.args.word.now c.in_ok-ok.field-0.now c.as_bytes.result.now c.parse.result c.in_ok-n.n t.0 c.parse.ensures.value.0 c.in_ok-n.ensures.value (s ∙ o) (sym c.if-eq.ensures)
