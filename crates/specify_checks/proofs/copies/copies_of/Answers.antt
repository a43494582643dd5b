-- The copies of the reference and of the data are found.
use Rattle.std.specs.Prelude.{◌≡◌, Some}
use Rattle.std.proofs.Common.{ap, sym}
use Rattle.vl_tree.specs.Seen.{view_check}
use Rattle.specify_checks.proofs.CopyPlaces.{both-are, both-within, datum-found, names, refer-found}
use Rattle.specify_checks.proofs.copies.copies_of.Goals.{In_ok-datum}
use Rattle.specify_checks.proofs.copies.copies_of.Goals as goal

datum-is : (c : In_ok-datum) → c.args.datum.now ≡ Some c.in_ok-datum.datum.now
datum-is c = sym c.in_ok-datum.ensures.value

pub returns-in_err-refer-clause-copies : goal.returns-in_err-refer-clause-copies
returns-in_err-refer-clause-copies c =
    let asked = c.requires.asked.1 in
    let m = c.requires.asked.0 in
    let is = ap view_check c.in-TwoLimits.is in
    let named = names m c.args.table.now c.args.copies.now (view_check c.args.text.now) asked c.args.refer.now c.args.datum.now c.requires.terminals _ _ _ _ _ _ _ _ _ is in
    absurd (refer-found m c.args.table.now c.args.copies.now (view_check c.args.text.now) asked c.args.refer.now c.args.datum.now c.requires.terminals _ _ _ _ _ _ _ _ _ is
    (c.in_err-refer.ensures named.0 m asked.ready))

pub returns-in_err-datum-2-clause-copies : goal.returns-in_err-datum-2-clause-copies
returns-in_err-datum-2-clause-copies c =
    let asked = c.requires.asked.1 in
    let m = c.requires.asked.0 in
    let is = ap view_check c.in-TwoLimits.is in
    let named = names m c.args.table.now c.args.copies.now (view_check c.args.text.now) asked c.args.refer.now c.args.datum.now c.requires.terminals _ _ _ _ _ _ _ _ _ is in
    absurd (datum-found m c.args.table.now c.args.copies.now (view_check c.args.text.now) asked c.args.refer.now c.args.datum.now c.requires.terminals _ _ _ _ _ _ _ _ _ is
    c.in_ok-datum.datum.now (sym c.in_ok-datum.ensures.value) (c.in_err-datum-2.ensures named.1 m asked.ready))

pub returns-clause-copies : goal.returns-clause-copies
returns-clause-copies c =
    let asked = c.requires.asked.1 in
    let m = c.requires.asked.0 in
    let is = ap view_check c.in-TwoLimits.is in
    let named = names m c.args.table.now c.args.copies.now (view_check c.args.text.now) asked c.args.refer.now c.args.datum.now c.requires.terminals _ _ _ _ _ _ _ _ _ is in
    both-are m c.args.table.now c.args.copies.now (view_check c.args.text.now) asked c.args.refer.now c.args.datum.now c.requires.terminals _ _ _ _ _ _ _ _ _ is
    c.in_ok-datum.datum.now c.in_ok-refer.refer c.in_ok-datum-2.datum (sym c.in_ok-datum.ensures.value) (c.in_ok-refer.ensures named.0 m asked.ready) (c.in_ok-datum-2.ensures named.1 m asked.ready)

pub returns-clause-within : goal.returns-clause-within
returns-clause-within c =
    let asked = c.requires.asked.1 in
    let m = c.requires.asked.0 in
    let is = ap view_check c.in-TwoLimits.is in
    let named = names m c.args.table.now c.args.copies.now (view_check c.args.text.now) asked c.args.refer.now c.args.datum.now c.requires.terminals _ _ _ _ _ _ _ _ _ is in
    both-within m c.args.table.now c.args.copies.now asked.ready _ _ c.in_ok-refer.refer c.in_ok-datum-2.datum (c.in_ok-refer.ensures named.0 m asked.ready) (c.in_ok-datum-2.ensures named.1 m asked.ready)
