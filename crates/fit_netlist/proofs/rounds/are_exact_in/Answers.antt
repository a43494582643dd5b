-- Each change lies in the text.
use Rattle.std.specs.Prelude.{All, List, map}
use Rattle.std.proofs.Common.{arith, subst}
use Rattle.std.proofs.lemmas.List.{take_all}
use Rattle.fit_changes.specs.Changes.{change_seen}
use Rattle.fit_changes.specs.declared.changes.Change as code
use Rattle.fit_netlist.specs.Exact.{IsExact, IsExactBy}
use Rattle.fit_netlist.proofs.ExactLaws.{exact-at, exact-more}
use Rattle.fit_netlist.proofs.PlaceLaws.{piece-taken, piece-whole, within-at}
use Rattle.fit_netlist.proofs.rounds.are_exact_in.Goals as goal

pub slice_bounds-old-count : goal.slice_bounds-old-count
slice_bounds-old-count c =
    let w = within-at 0 c.args.text.now c.args.changes.now c.loop-change.change-index c.change-item.result c.requires c.loop-change-test.true c.change-item.is in omega (arith, w)

pub slice_bounds-old-start : goal.slice_bounds-old-start
slice_bounds-old-start c =
    let w = within-at 0 c.args.text.now c.args.changes.now c.loop-change.change-index c.change-item.result c.requires c.loop-change-test.true c.change-item.is in omega (arith, w)

pub slice_bounds-old-end-in-loop-change : goal.slice_bounds-old-end-in-loop-change
slice_bounds-old-end-in-loop-change c =
    let w = within-at 0 c.args.text.now c.args.changes.now c.loop-change.change-index c.change-item.result c.requires c.loop-change-test.true c.change-item.is in
    let whole = piece-whole c.args.text.now c.change-item.result.byte in
    let taken = piece-taken c.args.text.now c.change-item.result.byte c.change-item.result.size w in
    omega (arith, w, whole, taken)

pub loop-change-preserved : goal.loop-change-preserved
loop-change-preserved c =
    exact-more c.args.text.now c.args.changes.now c.loop-change.change-index c.change-item.result c.loop-change-test.true c.change-item.is c.loop-change.invariant
    (exact-at c.args.text.now c.change-item.result (subst (IsExactBy c.change-item.result.rule _) c.deref.ensures.value (c.in_ok-is_exact_by.ensures c.if-not-branch.false)))

pub returns : goal.returns
returns c = λ e. subst (λ (cs : List code.Change). All (IsExact c.args.text.now) (map change_seen cs)) (take_all c.loop-change.change-index c.args.changes.now c.loop-change-test.false) c.loop-change.invariant
