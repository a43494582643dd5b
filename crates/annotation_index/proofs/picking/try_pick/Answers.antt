-- It is marked already, doesn't pass, or is marked and listed.
use Rattle.std.specs.Prelude.{◌∷◌, [], ◌++◌, slice_set, true}
use Rattle.std.proofs.Common.{sym, ◌∙◌, subst}
use Rattle.annotation_index.specs.Picking.{ArePicked}
use Rattle.annotation_index.proofs.PickLaws.{picked_again, picked_off, picked_on}
use Rattle.annotation_index.proofs.picking.try_pick.Goals as goal

pub returns-then-marks-place : goal.returns-then-marks-place
returns-then-marks-place g c = λ seen h. picked_again (g.T.Test.test c.args.test.now) seen c.args.marks.now c.args.found.now.items c.args.place c.if-marks-place.true h

pub returns-then-not-passes : goal.returns-then-not-passes
returns-then-not-passes g c = λ seen h. picked_off (g.T.Test.test c.args.test.now) seen c.args.marks.now c.args.found.now.items c.args.place (sym c.passes.ensures ∙ c.if-not-passes.true) h

pub returns : goal.returns
returns g c = λ seen h.
    subst (λ xs. ArePicked (g.T.Test.test c.args.test.now) (seen ++ c.args.place ∷ []) (slice_set c.args.marks.now c.args.place true) xs) (sym c.in_ok-push.ensures.items)
    (picked_on (g.T.Test.test c.args.test.now) seen c.args.marks.now c.args.found.now.items c.args.place c.requires.within c.if-marks-place.false (sym c.passes.ensures ∙ c.if-not-passes.false) h)
