-- One output more, or all.
use Rattle.std.specs.Prelude.{◌<◌, All, length}
use Rattle.std.proofs.Common.{◌∙◌, sym, ap, subst}
use Rattle.elab_paths.specs.Shelving.{AreRead, AreShelved, IsShelvedOutput}
use Rattle.elab_paths.proofs.OnShelves.{grows-then, shelved-count, output-stays, outputs-ready, outputs-named}
use Rattle.elab_paths.proofs.SideBySide.{Each, each-next, each-whole, all-found}
use Rattle.elab_paths.proofs.shelving.shelve.Goals.{After-drop-paths-2}
use Rattle.elab_paths.proofs.shelving.shelve.Goals as goal

pub shelve_output-requires : goal.shelve_output-requires
shelve_output-requires c =
    let count = ap length c.deref.ensures.value
    ∙ shelved-count c.shelve_statements.new.conditions.items c.args.paths.statements.items c.in_ok-statements.statements.items c.in_ok-statements.ensures.statements in
    record {
      within = all-found (λ o. All (λ p. p.statement < length c.deref.result.now) o.paths.items) c.deref-output-items.result.now c.args.paths.outputs.items c.loop-output.output-index
          c.output-item.result c.deref-output-items.ensures.value
          (subst (λ n. All (λ o. All (λ p. p.statement < n) o.paths.items) c.args.paths.outputs.items) (sym count) c.requires.within) c.loop-output-test.true c.output-item.is;
    }

pub loop-output-preserved : goal.loop-output-preserved
loop-output-preserved c =
    let shelved = c.in_ok-statements.statements.items in (
      grows-then c.args.shelves.now.timings.items c.loop-output.shelves.timings.items c.shelve_output.new.timings.items c.loop-output.invariant.0 c.in_ok-shelve_output.ensures.kept,
      each-next (IsShelvedOutput c.loop-output.shelves.timings.items shelved) (IsShelvedOutput c.shelve_output.new.timings.items shelved) c.deref-output-items.result.now
          c.loop-output.output-index c.output-item.result c.output-item.result c.loop-output.outputs.items c.push.new.self.items c.in_ok-shelve_output.field-0 c.loop-output-test.true
          c.output-item.is
          (λ o r k. output-stays shelved c.loop-output.shelves.timings.items c.shelve_output.new.timings.items c.in_ok-shelve_output.ensures.kept o r k)
          (subst (λ ss. IsShelvedOutput c.shelve_output.new.timings.items ss c.output-item.result c.in_ok-shelve_output.field-0) c.deref.ensures.value c.in_ok-shelve_output.ensures.output)
          c.in_ok-push.ensures.items c.loop-output.invariant.1,
      c.loop-output.invariant.2,
    )

-- all stand on the shelves
all-each : (c : After-drop-paths-2)
    → Each (IsShelvedOutput c.loop-output.shelves.timings.items c.in_ok-statements.statements.items) c.args.paths.outputs.items c.loop-output.outputs.items
all-each c =
    let R = IsShelvedOutput c.loop-output.shelves.timings.items c.in_ok-statements.statements.items in
    subst (λ os. Each R os c.loop-output.outputs.items) c.deref-output-items.ensures.value
    (each-whole R c.deref-output-items.result.now c.loop-output.output-index c.loop-output.outputs.items c.loop-output-test.false c.loop-output.invariant.1)

all-shelved : (c : After-drop-paths-2) → AreShelved c.loop-output.shelves.conditions.items c.args.paths.statements.items c.in_ok-statements.statements.items
all-shelved c = subst (λ v. AreShelved v.items c.args.paths.statements.items c.in_ok-statements.statements.items) (sym c.loop-output.invariant.2) c.in_ok-statements.ensures.statements

pub returns-clause-outputs : goal.returns-clause-outputs
returns-clause-outputs c = λ vs timings conditions.
    outputs-ready vs c.args.paths c.in_ok-statements.statements.items c.loop-output.shelves.timings.items timings c.loop-output.shelves.conditions.items conditions c.loop-output.outputs.items
    (all-shelved c) (all-each c)

pub returns-clause-named : goal.returns-clause-named
returns-clause-named c = λ vs row.
    outputs-named vs c.args.paths c.in_ok-statements.statements.items c.loop-output.shelves.timings.items c.loop-output.shelves.conditions.items c.loop-output.outputs.items (all-shelved c) (all-each c)
    row

pub returns-clause-read : goal.returns-clause-read
returns-clause-read c = λ all begun. subst (λ v. AreRead v.items) (sym c.loop-output.invariant.2) (c.in_ok-statements.ensures.read all begun)
