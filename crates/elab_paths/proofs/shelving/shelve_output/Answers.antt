-- One path more, or all.
use Rattle.std.specs.Prelude.{◌<◌, length}
use Rattle.std.proofs.Common.{subst}
use Rattle.elab_paths.specs.Shelving.{IsShelvedPath}
use Rattle.elab_paths.proofs.OnShelves.{grows-none, grows-then, path-stays, output-made}
use Rattle.elab_paths.proofs.SideBySide.{Each, each-first, each-next, each-whole, all-found}
use Rattle.elab_paths.proofs.shelving.shelve_output.Goals as goal

pub loop-path-init : goal.loop-path-init
loop-path-init c =
    (grows-none c.args.timings.now.items, each-first (IsShelvedPath c.args.timings.now.items c.args.statements.now) c.deref-path-items.result.now c.new-paths.result.items c.new-paths.ensures.items)

pub shelve_path-requires : goal.shelve_path-requires
shelve_path-requires c = record {
  within = all-found (λ p. p.statement < length c.args.statements.now) c.deref-path-items.result.now c.args.output.now.paths.items c.loop-path.path-index c.path-item.result
      c.deref-path-items.ensures.value c.requires.within c.loop-path-test.true c.path-item.is;
}

pub loop-path-preserved : goal.loop-path-preserved
loop-path-preserved c = (
  grows-then c.args.timings.now.items c.loop-path.timings.items c.shelve_path.new.timings.items c.loop-path.invariant.0 c.in_ok-shelve_path.ensures.kept,
  each-next (IsShelvedPath c.loop-path.timings.items c.args.statements.now) (IsShelvedPath c.shelve_path.new.timings.items c.args.statements.now) c.deref-path-items.result.now c.loop-path.path-index
      c.path-item.result c.path-item.result c.loop-path.paths.items c.push.new.self.items c.in_ok-shelve_path.field-0 c.loop-path-test.true c.path-item.is
      (λ p r k. path-stays c.args.statements.now c.loop-path.timings.items c.shelve_path.new.timings.items c.in_ok-shelve_path.ensures.kept p r k) c.in_ok-shelve_path.ensures.path
      c.in_ok-push.ensures.items c.loop-path.invariant.1,
)

pub returns-clause-kept : goal.returns-clause-kept
returns-clause-kept c = c.loop-path.invariant.0

pub returns-clause-output : goal.returns-clause-output
returns-clause-output c =
    output-made c.loop-path.timings.items c.args.statements.now c.args.output.now c.loop-path.paths
    (subst (λ ps. Each (IsShelvedPath c.loop-path.timings.items c.args.statements.now) ps c.loop-path.paths.items) c.deref-path-items.ensures.value
    (each-whole (IsShelvedPath c.loop-path.timings.items c.args.statements.now) c.deref-path-items.result.now c.loop-path.path-index c.loop-path.paths.items c.loop-path-test.false
    c.loop-path.invariant.1))
