-- One check more, and the end.
use Rattle.std.proofs.Common.{refl}
use Rattle.sdf_tree.specs.Checks.{check}
use Rattle.sdf_tree.proofs.Building.{closed, repeated}
use Rattle.sdf_tree.proofs.ChecksExact.{check-exact}
use Rattle.sdf_windows.proofs.Checks.{check_moves}
use Rattle.sdf_stream.specs.Scans.{check_contents}
use Rattle.sdf_stream.specs.Told.{told}
use Rattle.sdf_stream.proofs.CellParts.{told_more}
use Rattle.sdf_stream.proofs.Scanning.{all_scanned, more_scanned, none_scanned, one_scanned}
use Rattle.sdf_stream.proofs.scans.scan_checks.Goals as goal

pub more-init : goal.more-init
more-init g c =
    let p = g.V.Visit in
    let laws = g.met.V.Visit in
    record { within = c.requires; scanned = none_scanned (check c.args.divider) check_contents (λ es. p.came c.args.visitor.now c.args.visitor.now (told c.args.cell.now es)) c.args.window.now (laws.came_none c.args.visitor.now (laws.leaves c.args.visitor.now c.args.cell.now c.requires)) }

pub more-preserved : goal.more-preserved
more-preserved g c =
    let p = g.V.Visit in
    let laws = g.met.V.Visit in
    let first = c.args.visitor.now in
    let here = c.more.visitor in
    let next = c.tell_check.new.visitor in
    record {
      within = c.in_ok-tell_check.ensures.within;
      scanned = more_scanned (check c.args.divider) check_contents (λ es. p.came first here (told c.args.cell.now es)) (λ es. p.came here next (told c.args.cell.now es)) (λ es. p.came first next (told c.args.cell.now es))
          c.args.window.now c.more.window c.opens.new.window c.whole_part.new.window (repeated (check-exact c.args.divider) refl (closed _)) (check_moves c.args.divider)
          (told_more p.came laws.came_more c.args.cell.now first here next) c.more.invariant.scanned c.in_ok-opens.ensures c.if-branch.true (one_scanned (check c.args.divider) check_contents (λ es. p.came here next (told c.args.cell.now es)) c.opens.new.window c.whole_part.new.window _ c.in_ok-check.ensures c.in_ok-tell_check.ensures.told);
    }

pub returns-clause-scanned : goal.returns-clause-scanned
returns-clause-scanned g c =
    let p = g.V.Visit in
    all_scanned (check c.args.divider) check_contents (λ es. p.came c.args.visitor.now c.more.visitor (told c.args.cell.now es)) c.args.window.now c.more.window c.opens.new.window c.more.invariant.scanned c.in_ok-opens.ensures c.if-branch.false
