-- One part more, and the end.
use Rattle.std.proofs.Common.{refl, true}
use Rattle.sdf_tree.specs.Files.{part}
use Rattle.sdf_tree.proofs.Building.{closed, repeated}
use Rattle.sdf_tree.proofs.FilesExact.{part-exact}
use Rattle.sdf_windows.proofs.Files.{part_moves}
use Rattle.sdf_stream.specs.Scans.{part_contents}
use Rattle.sdf_stream.specs.Told.{told}
use Rattle.sdf_stream.proofs.CellParts.{told_more}
use Rattle.sdf_stream.proofs.Scanning.{all_scanned, more_scanned, none_scanned}
use Rattle.sdf_stream.proofs.scans.scan_parts.Goals as goal

pub more-init : goal.more-init
more-init g c =
    let p = g.V.Visit in
    let laws = g.met.V.Visit in
    record { within = c.requires; scanned = none_scanned (part true c.args.divider) part_contents (λ es. p.came c.args.visitor.now c.args.visitor.now (told c.args.cell.now es)) c.args.window.now (laws.came_none c.args.visitor.now (laws.leaves c.args.visitor.now c.args.cell.now c.requires)) }

pub more-preserved : goal.more-preserved
more-preserved g c =
    let p = g.V.Visit in
    let laws = g.met.V.Visit in
    let first = c.args.visitor.now in
    let here = c.more.visitor in
    let next = c.scan_part.new.visitor in
    record {
      within = c.in_ok-scan_part.ensures.within;
      scanned = more_scanned (part true c.args.divider) part_contents (λ es. p.came first here (told c.args.cell.now es)) (λ es. p.came here next (told c.args.cell.now es)) (λ es. p.came first next (told c.args.cell.now es))
          c.args.window.now c.more.window c.opens.new.window c.scan_part.new.window (repeated (part-exact true c.args.divider) refl (closed _)) (part_moves true c.args.divider)
          (told_more p.came laws.came_more c.args.cell.now first here next) c.more.invariant.scanned c.in_ok-opens.ensures c.if-branch.true c.in_ok-scan_part.ensures.scanned;
    }

pub returns-clause-scanned : goal.returns-clause-scanned
returns-clause-scanned g c =
    let p = g.V.Visit in
    all_scanned (part true c.args.divider) part_contents (λ es. p.came c.args.visitor.now c.more.visitor (told c.args.cell.now es)) c.args.window.now c.more.window c.opens.new.window c.more.invariant.scanned c.in_ok-opens.ensures c.if-branch.false
