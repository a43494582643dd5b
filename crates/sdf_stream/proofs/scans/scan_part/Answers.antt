-- What the word says is read, or a whole part.
use Rattle.std.proofs.lemmas.Option.{IfSome_then}
use Rattle.sdf_tree.specs.declared.keywords.Keyword.TheVariants as keyword
use Rattle.sdf_stream.specs.Told.{told}
use Rattle.sdf_stream.proofs.CellParts.{checks_scanned, delays_scanned}
use Rattle.sdf_stream.proofs.Wholes.{begins_of}
use Rattle.sdf_stream.proofs.scans.scan_part.Goals as goal

pub returns-then-begins-clause-scanned : goal.returns-then-begins-clause-scanned
returns-then-begins-clause-scanned g c =
    let p = g.V.Visit in
    IfSome_then c.scan_groups.result c.scan_groups.ensures.scanned
    (λ _ s. delays_scanned c.args.divider (λ es. p.came c.args.visitor.now c.scan_groups.new.visitor (told c.args.cell.now es)) c.args.window.now c.scan_groups.new.window (begins_of keyword.Delay c.deref.result.now c.args.window.now.tokens.items c.deref.ensures.value (c.begins.ensures c.if-begins.true)) s)

pub returns-then-begins-2-clause-scanned : goal.returns-then-begins-2-clause-scanned
returns-then-begins-2-clause-scanned g c =
    let p = g.V.Visit in
    IfSome_then c.scan_checks.result c.scan_checks.ensures.scanned
    (λ _ s. checks_scanned c.args.divider (λ es. p.came c.args.visitor.now c.scan_checks.new.visitor (told c.args.cell.now es)) c.args.window.now c.scan_checks.new.window (begins_of keyword.TimingCheck c.deref-2.result.now c.args.window.now.tokens.items c.deref-2.ensures.value (c.begins-2.ensures c.if-begins-2.true)) s)
