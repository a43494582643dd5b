-- A word, a type, an instance and parts, one behind the other.
use Rattle.std.proofs.Common.{[]}
use Rattle.std.proofs.lemmas.Option.{IfSome_then}
use Rattle.sdf_tree.specs.declared.keywords.Keyword.TheVariants as keyword
use Rattle.sdf_stream.proofs.CellParts.{cell_scanned}
use Rattle.sdf_stream.proofs.Wholes.{begins_of}
use Rattle.sdf_stream.proofs.streams.scan_cell.Goals as goal

pub returns-clause-ready : goal.returns-clause-ready
returns-clause-ready g c =
    let laws = g.met.V.Visit in
    IfSome_then c.scan_parts.result c.scan_parts.ensures.within (λ _ w. laws.leaves c.scan_parts.new.visitor _ w)

pub returns-clause-scanned : goal.returns-clause-scanned
returns-clause-scanned g c =
    let p = g.V.Visit in
    let laws = g.met.V.Visit in
    let first = c.args.visitor.now in
    let here = c.cell.new.self in
    let last = c.scan_parts.new.visitor in
    IfSome_then c.scan_parts.result c.scan_parts.ensures.scanned
    (λ _ s. cell_scanned c.args.divider (λ ts. p.came first last ts) (λ ts. p.came here last ts) c.args.window.now c.scan_type.new.window c.scan_instance.new.window c.scan_parts.new.window _ _ (λ ts h. laws.came_more first here last [] ts c.in_ok-cell.ensures.came h)
    (begins_of keyword.Cell c.deref.result.now c.args.window.now.tokens.items c.deref.ensures.value (c.begins.ensures c.if-not-begins.false)) c.in_ok-cell_type.ensures c.in_ok-instance.ensures s)
