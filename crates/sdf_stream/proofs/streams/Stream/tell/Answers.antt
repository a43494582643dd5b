-- One cell more, and the end.
use Rattle.std.proofs.lemmas.Option.{IfSome_then}
use Rattle.sdf_stream.proofs.Filing.{cell_more, opened_amid, told_all}
use Rattle.sdf_stream.proofs.streams.Stream.tell.Goals as goal

pub more-init : goal.more-init
more-init g c =
    let p = g.V.Visit in
    let laws = g.met.V.Visit in
    let first = c.args.visitor.now in
    record {
      ready = c.requires;
      amid = λ text o. opened_amid text c.args.self (λ ts. p.came first first ts) (laws.came_none first c.requires) o;
    }

pub more-preserved : goal.more-preserved
more-preserved g c =
    let p = g.V.Visit in
    let laws = g.met.V.Visit in
    let first = c.args.visitor.now in
    let here = c.more.visitor in
    let next = c.scan_cell.new.visitor in
    record {
      ready = c.in_ok-scan_cell.ensures.ready;
      amid = λ text o. cell_more text (λ ts. p.came first here ts) (λ ts. p.came here next ts) (λ ts. p.came first next ts) c.more.window c.scan_cell.new.window c.opens.new.window c.in_ok-more.more c.args.self.unit.power c.args.self.divider
          (λ xs ys. laws.came_more first here next xs ys) c.more.more (c.more.invariant.amid text o) c.in_ok-scan_cell.ensures.scanned c.in_ok-more.ensures;
    }

pub returns : goal.returns
returns g c = λ text o.
    let p = g.V.Visit in
    IfSome_then c.finish.result c.finish.ensures
    (λ _ ends. told_all text (λ ts. p.came c.args.visitor.now c.more.visitor ts) c.more.window c.args.self.unit.power c.args.self.divider (c.more.invariant.amid text o) c.more-test.false ends)
