-- Each change is asked for.
use Rattle.specify_paths.proofs.Changes.{edge-made}
use Rattle.specify_paths.proofs.statements.edge_of_pairs.Goals as goal

pub returns : goal.returns
returns c =
    edge-made c.args.pairs.now c.has_pair.result c.has_pair-2.result c.has_pair-3.result c.has_pair-4.result c.has_pair-5.result c.has_pair-6.result c.has_pair.ensures c.has_pair-2.ensures
    c.has_pair-3.ensures c.has_pair-4.ensures c.has_pair-5.ensures c.has_pair-6.ensures
