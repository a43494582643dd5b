-- The names of each circuit of a netlist lead back.
use Rattle.sg_circuit.specs.Circuit.{Circuit}
use Rattle.written_reading.specs.Named.{IsNamed}
use Rattle.written_names.specs.Netlists.{IsOfNetlist}
use Rattle.written_names.proofs.LikeLaws.{like_named}
use Rattle.written_names.proofs.ReadCircuits.{read-checks, read-spots}
use Rattle.written_names.proofs.ReadConditions.{read_conditions}
use Rattle.written_names.proofs.ScopeLaws.{read-has_named_scopes}

pub named_of : (c : Circuit) → IsOfNetlist c → IsNamed c
named_of c n =
    let h = read-has_named_scopes n.texts n.top n.corner n.made n.read in
    let own : IsNamed n.made = record {
      top = h.top;
      others = h.others;
      scope_names = h.scope_names;
      siblings = h.siblings;
      variables = h.variables;
      apart = h.apart;
      spots = read-spots n.texts n.top n.corner n.made n.read;
      checks = read-checks n.texts n.top n.corner n.made n.read;
      conditions = read_conditions n.texts n.top n.corner n.made n.read;
    } in
    like_named n.made c n.like own
