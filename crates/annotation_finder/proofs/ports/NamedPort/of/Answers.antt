-- A path has a last name.
use Rattle.std.proofs.Common.{arith, map, reverse, ◌∷◌}
use Rattle.sdf_lex.specs.Names.{called, path_parts}
use Rattle.sdf_tree.specs.Words.{divider_byte}
use Rattle.annotation_scopes.specs.Walks.{names_seen}
use Rattle.annotation_finder.proofs.PortLaws.{some_names, last_taken, same_named}
use Rattle.annotation_finder.proofs.ports.NamedPort.of.Goals as goal

pub unreachable-requires : goal.unreachable-requires
unreachable-requires c =
    let empty = c.in_default.ensures.cases.0 in
    let some = some_names (divider_byte c.args.divider) c.args.port.now.path.now c.in_ok-path.path.items c.in_ok-path.ensures in
    let counted = c.in_ok-path.path.ok.0 in
    omega (arith, empty, some, counted)

pub returns : goal.returns
returns c =
    same_named (c.in-Some.name.items ∷ reverse (names_seen c.pop.new.self.items)) (reverse (map called (path_parts (divider_byte c.args.divider) c.args.port.now.path.now))) c.args.port.now.bit
    (last_taken c.in_ok-path.path.items c.pop.new.self.items c.in-Some.name (map called (path_parts (divider_byte c.args.divider) c.args.port.now.path.now)) c.in-Some.ensures.items c.in_ok-path.ensures)
