-- What is there, followed by what is left, is the whole.
use Rattle.std.proofs.Common.{◌≡◌, ◌++◌, map, drop}
use Rattle.vl_tree.specs.Seen.{view_name}
use Rattle.elab_modules.proofs.connections.names_of.Given as goal

abbrev pub invariant-loop-connection : goal.invariant-loop-connection
invariant-loop-connection l = map view_name l.names.items ++ map (λ c. view_name c.port) (drop l.connection-index l.connections) ≡ map (λ c. view_name c.port) l.connections
