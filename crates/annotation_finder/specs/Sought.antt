-- What an entry asks for, with the names of its ports as they are called.
use Rattle.std.specs.Prelude.{ℕ, ℤ, List, ◌∷◌, reverse, Option, Some, None}
use Rattle.sdf_tree.specs.declared.tree.Edge.{Edge}
use Rattle.sdf_tree.specs.declared.words.Divider.{Divider}
use Rattle.sdf_tree.specs.Written.{Port, PathCondition, always}
use Rattle.sdf_tree.specs.Meant.{EntryKind, io_path, device, port_delay, interconnect, path_pulse, a_check, skipped_entry}
use Rattle.annotation_model.specs.Scopes.{names_back}
use Rattle.annotation_scopes.specs.Walks.{names_seen}
use Rattle.annotation_conditions.specs.Seen.{wanted_seen}
use Rattle.annotation_finder.specs.declared.ports.NamedPort as code_port
use Rattle.annotation_finder.specs.declared.sought.Sought as code_sought
use Rattle.annotation_finder.specs.declared.sought.Sought.TheVariants as code

-- a port's names, the last one first, and perhaps a bit
pub record Named : Type 0 where
  pub names : List (List ℕ)
  pub bit : Option ℤ

abbrev pub named : Divider → Port → Named
named divider port = record { names = names_back divider port.path; bit = port.bit }

abbrev pub named_seen : code_port.NamedPort → Named
named_seen port = record { names = port.name.items ∷ reverse (names_seen port.path.items); bit = port.bit }

-- the legs or paths that are asked for
pub data Search : Type 0 where
  between : (from : Named) → Option Edge → (to : Named) → PathCondition → Search
  to_output : Named → Search
  all_paths : Search
  to_input : Named → Search
  connecting : (from to : Named) → Search
  nothing : Search

abbrev pub for_device : Divider → Option Port → Search
for_device divider None = all_paths
for_device divider (Some port) = to_output (named divider port)

abbrev pub for_pulses : Divider → Option (Port × Port) → Search
for_pulses divider None = all_paths
for_pulses divider (Some ports) = between (named divider ports.0) None (named divider ports.1) always

abbrev pub search_for : Divider → EntryKind → Search
search_for divider (io_path condition from to delays) = between (named divider from.port) from.edge (named divider to) condition
search_for divider (device output delays) = for_device divider output
search_for divider (path_pulse percent ports reject error) = for_pulses divider ports
search_for divider (port_delay port delays) = to_input (named divider port)
search_for divider (interconnect from to delays) = connecting (named divider from) (named divider to)
search_for divider (a_check check) = nothing
search_for divider (skipped_entry skipped) = nothing

abbrev pub sought_seen : code_sought.Sought → Search
sought_seen (code.Between from edge to condition) = between (named_seen from) edge (named_seen to) (wanted_seen condition)
sought_seen (code.ToOutput port) = to_output (named_seen port)
sought_seen code.AllPaths = all_paths
sought_seen (code.ToInput port) = to_input (named_seen port)
sought_seen (code.Connecting from to) = connecting (named_seen from) (named_seen to)
sought_seen code.Nothing = nothing
