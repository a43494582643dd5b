-- Names and the ranges that declarations give them, be it of a port or of a net, and the faults of these.
use Rattle.std.specs.Prelude.{List, [], ◌∷◌, ◌++◌, Bool, false, ◌&&◌, not, nat_lt, Option, Some, None, map, flat_map, bytes_eq, if◌then◌else◌}
use Rattle.std.specs.List.{list_any}
use Rattle.std.specs.Option.{option_map}
use Rattle.sg_circuit.specs.Closed.{width_of}
use Rattle.sg_circuit.specs.declared.scopes.Range.{Range}
use Rattle.sg_text.specs.declared.places.Place.{Place}
use Rattle.vl_tree.specs.Seen.{view_name}
use Rattle.vl_tree.specs.Tree.{Named, Item, PortDeclaration}
use Rattle.vl_tree.specs.declared.names.Range as written
use Rattle.elab_model.specs.Faults.{Fault, fault, fault_if}
use Rattle.elab_model.specs.NameFaults.{RangeText, port_range, net_range, is_same_range, width_limit}
use Rattle.elab_model.specs.Names.{bounds}
use Rattle.elab_model.specs.Ports.{ports_of_item, nets_of_item}
use Rattle.elab_model.specs.declared.kinds.ElabKind.TheVariants.{WidthMismatch, TooMany}
use Rattle.elab_names.specs.declared.ranges.NamedRange as code

pub record NamedRange : Type 0 where
  pub name : Named
  pub range : Option Range

abbrev pub with_range : Option written.Range → Named → NamedRange
with_range r n = record { name = n; range = option_map bounds r }

abbrev pub view_range : code.NamedRange → NamedRange
view_range d = with_range d.range (view_name d.name)

-- what the definition of faults keeps of a declaration, but for its kind
abbrev pub given_by_text : RangeText → NamedRange
given_by_text t = record { name = t.name; range = t.range }

abbrev pub given : List RangeText → List NamedRange
given ts = map given_by_text ts

abbrev pub port_given : PortDeclaration → NamedRange
port_given d = with_range d.range d.name

abbrev pub given_by_item : Item → List NamedRange
given_by_item i = given (map port_range (ports_of_item i) ++ map net_range (nets_of_item i))

-- whether a range is another than the one that was given before, if one was
abbrev pub is_other : Option Range → Option (Option written.Range) → Bool
is_other r None = false
is_other r (Some q) = not (is_same_range r (option_map bounds q))

-- whether two declarations give one name different ranges
abbrev pub differs_in_range : NamedRange → NamedRange → Bool
differs_in_range s t = bytes_eq s.name.text t.name.text && not (is_same_range s.range t.range)

-- the places of names that an earlier declaration gives another range
abbrev pub differing_places : List NamedRange → List NamedRange → List Place
differing_places before [] = []
differing_places before (s ∷ ss) = (if list_any (differs_in_range s) before then s.name.place ∷ [] else []) ++ differing_places (s ∷ before) ss

abbrev pub range_faults : List NamedRange → List Fault
range_faults ss = map (fault WidthMismatch) (differing_places [] ss)

abbrev pub is_wide : NamedRange → Bool
is_wide s = nat_lt width_limit (width_of s.range)

abbrev pub width_faults : List NamedRange → List Fault
width_faults ss = flat_map (λ s. fault_if (is_wide s) TooMany s.name.place) ss
