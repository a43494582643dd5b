-- The ranges that the items of a module give to names.
use Rattle.std.specs.Prelude.{◌≡◌, List, [], ◌∷◌, ◌++◌, Bool, Option, map, flat_map, refl}
use Rattle.std.proofs.Common.{sym, ◌∙◌, ap}
use Rattle.std.proofs.lemmas.List.{map-append}
use Rattle.std.proofs.lemmas.Simd.{map-map}
use Rattle.sg_text.specs.declared.places.Place.{Place}
use Rattle.vl_tree.specs.declared.items.Item as code
use Rattle.vl_tree.specs.declared.names.Direction.{Direction}
use Rattle.vl_tree.specs.declared.names.NetType.{NetType}
use Rattle.vl_tree.specs.declared.names.Range as written
use Rattle.vl_tree.specs.Seen.{view_item}
use Rattle.vl_tree.specs.Tree.{Named, NetName, Item, ports, Module}
use Rattle.elab_model.specs.NameFaults.{port_range, net_range, range_texts}
use Rattle.elab_model.specs.Ports.{net_as, ports_of_head, ports_of_item, nets_of_item}
use Rattle.elab_names.specs.GivenRanges.{NamedRange, given, given_by_text, given_by_item, port_given, with_range}

pub ports-given : (p : Place) (d : Direction) (t : Option NetType) (r : Option written.Range) (ns : List Named) → given_by_item (ports p d t r ns) ≡ map (with_range r) ns
ports-given p d t r [] = refl
ports-given p d t r (n ∷ ns) = ap (λ xs. with_range r n ∷ xs) (ports-given p d t r ns)

pub names-given : (is_reg : Bool) (r : Option written.Range) (ns : List Named) → given (map net_range (map (net_as is_reg r) ns)) ≡ map (with_range r) ns
names-given is_reg r [] = refl
names-given is_reg r (n ∷ ns) = ap (λ xs. with_range r n ∷ xs) (names-given is_reg r ns)

pub nets-given : (is_reg : Bool) (r : Option written.Range) (ns : List NetName) → given (map net_range (map (λ n. net_as is_reg r n.name) ns)) ≡ map (λ n. with_range r n.name) ns
nets-given is_reg r [] = refl
nets-given is_reg r (n ∷ ns) = ap (λ xs. with_range r n.name ∷ xs) (nets-given is_reg r ns)

pub item-given : (old new : List NamedRange) (i v : code.Item) (ns : List NamedRange) → i ≡ v → given_by_item (view_item v) ≡ ns → new ≡ old ++ ns → new ≡ old ++ given_by_item (view_item i)
item-given old new i v ns e f h = h ∙ ap (λ xs. old ++ xs) (sym f ∙ ap (λ x. given_by_item (view_item x)) (sym e))

-- ---- the whole list, by its parts

items-given : (is : List Item) → given (flat_map (λ i. map port_range (ports_of_item i) ++ map net_range (nets_of_item i)) is) ≡ flat_map given_by_item is
items-given [] = refl
items-given (i ∷ is) =
    map-append given_by_text (map port_range (ports_of_item i) ++ map net_range (nets_of_item i)) (flat_map (λ i. map port_range (ports_of_item i) ++ map net_range (nets_of_item i)) is)
    ∙ ap (λ xs. given_by_item i ++ xs) (items-given is)

pub module-given : (m : Module) → map port_given (ports_of_head m.head) ++ flat_map given_by_item m.items ≡ given (range_texts m)
module-given m =
    sym (map-append given_by_text (map port_range (ports_of_head m.head)) (flat_map (λ i. map port_range (ports_of_item i) ++ map net_range (nets_of_item i)) m.items)
    ∙ ap (λ xs. given (map port_range (ports_of_head m.head)) ++ xs) (items-given m.items) ∙ ap (λ xs. xs ++ flat_map given_by_item m.items) (map-map given_by_text port_range (ports_of_head m.head)))
