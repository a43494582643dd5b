-- What the parts of a tree are named and use.
use Rattle.std.specs.Prelude.{ℕ, Bool, List, [], ◌∷◌, flat_map, bytes_eq}
use Rattle.std.specs.List.{list_any}
use Rattle.vl_tree.specs.Tree.{Item, ports, nets, supplies, registers, assigns, gates, instances, specify_block, Part, a_module, a_primitive, Source}

abbrev pub name_of : Part → List ℕ
name_of (a_module m) = m.name.text
name_of (a_primitive p) = p.name.text

-- whether a name is that of a part
abbrev pub defines : Source → List ℕ → Bool
defines tree n = list_any (λ p. bytes_eq n (name_of p)) tree

-- the module or primitive that an item has instances of (IEEE 1364-2005, 12.1.2, 8.6)
abbrev pub used_by_item : Item → List (List ℕ)
used_by_item (ports p d t r ns) = []
used_by_item (nets p t r ns) = []
used_by_item (supplies p s r ns) = []
used_by_item (registers p ns) = []
used_by_item (assigns p js) = []
used_by_item (gates p g d is) = []
used_by_item (instances n d is) = n.text ∷ []
used_by_item (specify_block b) = []

-- those that a part has instances of
abbrev pub used_by : Part → List (List ℕ)
used_by (a_module m) = flat_map used_by_item m.items
used_by (a_primitive p) = []

-- whether a part has instances of it
abbrev pub uses : Source → List ℕ → Bool
uses tree n = list_any (λ p. list_any (bytes_eq n) (used_by p)) tree
