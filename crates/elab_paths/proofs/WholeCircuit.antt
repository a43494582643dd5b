-- The paths of all instances: the elements are those of the circuit.
use Rattle.std.specs.Prelude.{◌≡◌, ℕ, ◌<◌, ◌≤◌, ◌^◌, List, [], flat_map, length, map, slice_index_or}
use Rattle.std.specs.List.{AllByRecursion, range_with_len}
use Rattle.std.proofs.Common.{sym, ◌∙◌, ap, arith, subst}
use Rattle.std.proofs.lemmas.List.{length-map}
use Rattle.sg_circuit.specs.Seen.{paths_of, AreApart}
use Rattle.sg_circuit.specs.declared.elements.Element as code
use Rattle.sg_delay.specs.declared.corners.Corner.{Corner}
use Rattle.vl_tree.specs.Tree.{Module, Source}
use Rattle.elab_model.specs.Delays.{tick_of}
use Rattle.elab_model.specs.Drivers.{elements as components}
use Rattle.elab_model.specs.Elements.{Component, elements_of}
use Rattle.elab_model.specs.Hierarchy.{Instance, instances, size, levels_below_top}
use Rattle.elab_model.specs.HierarchyFaults.{count_limit}
use Rattle.elab_model.specs.Nets.{OwnNet, nets}
use Rattle.elab_model.specs.Numbered.{element_of}
use Rattle.specify_model.specs.Faults.{specify_faults}
use Rattle.circuit_model.specs.Faults.{path_count}
use Rattle.circuit_model.specs.PathUses as def
use Rattle.elab_laws.proofs.Lists.{Pairwise, all-anyway, all-map_back, pairwise-map_back}
use Rattle.elab_laws.proofs.Numbers.{numbers-are-places}
use Rattle.elab_hierarchy.specs.declared.instances.Placed.{Placed}
use Rattle.elab_elements.specs.Library.{Library}
use Rattle.elab_elements.specs.RowsType.{Rows}
use Rattle.elab_elements.specs.Seen.{element_in}
use Rattle.elab_elements.specs.declared.placing.Placing.{Placing}
use Rattle.elab_paths.specs.AllPaths.{AreGiven, HaveAllPaths, Tables, tables_of, element_with, NamesTables}
use Rattle.elab_paths.specs.Filling.{paths_among, filled}
use Rattle.elab_paths.specs.Standing.{AreStanding}
use Rattle.elab_paths.specs.Uses.{AreUses}
use Rattle.elab_paths.specs.declared.modules.ModulePaths.{ModulePaths}
use Rattle.elab_paths.specs.declared.uses.PathUses.{PathUses}
use Rattle.elab_paths.proofs.Beside.{elements-apart}
use Rattle.elab_paths.proofs.FilledElements.{HasLegs, AreSame, Hold, of, elements-seen, elements-named, outputs-stay, paths-count}
use Rattle.elab_paths.proofs.FoundUses.{inner_spots, HasInner, AreOtherSpots, AreOtherUses, IsInnerOf, inners-apart, uses-inner, have-inner}
use Rattle.elab_paths.proofs.InnerReaders.{ReadInOrder, elements-read, read-flat}
use Rattle.elab_paths.proofs.InstanceUses.{no-faults}
use Rattle.elab_paths.proofs.PathEnds.{mapped-twice}

-- ---- what is given

pub are-standing : (source : Source) (top : Module) (corner : Corner) (library : Library) (modules : ModulePaths) (placed : List Placed) (rows : Rows) (made : Placing)
    → AreGiven source top corner library modules placed rows made → AreStanding source top corner library modules placed rows
are-standing source top corner library modules placed rows made h =
    record { are_placed = h.are_placed; few = h.few; is_ready = h.is_ready; have_rows = h.have_rows; legs = h.legs; have_paths = h.have_paths }

has-legs : (source : Source) (top : Module) (corner : Corner) (library : Library) (modules : ModulePaths) (placed : List Placed) (rows : Rows) (made : Placing)
    → AreGiven source top corner library modules placed rows made → HasLegs modules.timings.items
has-legs source top corner library modules placed rows made h = record { legs = h.legs; first = h.have_paths.first; without_delay = h.without_delay }

-- ---- what is driven inside, where no block has a fault

module _ (source : Source) (top : Module) (corner : Corner) (all : List OwnNet) (ss : List Instance)
    (faultless : AllByRecursion (λ s. specify_faults corner (tick_of source top) s.step.definition ≡ []) ss) where
  abbrev uses-of : List def.PathUse
  uses-of = flat_map (def.path_uses_of all source corner (tick_of source top)) ss

  pub read-all : ReadInOrder (flat_map (elements_of source corner (tick_of source top)) ss) (map (λ u. u.inner) uses-of)
  read-all =
      subst (ReadInOrder (flat_map (elements_of source corner (tick_of source top)) ss)) (sym (uses-inner all source corner (tick_of source top) ss faultless))
      (read-flat (elements_of source corner (tick_of source top)) inner_spots ss
      (all-anyway (λ s. ReadInOrder (elements_of source corner (tick_of source top) s) (inner_spots s)) ss (λ s. elements-read source s corner (tick_of source top))))

  pub uses-have_inner : AllByRecursion HasInner uses-of
  uses-have_inner =
      all-map_back (λ spot. (k : ℕ) × IsInnerOf k spot) (λ (u : def.PathUse). u.inner) uses-of
      (subst (AllByRecursion (λ spot. (k : ℕ) × IsInnerOf k spot)) (sym (uses-inner all source corner (tick_of source top) ss faultless)) (have-inner ss))

  pub uses-apart : (n : ℕ) → map (λ s. s.step.number) ss ≡ range_with_len 0 n → Pairwise AreOtherUses uses-of
  uses-apart n h =
      pairwise-map_back AreOtherSpots (λ (u : def.PathUse). u.inner) uses-of
      (subst (Pairwise AreOtherSpots) (sym (uses-inner all source corner (tick_of source top) ss faultless)) (inners-apart ss n h))

-- ---- all of a netlist

-- no two of them have a path in common
abbrev Apart : List code.Element → Type 0
Apart es = (i j : ℕ) (d : code.Element) → i < j → j < length es → AreApart (paths_of (slice_index_or es i d).kind) (paths_of (slice_index_or es j d).kind)

few-same : (m n : ℕ) → m ≡ n → m ≤ count_limit → n ≤ count_limit
few-same m n e h = omega (arith, e, h)

module _ (source : Source) (top : Module) (corner : Corner) (library : Library) (modules : ModulePaths) (placed : List Placed) (rows : Rows) (old : Placing)
    (given : AreGiven source top corner library modules placed rows old) (made : PathUses) (uses : AreUses modules.conditions.items modules.timings.items made (def.path_uses source top corner)) where
  abbrev us : List def.PathUse
  us = def.path_uses source top corner

  abbrev cs : List Component
  cs = components source top corner

  abbrev tables : Tables
  tables = tables_of library modules made.paths.items

  faultless : AllByRecursion (λ s. specify_faults corner (tick_of source top) s.step.definition ≡ []) (instances source top)
  faultless = no-faults source top corner given.have_paths.faultless

  read : ReadInOrder cs (map (λ u. u.inner) us)
  read = read-all source top corner (nets source top) (instances source top) faultless

  -- there is a use for each Path
  pub uses-enough : paths_among old.elements.items ≤ length made.uses.items
  uses-enough =
      let paths = paths-count tables (has-legs source top corner library modules placed rows old given) (nets source top) (map (λ u. u.inner) us) cs old.elements.items read given.are_elements.elements in
      let a = length-map us (λ u. u.inner) in
      let b = length-map us (λ u. u.style) in
      let d = ap length uses.styles in
      let f = length-map made.uses.items (λ u. u.style) in
      omega (arith, paths, a, b, d, f)

  pub have-all_paths : (new : Placing) → new.elements.items ≡ filled made.uses.items old.elements.items → new.places.items ≡ old.places.items → length made.paths.items ≤ 2 ^ 22
      → HaveAllPaths source top corner library modules made.paths.items new
  have-all_paths new is places few =
      let all = nets source top in
      let legs = has-legs source top corner library modules placed rows old given in
      let same : AreSame tables made.uses.items us = record { paths = uses.paths; styles = uses.styles } in
      let inner = uses-have_inner source top corner all (instances source top) faultless in
      let apart = uses-apart source top corner all (instances source top) faultless (size source levels_below_top top) (numbers-are-places source top) in
      let seen = given.are_elements.elements in
      let count = length-map old.elements.items (element_in library.gate_delays.items library.udps.items) in
      record {
        elements = ap (map (element_with tables)) is ∙ elements-seen tables legs all [] us made.uses.items cs old.elements.items read same inner apart seen given.are_elements.named;
        outputs = ap of is ∙ outputs-stay made.uses.items old.elements.items
            ∙ sym (mapped-twice (element_in library.gate_delays.items library.udps.items) (λ e. e.output) old.elements.items) ∙ ap (map (λ e. e.output)) seen ∙ mapped-twice (element_of all) (λ e. e.output) cs;
        places = places ∙ given.are_elements.places;
        named = subst (Hold (NamesTables tables)) (sym is) (elements-named tables legs made.uses.items old.elements.items uses-enough uses.spans given.are_elements.named);
        apart = subst Apart (sym is) (elements-apart made.uses.items old.elements.items uses-enough uses.beside);
        few_elements = few-same (length old.elements.items) (length cs) (sym count ∙ ap length seen ∙ length-map cs (element_of all)) given.are_elements.few;
        few_paths = few-same (length made.paths.items) (path_count source top corner) uses.count few;
      }
