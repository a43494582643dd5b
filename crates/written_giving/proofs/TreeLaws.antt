-- The entries that the tree of a circuit gives, scope by scope.
use Rattle.std.proofs.Common.{◌≡◌, false, List, [], ◌∷◌, ◌++◌, length, refl, sym, ◌∙◌, ap, append_assoc, append-nil}
use Rattle.std.specs.Prelude.{ℕ, map, None}
use Rattle.std.specs.List.{flat_map, range_with_len}
use Rattle.std.proofs.lemmas.Grind.{flat_map-append}
use Rattle.std.proofs.lemmas.List.{map-append}
use Rattle.sg_circuit.specs.Circuit.{Circuit, Variable, scope_at}
use Rattle.sdf_tree.specs.declared.words.Divider.TheVariants.{Slash}
use Rattle.sdf_tree.specs.Written as written
use Rattle.sdf_tree.specs.Meant.{DelayValue, Entry, EntryKind, kind_of_check, io_path, port_delay, entry_of, entry_of_check, cells_in, units_in, dividers_in, delay_value_of}
use Rattle.annotation_model.specs.Given.{Given, given_in}
use Rattle.written_model.specs.Names.{names_to}
use Rattle.written_model.specs.Entries.{Numbers, LegEntry, PathEntry, CheckEntry, legs, paths, checks}
use Rattle.written_model.specs.Tree.{nowhere, tree, delay_of, port_of, terminal_of, leg_entry, path_entry, check_of, unless_empty, delay_entries, check_entries, parts_of, cell_type_of, instance_of, cells_of}
use Rattle.written_giving.proofs.PlaceLaws.{map-fused}

-- an entry of a scope's cell
abbrev pub of_scope : Circuit → ℕ → EntryKind → Given
of_scope c s k = record { cell_type = cell_type_of (scope_at c s).module_name; instance = instance_of (names_to c s); entry = record { place = nowhere; increment = false; kind = k } }

abbrev pub delay_values : List Numbers → List DelayValue
delay_values ns = map delay_value_of (map delay_of ns)

abbrev pub leg_given : Circuit → ℕ → LegEntry → Given
leg_given c s e = of_scope c s (port_delay (port_of (scope_at c s).variables e.net) (delay_values e.numbers))

abbrev pub path_given : Circuit → ℕ → PathEntry → Given
path_given c s e =
    let vs = (scope_at c s).variables in of_scope c s (io_path e.key.condition (terminal_of vs e.key.input e.key.edge None) (port_of vs e.key.output) (delay_values e.numbers))

abbrev pub check_given : Circuit → ℕ → CheckEntry → Given
check_given c s e = of_scope c s (kind_of_check (check_of (scope_at c s).variables e).body)

-- all that is written of a scope
abbrev pub given_of : Circuit → ℕ → List Given
given_of c s = map (leg_given c s) (legs c s) ++ (map (path_given c s) (paths c s) ++ map (check_given c s) (checks c s))

-- ---- a cell

abbrev with_entry : Circuit → ℕ → Entry → Given
with_entry c s e = record { cell_type = cell_type_of (scope_at c s).module_name; instance = instance_of (names_to c s); entry = e }

abbrev made : Circuit → ℕ → List written.Entry → List written.Check → List Given
made c s ds ks = map (with_entry c s) (map (entry_of false) ds) ++ map (with_entry c s) (map entry_of_check ks)

abbrev cells_with : Circuit → ℕ → List written.Part → List written.FilePart
cells_with c s parts = unless_empty (λ ps. written.a_cell (record { cell_type = cell_type_of (scope_at c s).module_name; instance = instance_of (names_to c s); parts = ps })) parts

cell-given : (c : Circuit) (s : ℕ) (ds : List written.Entry) (ks : List written.Check)
    → flat_map given_in (flat_map cells_in (cells_with c s (unless_empty (λ es. written.delays (written.absolute es ∷ [])) ds ++ unless_empty written.checks ks))) ≡ made c s ds ks
cell-given c s [] [] = refl
cell-given c s [] (k ∷ ks) =
    append-nil (map (with_entry c s) (map entry_of_check (k ∷ ks) ++ [])) ∙ ap (map (with_entry c s)) (append-nil (map entry_of_check (k ∷ ks)))
cell-given c s (d ∷ ds) [] =
    let es = map (entry_of false) (d ∷ ds) in
    append-nil (map (with_entry c s) ((es ++ []) ++ []))
    ∙ (ap (map (with_entry c s)) (append-nil (es ++ []) ∙ append-nil es) ∙ sym (append-nil (map (with_entry c s) es)))
cell-given c s (d ∷ ds) (k ∷ ks) =
    let es = map (entry_of false) (d ∷ ds) in
    let fs = map entry_of_check (k ∷ ks) in
    append-nil (map (with_entry c s) ((es ++ []) ++ (fs ++ [])))
    ∙ (ap (λ xs. map (with_entry c s) (xs ++ (fs ++ []))) (append-nil es)
    ∙ (ap (λ xs. map (with_entry c s) (es ++ xs)) (append-nil fs) ∙ map-append (with_entry c s) es fs))

made-given : (c : Circuit) (s : ℕ) → made c s (delay_entries c s) (check_entries c s) ≡ given_of c s
made-given c s =
    ap (λ xs. xs ++ map (with_entry c s) (map entry_of_check (check_entries c s))) delays
    ∙ (ap (λ xs. (map (leg_given c s) (legs c s) ++ map (path_given c s) (paths c s)) ++ xs) limits
    ∙ append_assoc (map (leg_given c s) (legs c s)) (map (path_given c s) (paths c s)) (map (check_given c s) (checks c s)))
  where
    vs : List Variable
    vs = (scope_at c s).variables

    one : written.Entry → Given
    one e = with_entry c s (entry_of false e)

    delays : map (with_entry c s) (map (entry_of false) (delay_entries c s)) ≡ map (leg_given c s) (legs c s) ++ map (path_given c s) (paths c s)
    delays =
        map-fused (with_entry c s) (entry_of false) one (delay_entries c s) (λ e. refl)
        ∙ (map-append one (map (leg_entry vs) (legs c s)) (map (path_entry vs) (paths c s))
        ∙ (ap (λ xs. xs ++ map one (map (path_entry vs) (paths c s))) (map-fused one (leg_entry vs) (leg_given c s) (legs c s) (λ e. refl))
        ∙ ap (λ xs. map (leg_given c s) (legs c s) ++ xs) (map-fused one (path_entry vs) (path_given c s) (paths c s) (λ e. refl))))

    limits : map (with_entry c s) (map entry_of_check (check_entries c s)) ≡ map (check_given c s) (checks c s)
    limits =
        ap (map (with_entry c s)) (map-fused entry_of_check (check_of vs) (λ e. entry_of_check (check_of vs e)) (checks c s) (λ e. refl))
        ∙ map-fused (with_entry c s) (λ e. entry_of_check (check_of vs e)) (check_given c s) (checks c s) (λ e. refl)

pub scope-given : (c : Circuit) (s : ℕ) → flat_map given_in (flat_map cells_in (cells_of c s)) ≡ given_of c s
scope-given c s = cell-given c s (delay_entries c s) (check_entries c s) ∙ made-given c s

-- ---- the file

scopes-given : (c : Circuit) (ns : List ℕ) → flat_map given_in (flat_map cells_in (flat_map (cells_of c) ns)) ≡ flat_map (given_of c) ns
scopes-given c [] = refl
scopes-given c (s ∷ ns) =
    ap (flat_map given_in) (flat_map-append cells_in (cells_of c s) (flat_map (cells_of c) ns))
    ∙ (flat_map-append given_in (flat_map cells_in (cells_of c s)) (flat_map cells_in (flat_map (cells_of c) ns))
    ∙ (ap (λ xs. xs ++ flat_map given_in (flat_map cells_in (flat_map (cells_of c) ns))) (scope-given c s) ∙ ap (λ xs. given_of c s ++ xs) (scopes-given c ns)))

pub tree-given : (c : Circuit) → flat_map given_in (flat_map cells_in (tree c)) ≡ flat_map (given_of c) (range_with_len 0 (length c.scopes))
unfolding tree
tree-given c = scopes-given c (range_with_len 0 (length c.scopes))

no-units : (c : Circuit) (ns : List ℕ) → flat_map units_in (flat_map (cells_of c) ns) ≡ []
no-units c [] = refl
no-units c (s ∷ ns) = flat_map-append units_in (cells_of c s) (flat_map (cells_of c) ns) ∙ (ap (λ xs. xs ++ flat_map units_in (flat_map (cells_of c) ns)) (by (parts_of c s)) ∙ no-units c ns)
  where
    by : (ps : List written.Part) → flat_map units_in (cells_with c s ps) ≡ []
    by [] = refl
    by (p ∷ ps) = refl

no-dividers : (c : Circuit) (ns : List ℕ) → flat_map dividers_in (flat_map (cells_of c) ns) ≡ []
no-dividers c [] = refl
no-dividers c (s ∷ ns) = flat_map-append dividers_in (cells_of c s) (flat_map (cells_of c) ns) ∙ (ap (λ xs. xs ++ flat_map dividers_in (flat_map (cells_of c) ns)) (by (parts_of c s)) ∙ no-dividers c ns)
  where
    by : (ps : List written.Part) → flat_map dividers_in (cells_with c s ps) ≡ []
    by [] = refl
    by (p ∷ ps) = refl

pub tree-units : (c : Circuit) → flat_map units_in (tree c) ≡ c.tick ∷ []
unfolding tree
tree-units c = ap (λ xs. c.tick ∷ xs) (no-units c (range_with_len 0 (length c.scopes)))

pub tree-dividers : (c : Circuit) → flat_map dividers_in (tree c) ≡ Slash ∷ []
unfolding tree
tree-dividers c = ap (λ xs. Slash ∷ xs) (no-dividers c (range_with_len 0 (length c.scopes)))
