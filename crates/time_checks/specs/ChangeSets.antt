-- Sets of changes of a value, by their numbers.
use Rattle.std.specs.Prelude.{ℕ, Bool, false, [], ◌∷◌, Option, slice_index_or}
use Rattle.sg_logic.specs.declared.edges.Edge.{Edge}
use Rattle.sg_logic.specs.declared.values.Value.{Value}
use Rattle.sg_logic.specs.declared.values.Value.TheVariants.{Zero, One, X, Z}
use Rattle.time_checks.specs.declared.change_sets.ChangeSet.{ChangeSet}
use Rattle.time_checks.specs.Events.{is_of_edge}

-- the changes of an edge list have the first six numbers in their order, z read as x; then come a change between x and z, and no change
abbrev pub change_number : Value → Value → ℕ
change_number Zero One = 0
change_number One Zero = 1
change_number Zero X = 2
change_number Zero Z = 2
change_number X One = 3
change_number Z One = 3
change_number One X = 4
change_number One Z = 4
change_number X Zero = 5
change_number Z Zero = 5
change_number X Z = 6
change_number Z X = 6
change_number _ _ = 7

abbrev pub change_in : ChangeSet → ℕ → Bool
change_in set number = slice_index_or set.has number false

abbrev pub no_changes : ChangeSet
no_changes = record { has = false ∷ false ∷ false ∷ false ∷ false ∷ false ∷ false ∷ false ∷ [] }

-- the changes of an edge
abbrev pub edge_set : Option Edge → ChangeSet
edge_set edge = record {
  has = is_of_edge edge Zero One ∷ is_of_edge edge One Zero ∷ is_of_edge edge Zero X ∷ is_of_edge edge X One ∷ is_of_edge edge One X ∷ is_of_edge edge X Zero ∷ is_of_edge edge X Z ∷ false ∷ [];
}

-- those that are of the edge if they are read backwards
abbrev pub opposite_set : Option Edge → ChangeSet
opposite_set edge = record {
  has = is_of_edge edge One Zero ∷ is_of_edge edge Zero One ∷ is_of_edge edge X Zero ∷ is_of_edge edge One X ∷ is_of_edge edge X One ∷ is_of_edge edge Zero X ∷ is_of_edge edge Z X ∷ false ∷ [];
}
