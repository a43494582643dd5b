-- What the values of a list give.
use Rattle.std.specs.Prelude.{List, [], ◌∷◌, map, Option, Some, None}
use Rattle.sg_delay.specs.Expansion.{Six}
use Rattle.sdf_tree.specs.declared.tree.DelayValue.{DelayValue}
use Rattle.sdf_meaning.specs.MeantSeen.{view_delay_value}
use Rattle.annotation_model.specs.Applied.{Grid, Change, change_of}

abbrev pub change_seen : Grid → DelayValue → Option Change
change_seen g v = change_of g (view_delay_value v)

abbrev pub changes_seen : Grid → List DelayValue → List (Option Change)
changes_seen g vs = map (change_seen g) vs

-- the six in order
abbrev pub in_order : {A : Type 0} → Option (Six A) → Option (List A)
in_order None = None
in_order (Some s) = Some (s.t01 ∷ s.t10 ∷ s.t0z ∷ s.tz1 ∷ s.t1z ∷ s.tz0 ∷ [])
