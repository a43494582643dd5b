-- What each kind of entry makes of a timing.
use Rattle.std.specs.Prelude.{◌≡◌, Bool, List, map, Result}
use Rattle.std.proofs.Common.{ap, subst, sym, ◌∙◌}
use Rattle.std.proofs.lemmas.Simd.{map-map}
use Rattle.sdf_meaning.specs.MeantSeen.{view_delay_value, view_kind}
use Rattle.sdf_tree.specs.declared.tree.DelayValue.{DelayValue}
use Rattle.sdf_tree.specs.declared.tree.EntryKind.{EntryKind}
use Rattle.sg_circuit.specs.Timings.{Timing}
use Rattle.sg_circuit.specs.declared.elements.LegTiming.{LegTiming}
use Rattle.annotation_model.specs.Applied.{Grid, change_of, changes_of, spread, with_changes, is_each_large, applied_kind, is_kind_large}
use Rattle.annotation_values.specs.Changes.{changes_seen}
use Rattle.annotation_values.specs.Leg.{TellsAll}

abbrev pub TellsKind : {E : Type 0} → Grid → (increment : Bool) → List Timing → Result LegTiming E → EntryKind → Type 0
TellsKind g increment ts r k = TellsAll (is_kind_large g increment (view_kind k) ts) (applied_kind g increment (view_kind k) ts) r

pub by_kind : {E : Type 0} (g : Grid) (increment : Bool) (ts : List Timing) (r : Result LegTiming E) (k v : EntryKind) → k ≡ v → TellsKind g increment ts r v → TellsKind g increment ts r k
by_kind g increment ts r k v e told = subst (TellsKind g increment ts r) (sym e) told

changes_are : (g : Grid) (vs ds : List DelayValue) → vs ≡ ds → changes_seen g vs ≡ changes_of g (map view_delay_value ds)
changes_are g vs ds e = ap (changes_seen g) e ∙ sym (map-map (change_of g) view_delay_value ds)

-- the values as they are lent, and as they are meant
pub by_list : {E : Type 0} (g : Grid) (increment : Bool) (ts : List Timing) (r : Result LegTiming E) (vs ds : List DelayValue) → vs ≡ ds
    → TellsAll (is_each_large increment (spread (changes_seen g vs)) ts) (with_changes increment (changes_seen g vs) ts) r
    → TellsAll (is_each_large increment (spread (changes_of g (map view_delay_value ds))) ts) (with_changes increment (changes_of g (map view_delay_value ds)) ts) r
by_list g increment ts r vs ds e told = subst (λ cs. TellsAll (is_each_large increment (spread cs) ts) (with_changes increment cs ts) r) (changes_are g vs ds e) told
