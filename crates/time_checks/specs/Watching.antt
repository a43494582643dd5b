-- What timing checks look at when nets change.
use Rattle.std.specs.Prelude.{ℕ, ◌==◌, ◌&&◌, ◌||◌, Bool, true, false, List, Option, Some, None, is_none, slice_index_or}
use Rattle.std.specs.List.{filter}
use Rattle.sg_logic.specs.declared.edges.Edge.{Edge}
use Rattle.sg_logic.specs.declared.values.Value.{Value}
use Rattle.sg_circuit.specs.declared.checks.CheckKind.{CheckKind}
use Rattle.sg_circuit.specs.declared.checks.CheckKind.TheVariants.{Width}
use Rattle.sg_circuit.specs.declared.checks.Event.{Event}
use Rattle.sg_model.specs.Round.{each_from}
use Rattle.sg_model.specs.Values.{value_at}
use Rattle.time_checks.specs.declared.change_sets.ChangeSet.{ChangeSet}
use Rattle.time_checks.specs.declared.events.Events.{Events}
use Rattle.time_checks.specs.declared.watches.Watch.{Watch}
use Rattle.time_checks.specs.Adjusted.{AdjustedCheck}
use Rattle.time_checks.specs.ChangeSets.{change_in, change_number, edge_set, no_changes, opposite_set}
use Rattle.time_checks.specs.Events.{has_event, has_opposite, is_enabled}
use Rattle.time_checks.specs.Kept.{has_datum}

-- only width asks for the opposite of its reference's edge (15.3.4)
abbrev pub asks_back : CheckKind → Bool
asks_back Width = true
asks_back _ = false

-- what happens to a check, as far as its kind asks for it
abbrev pub events_needed : AdjustedCheck → List Value → List Value → Events
events_needed check last now = record { refer = has_event check.refer last now; datum = has_datum check.datum last now; back = asks_back check.kind && has_opposite check.refer last now }

-- a data event that isn't there has no changes and no condition, and the net of the reference
abbrev pub datum_set : Option Event → ChangeSet
datum_set None = no_changes
datum_set (Some event) = edge_set event.edge

-- whether a change of such a set is an event of the data
abbrev pub is_happening : ChangeSet → ℕ → Option Event → List Value → Bool
is_happening set number None values = false
is_happening set number (Some event) values = change_in set number && is_enabled event.condition values

abbrev pub is_datum_free : Option Event → Bool
is_datum_free None = true
is_datum_free (Some event) = is_none event.condition

abbrev pub net_by : Option Event → ℕ → ℕ
net_by None refer = refer
net_by (Some event) refer = event.net

abbrev pub datum_net : AdjustedCheck → ℕ
datum_net check = net_by check.datum check.refer.net

abbrev pub back_set : CheckKind → Option Edge → ChangeSet
back_set Width edge = opposite_set edge
back_set _ edge = no_changes

-- whether none of its events has a condition
abbrev pub is_free : AdjustedCheck → Bool
is_free check = is_none check.refer.condition && is_datum_free check.datum

-- what a check looks at
abbrev pub watch_by : AdjustedCheck → Watch
watch_by check = record {
  refer = check.refer.net;
  datum = datum_net check;
  refer_changes = edge_set check.refer.edge;
  datum_changes = datum_set check.datum;
  back_changes = back_set check.kind check.refer.edge;
  is_free = is_free check;
}

-- whether that is the change of a number at a net
abbrev pub is_taken : Watch → ℕ → ℕ → Bool
is_taken watch net change = ((watch.refer == net) && (change_in watch.refer_changes change || change_in watch.back_changes change)) || ((watch.datum == net) && change_in watch.datum_changes change)

abbrev pub no_watch : Watch
no_watch = record { refer = 0; datum = 0; refer_changes = no_changes; datum_changes = no_changes; back_changes = no_changes; is_free = false }

abbrev pub takes : List Watch → ℕ → ℕ → ℕ → Bool
takes watches net change number = is_taken (slice_index_or watches number no_watch) net change

-- the number of a net's change between two snapshots
abbrev pub change_number_at : List Value → List Value → ℕ → ℕ
change_number_at last now net = change_number (value_at last net) (value_at now net)

-- of the checks with a terminal on each net those that look at its change
abbrev pub taken_fan : List Watch → List Value → List Value → List (List ℕ) → List (List ℕ)
taken_fan watches last now index = each_from (λ net numbers. filter (takes watches net (change_number_at last now net)) numbers) 0 index
