-- Annotation: what a circuit's delays and limits are after the entries of an SDF file, which entry is the first that is too large, and which
-- are for nothing (IEEE 1497-2001; IEEE 1364-2005, clause 16). From the limits follow the delays of Lates (15.8).
use Rattle.std.specs.Prelude.{ℕ, ◌&&◌, ◌||◌, not, Bool, true, false, List, [], ◌∷◌, ◌++◌, map, Option, Some, None, codes, if◌then◌else◌}
use Rattle.std.specs.List.{list_any, filter}
use Rattle.sg_text.specs.declared.places.Place.{Place}
use Rattle.sg_delay.specs.declared.corners.Corner.{Corner}
use Rattle.sg_circuit.specs.declared.checks.CheckTiming.{CheckTiming}
use Rattle.sg_circuit.specs.Paths as specify
use Rattle.sg_circuit.specs.Circuit.{Circuit, Element, Kind, Leg, Path}
use Rattle.sdf_tree.specs.declared.tree.PairCheck.TheVariants as pair
use Rattle.sdf_tree.specs.declared.tree.WindowCheck.TheVariants as window
use Rattle.sdf_tree.specs.declared.tree.SingleCheck.TheVariants as single
use Rattle.sdf_tree.specs.declared.tree.Skipped.TheVariants as skipped
use Rattle.sdf_tree.specs.Written.{always, otherwise, if_words}
use Rattle.sdf_tree.specs.Meant.{CellCheck, pair_check, window_check, single_check, EntryKind, io_path, device, port_delay, interconnect, path_pulse, a_check, skipped_entry, Sdf}
use Rattle.annotation_model.specs.Given.{Given, given}
use Rattle.annotation_model.specs.Spots.{leg_spot, path_spot, spots, spot_after, is_for_spot, is_large_at, Checked, all_checked, is_for_check, is_limit_large_at, limits_after}

-- ---- the circuit

abbrev pub annotated_path : Circuit → Sdf → Corner → List Given → (scope output : ℕ) → specify.Path → specify.Path
annotated_path c sdf corner gs s output p = record { input = p.input; edge = p.edge; condition = p.condition; timings = spot_after c sdf corner gs (path_spot s output p) }

abbrev pub annotated_kind : Circuit → Sdf → Corner → List Given → (scope : ℕ) → (inputs : List ℕ) → (output : ℕ) → Kind → Kind
annotated_kind c sdf corner gs s inputs output (Leg timings) = Leg (spot_after c sdf corner gs (leg_spot s inputs output timings))
annotated_kind c sdf corner gs s inputs output (Path paths style) = Path (map (annotated_path c sdf corner gs s output) paths) style
annotated_kind c sdf corner gs s inputs output other = other

abbrev pub annotated_element : Circuit → Sdf → Corner → List Given → Element → Element
annotated_element c sdf corner gs e = record { scope = e.scope; inputs = e.inputs; output = e.output; kind = annotated_kind c sdf corner gs e.scope e.inputs e.output e.kind }

abbrev pub annotated_check : Circuit → Sdf → Corner → List Given → Checked → CheckTiming
annotated_check c sdf corner gs k =
    record { kind = k.timing.kind; refer = k.timing.refer; datum = k.timing.datum; limits = limits_after c sdf corner gs k; threshold = k.timing.threshold; late = k.timing.late }

-- the circuit after the entries of a list, before its Lates are delayed anew
abbrev pub annotated_by : Circuit → Sdf → Corner → List Given → Circuit
annotated_by c sdf corner gs = record {
  tick = c.tick;
  nets = c.nets;
  elements = map (annotated_element c sdf corner gs) c.elements;
  udps = c.udps;
  checks = c.checks;
  check_timings = map (annotated_check c sdf corner gs) (all_checked c);
  check_conditions = c.check_conditions;
  scopes = c.scopes;
  zeroed = c.zeroed;
}

abbrev pub annotated : Circuit → Sdf → Corner → Circuit
annotated c sdf corner = annotated_by c sdf corner (given sdf)

-- ---- what an entry is for

abbrev pub is_for_something : Circuit → Sdf → Given → Bool
is_for_something c sdf g = list_any (λ spot. is_for_spot c sdf.divider g spot) (spots c) || list_any (λ k. is_for_check c sdf.divider g k) (all_checked c)

-- ---- what is too large

-- whether an entry is for something and, after the entries before it, has or makes what is too large
abbrev pub is_too_large_after : Circuit → Sdf → Corner → List Given → Given → Bool
is_too_large_after c sdf corner before g =
    list_any (λ spot. is_for_spot c sdf.divider g spot && is_large_at c sdf corner g spot (spot_after c sdf corner before spot)) (spots c)
    || list_any (λ k. is_for_check c sdf.divider g k && is_limit_large_at c sdf corner g k) (all_checked c)

-- the first entry that is too large
abbrev pub first_too_large : Circuit → Sdf → Corner → (before rest : List Given) → Option Place
first_too_large c sdf corner before [] = None
first_too_large c sdf corner before (g ∷ gs) = if is_too_large_after c sdf corner before g then Some g.entry.place else first_too_large c sdf corner (before ++ g ∷ []) gs

abbrev pub too_large : Circuit → Sdf → Corner → Option Place
too_large c sdf corner = first_too_large c sdf corner [] (given sdf)

-- ---- what is for nothing

abbrev pub word_of_check : CellCheck → List ℕ
word_of_check (pair_check pair.Setup f s l) = codes "SETUP"
word_of_check (pair_check pair.Hold f s l) = codes "HOLD"
word_of_check (pair_check pair.Recovery f s l) = codes "RECOVERY"
word_of_check (pair_check pair.Removal f s l) = codes "REMOVAL"
word_of_check (pair_check pair.Skew f s l) = codes "SKEW"
word_of_check (window_check window.SetupHold f s l m) = codes "SETUPHOLD"
word_of_check (window_check window.RecRem f s l m) = codes "RECREM"
word_of_check (single_check single.Width t l) = codes "WIDTH"
word_of_check (single_check single.Period t l) = codes "PERIOD"

-- the word that a report has for an entry
abbrev pub word_of : EntryKind → List ℕ
word_of (io_path always from to ds) = codes "IOPATH"
word_of (io_path (if_words words) from to ds) = codes "COND"
word_of (io_path otherwise from to ds) = codes "CONDELSE"
word_of (device output ds) = codes "DEVICE"
word_of (port_delay port ds) = codes "PORT"
word_of (interconnect from to ds) = codes "INTERCONNECT"
word_of (path_pulse false ports reject error) = codes "PATHPULSE"
word_of (path_pulse true ports reject error) = codes "PATHPULSEPERCENT"
word_of (a_check check) = word_of_check check
word_of (skipped_entry skipped.NetDelay) = codes "NETDELAY"
word_of (skipped_entry skipped.BidirectSkew) = codes "BIDIRECTSKEW"
word_of (skipped_entry skipped.NoChange) = codes "NOCHANGE"
word_of (skipped_entry skipped.TimingEnv) = codes "TIMINGENV"
word_of (skipped_entry skipped.Label) = codes "LABEL"

-- what a report says of an entry: where it stands, and its word
abbrev pub told_of : Given → Place × List ℕ
told_of g = (g.entry.place, word_of g.entry.kind)

abbrev pub unmatched_in : Circuit → Sdf → List Given → List (Place × List ℕ)
unmatched_in c sdf gs = map told_of (filter (λ g. not (is_for_something c sdf g)) gs)

abbrev pub unmatched : Circuit → Sdf → List (Place × List ℕ)
unmatched c sdf = unmatched_in c sdf (given sdf)
