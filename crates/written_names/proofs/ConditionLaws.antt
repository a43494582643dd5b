-- The conditions that are written of a circuit of a netlist are conditions, of good names and short indexes.
use Rattle.std.specs.Prelude.{ℕ, ℤ, ◌==◌, Bool, true, false, IfSome, All, List, [], ◌∷◌, ◌++◌, Option, Some, None, map, flat_map, if◌then◌else◌}
use Rattle.std.specs.List.{AllByRecursion}
use Rattle.std.specs.Option.{option_and_then, option_map}
use Rattle.std.proofs.lemmas.List.Elements.{All-from_recursion}
use Rattle.cond_expr.specs.Token.{Tok}
use Rattle.cond_expr.specs.Tree.{Cond}
use Rattle.sg_circuit.specs.Checks.{CheckConditions}
use Rattle.sg_circuit.specs.Circuit.{Circuit, Element, Kind, Gate, Udp, Pass, Leg, Path, Late}
use Rattle.sg_circuit.specs.Paths as specify
use Rattle.sg_circuit.specs.declared.checks.Check.{Check}
use Rattle.sg_circuit.specs.declared.checks.CheckTiming.{CheckTiming}
use Rattle.sg_circuit.specs.declared.checks.Event.{Event}
use Rattle.annotation_model.specs.Same.{bare}
use Rattle.annotation_model.specs.Spots.{Checked, Spot, all_checked, checked, leg_spot, path_spot, spots, spots_of}
use Rattle.circuit_model.specs.CheckUses.{CheckUse as Check_use, EventUse, written_of, written_of_use}
use Rattle.elab_laws.proofs.Lists.{all-append, all-flat_in, all-map, all-weaker, all-anyway}
use Rattle.written_model.specs.Entries.{CheckEntry, PathEntry, check_entries, check_entry, checks_at, condition_of, event_key, numbers_of, parts_of, path_entries, path_key, paths_at}
use Rattle.written_model.specs.Faults.{conditions, datum_conditions, event_conditions, path_conditions}
use Rattle.written_model.specs.declared.parts.Part.{Part}
use Rattle.written_reading.specs.Named.{IsWrittenCondition}
use Rattle.written_names.proofs.BareConditions.{IsSpelled, bare_spelled, spelled_written}
use Rattle.written_names.proofs.CheckUseLaws.{IsGoodEventUse, IsGoodUse}
use Rattle.written_names.proofs.PathUseLaws.{IsGoodCondition, IsGoodElement, IsGoodKind, IsGoodPath}

-- ---- paths

abbrev IsGoodSpot : Spot → Type 0
IsGoodSpot (leg_spot s inputs output timings) = Unit {0}
IsGoodSpot (path_spot s output path) = IsGoodPath path

spots_are : (e : Element) → IsGoodElement e → AllByRecursion IsGoodSpot (spots_of e)
spots_are e h = by e.kind h
  where
    by : (k : Kind) → IsGoodKind k → AllByRecursion IsGoodSpot (spots_of (record e { kind = k }))
    by (Gate kind delays) h = tt
    by (Udp primitive first delays) h = tt
    by (Pass constant) h = tt
    by (Leg timings) h = (tt, tt)
    by (Path paths style) h = all-map IsGoodSpot (path_spot e.scope e.output) paths h
    by (Late delay) h = tt

abbrev IsGoodEntry : PathEntry → Type 0
IsGoodEntry e = AllByRecursion IsSpelled (path_conditions e.key.condition)

condition_is : (c : specify.PathCondition) → IsGoodCondition c → AllByRecursion IsSpelled (path_conditions (condition_of c))
condition_is specify.Always h = tt
condition_is (specify.If written bound) h = (bare_spelled written h, tt)
condition_is specify.IfNone h = tt

entries_are : (s : ℕ) (spot : Spot) → IsGoodSpot spot → AllByRecursion IsGoodEntry (paths_at s spot)
entries_are s (leg_spot scope inputs output timings) h = tt
entries_are s (path_spot scope output path) h = by (scope == s)
  where
    by : (b : Bool) → AllByRecursion IsGoodEntry (if b then record { key = path_key output path; numbers = map numbers_of path.timings } ∷ [] else [])
    by true = (condition_is path.condition h, tt)
    by false = tt

module _ (c : Circuit) (elements : AllByRecursion IsGoodElement c.elements) where
  of_paths : (s : ℕ) → AllByRecursion IsSpelled (flat_map (λ (e : PathEntry). path_conditions e.key.condition) (path_entries c s))
  of_paths s =
      all-flat_in IsSpelled (λ (e : PathEntry). path_conditions e.key.condition) (path_entries c s)
      (all-flat_in IsGoodEntry (paths_at s) (spots c)
      (all-weaker IsGoodSpot (λ x. AllByRecursion IsGoodEntry (paths_at s x)) (spots c) (entries_are s)
      (all-flat_in IsGoodSpot spots_of c.elements (all-weaker IsGoodElement (λ e. AllByRecursion IsGoodSpot (spots_of e)) c.elements spots_are elements))))

-- ---- timing checks

pub record IsGoodWritten (w : CheckConditions) : Type 0 where
  pub refer : IfSome w.refer IsSpelled
  pub datum : IfSome w.datum IsSpelled

event_written : (e : EventUse) → IsGoodEventUse e → IfSome (written_of e) IsSpelled
event_written e h = by e.condition h
  where
    by : (o : Option (List Tok × Cond ℕ)) → IfSome o (λ c. IsSpelled c.0) → IfSome (option_map (λ (c : List Tok × Cond ℕ). c.0) o) IsSpelled
    by None k = tt
    by (Some c) k = k

pub use_written : (u : Check_use) → IsGoodUse u → IsGoodWritten (written_of_use u)
use_written u h = record { refer = event_written u.refer h.refer; datum = by u.datum h.datum }
  where
    by : (o : Option EventUse) → IfSome o IsGoodEventUse → IfSome (option_and_then written_of o) IsSpelled
    by None k = tt
    by (Some e) k = event_written e k

abbrev IsGoodChecked : Checked → Type 0
IsGoodChecked k = IsGoodWritten k.written

checked_are : (ks : List Check) (ts : List CheckTiming) (ws : List CheckConditions) → AllByRecursion IsGoodWritten ws → AllByRecursion IsGoodChecked (checked ks ts ws)
checked_are [] ts ws h = tt
checked_are (k ∷ ks) [] ws h = tt
checked_are (k ∷ ks) (t ∷ ts) [] h = tt
checked_are (k ∷ ks) (t ∷ ts) (w ∷ ws) h = (h.0, checked_are ks ts ws h.1)

abbrev own_conditions : CheckEntry → List (List Tok)
own_conditions e = event_conditions e.key.refer.condition ++ datum_conditions e.key.datum

abbrev IsGoodCheckEntry : CheckEntry → Type 0
IsGoodCheckEntry e = AllByRecursion IsSpelled (own_conditions e)

event_conditions_are : (o : Option (List Tok)) → IfSome o IsSpelled → AllByRecursion IsSpelled (event_conditions (option_map bare o))
event_conditions_are None h = tt
event_conditions_are (Some ts) h = (bare_spelled ts h, tt)

datum_conditions_are : (d : Option Event) (o : Option (List Tok)) → IfSome o IsSpelled → AllByRecursion IsSpelled (datum_conditions (option_map (λ (e : Event). event_key e o) d))
datum_conditions_are None o h = tt
datum_conditions_are (Some e) o h = event_conditions_are o h

entry_is : (k : Checked) → IsGoodChecked k → (p : Part × ℤ) → IsGoodCheckEntry (check_entry k p)
entry_is k h p =
    all-append IsSpelled (event_conditions (option_map bare k.written.refer)) (datum_conditions (option_map (λ (e : Event). event_key e k.written.datum) k.timing.datum))
    (event_conditions_are k.written.refer h.refer) (datum_conditions_are k.timing.datum k.written.datum h.datum)

check_entries_are : (s : ℕ) (k : Checked) → IsGoodChecked k → AllByRecursion IsGoodCheckEntry (checks_at s k)
check_entries_are s k h = by (k.check.scope == s)
  where
    by : (b : Bool) → AllByRecursion IsGoodCheckEntry (if b then map (check_entry k) (parts_of k.timing.kind k.timing.limits) else [])
    by true = all-map IsGoodCheckEntry (check_entry k) (parts_of k.timing.kind k.timing.limits) (all-anyway (λ p. IsGoodCheckEntry (check_entry k p)) (parts_of k.timing.kind k.timing.limits) (entry_is k h))
    by false = tt

module _ (c : Circuit) (written : AllByRecursion IsGoodWritten c.check_conditions) where
  of_checks : (s : ℕ) → AllByRecursion IsSpelled (flat_map own_conditions (check_entries c s))
  of_checks s =
      all-flat_in IsSpelled own_conditions (check_entries c s)
      (all-flat_in IsGoodCheckEntry (checks_at s) (all_checked c)
      (all-weaker IsGoodChecked (λ k. AllByRecursion IsGoodCheckEntry (checks_at s k)) (all_checked c) (check_entries_are s) (checked_are c.checks c.check_timings c.check_conditions written)))

-- ---- circuits

pub conditions_are : (c : Circuit) → AllByRecursion IsGoodElement c.elements → AllByRecursion IsGoodWritten c.check_conditions → (s : ℕ) → All IsWrittenCondition (conditions c s)
conditions_are c elements written s =
    let paths = flat_map (λ (e : PathEntry). path_conditions e.key.condition) (path_entries c s) in
    let checks = flat_map own_conditions (check_entries c s) in
    All-from_recursion IsWrittenCondition (paths ++ checks) (all-weaker IsSpelled IsWrittenCondition (paths ++ checks) spelled_written (all-append IsSpelled paths checks (of_paths c elements s) (of_checks c written s)))
