-- What the reading of the items says of the whole dump.
use Rattle.std.specs.Prelude.{ℕ, ◌≡◌, ◌≤◌, length, true, List, [], Result, Ok, Err, MatchResult, IfOk, IfErr, Option, not, ◌++◌}
use Rattle.std.proofs.Common.{sym, subst}
use Rattle.sg_circuit.specs.Circuit.{Circuit}
use Rattle.sg_stimulus.specs.Applied.{IsApplied}
use Rattle.sg_stimulus.specs.Seen.{stimulus_seen}
use Rattle.sg_stimulus.specs.declared.steps.Stimulus as code_stimulus
use Rattle.sg_text.specs.declared.refusals.Refused.{Refused}
use Rattle.vcd_form.specs.Written.{Section}
use Rattle.vcd_model.specs.declared.kinds.VcdKind.{VcdKind}
use Rattle.vcd_model.specs.declared.kinds.VcdKind.TheVariants.{NoScope}
use Rattle.vcd_model.specs.Faults.{fault_if, header_of, Header}
use Rattle.vcd_model.specs.Inputs.{all_declared, has_scope, own}
use Rattle.vcd_model.specs.Reading.{most_bytes, IsRead, RefusalStands}
use Rattle.vcd_model.specs.Values.{scale_of, Scale}
use Rattle.vcd_stim.specs.Index.{indexed, own_faults}
use Rattle.vcd_stim.specs.Meant.{RefusesOneOf}
use Rattle.vcd_stim.specs.Steps.{IsTableOf}
use Rattle.vcd_stim.specs.Whole.{IsAllRead, StopsBy}
use Rattle.vcd_stim.proofs.AppliedLaws.{applies}
use Rattle.vcd_stim.proofs.FaultLaws.{items-stand, table-stands, HeaderIs}
use Rattle.vcd_stim.proofs.NoFaults.{is-read}

-- what a table of a header's codes says
abbrev pub TableKnown : Circuit → List ℕ → List Section → (List ℕ → Option (List (List ℕ))) → Type 0
TableKnown circuit scope ss table = (own_faults circuit scope ss ≡ []) × (has_scope scope ss ≡ true) × ((code : List ℕ) → table code ≡ indexed circuit (all_declared ss) (own scope ss) code)

pub known-for : (of circuit : Circuit) (scope : List ℕ) (seen ss : List Section) (table : List ℕ → Option (List (List ℕ))) → of ≡ circuit → seen ≡ ss → TableKnown of scope seen table → TableKnown circuit scope ss table
known-for of circuit scope seen ss table e f k = subst (λ x. TableKnown circuit scope x table) f (subst (λ x. TableKnown x scope seen table) e k)

-- a refusal of the table
abbrev pub TableRefuses : Circuit → List ℕ → List Section → ℕ → Refused VcdKind → Type 0
TableRefuses circuit scope ss b r = RefusesOneOf (own_faults circuit scope ss ++ fault_if (not (has_scope scope ss)) NoScope b) r

pub table-refused : (text : List ℕ) (of circuit : Circuit) (scope : List ℕ) (seen ss : List Section) (b m : ℕ) (r : Refused VcdKind) → of ≡ circuit → seen ≡ ss → HeaderIs text ss b m → TableRefuses of scope seen b r → RefusalStands text circuit scope r
table-refused text of circuit scope seen ss b m r e f h k = table-stands text circuit scope ss b m r h (subst (λ x. TableRefuses circuit scope x b r) f (subst (λ x. TableRefuses x scope seen b r) e k))

-- what the reader of items gives
abbrev pub Reads : List ℕ → ℕ → Scale → (List ℕ → Option (List (List ℕ))) → Result code_stimulus.Stimulus (Refused VcdKind) → Type 0
Reads text m scale table result = (h : Header) → h.scale ≡ scale → IsTableOf h table → MatchResult result (λ s. IsAllRead h text m (stimulus_seen s)) (StopsBy h text m)

abbrev pub ItemsRead : List ℕ → Circuit → List ℕ → List Section → ℕ → Result code_stimulus.Stimulus (Refused VcdKind) → Type 0
ItemsRead text circuit scope ss m result = MatchResult result (λ s. IsAllRead (header_of circuit scope ss) text m (stimulus_seen s)) (StopsBy (header_of circuit scope ss) text m)

pub items-read : (text : List ℕ) (circuit : Circuit) (scope : List ℕ) (ss : List Section) (m : ℕ) (scale : Scale) (table : List ℕ → Option (List (List ℕ))) (result : Result code_stimulus.Stimulus (Refused VcdKind)) → TableKnown circuit scope ss table
    → scale ≡ scale_of circuit ss → Reads text m scale table result → ItemsRead text circuit scope ss m result
items-read text circuit scope ss m scale table result k s reads = reads (header_of circuit scope ss) (sym s) (record { table_is = k.2; faultless = k.0 })

pub read-is : (text : List ℕ) (circuit : Circuit) (scope : List ℕ) (ss : List Section) (b m : ℕ) (table : List ℕ → Option (List (List ℕ))) (result : Result code_stimulus.Stimulus (Refused VcdKind)) → length text ≤ most_bytes → HeaderIs text ss b m
    → TableKnown circuit scope ss table → ItemsRead text circuit scope ss m result → IfOk result (λ s. IsRead text circuit scope (stimulus_seen s))
read-is text circuit scope ss b m table (Ok s) few h k r = is-read text circuit scope ss b m (stimulus_seen s) few h k.0 k.1 r
read-is text circuit scope ss b m table (Err e) few h k r = tt

pub refused-is : (text : List ℕ) (circuit : Circuit) (scope : List ℕ) (ss : List Section) (b m : ℕ) (result : Result code_stimulus.Stimulus (Refused VcdKind)) → HeaderIs text ss b m
    → ItemsRead text circuit scope ss m result → IfErr result (λ e. RefusalStands text circuit scope e)
refused-is text circuit scope ss b m (Ok s) h r = tt
refused-is text circuit scope ss b m (Err e) h r = items-stand text circuit scope ss b m e h r

pub applied-is : (text : List ℕ) (circuit : Circuit) (scope : List ℕ) (ss : List Section) (m : ℕ) (result : Result code_stimulus.Stimulus (Refused VcdKind)) → ItemsRead text circuit scope ss m result → IfOk result (λ s. IsApplied circuit (stimulus_seen s))
applied-is text circuit scope ss m (Ok s) r = subst (IsApplied circuit) (sym r.stimulus_is) (applies (header_of circuit scope ss) r.items r.faultless)
applied-is text circuit scope ss m (Err e) r = tt
