-- Words of contracts: keys with numbers for edges, parts and conditions.
use Rattle.std.specs.Prelude.{ℕ, ℤ, ◌&&◌, nat_eq, Bool, List, [], ◌∷◌, Option, Some, None, slice_index_or}
use Rattle.std.specs.Option.{option_eq}
use Rattle.sg_circuit.specs.declared.checks.CheckConditions.{CheckConditions}
use Rattle.sg_circuit.specs.declared.checks.CheckTiming.{CheckTiming}
use Rattle.sg_circuit.specs.declared.checks.Event.{Event}
use Rattle.sg_circuit.specs.declared.paths.Path as code_path
use Rattle.sg_circuit.specs.declared.paths.PathCondition.{PathCondition}
use Rattle.sg_circuit.specs.declared.paths.PathCondition.TheVariants as code
use Rattle.sdf_tree.specs.declared.tree.Edge.{Edge}
use Rattle.sdf_tree.specs.declared.tree.Edge.TheVariants.{Posedge}
use Rattle.written_model.specs.declared.parts.Part.{Part}
use Rattle.written_model.specs.declared.parts.Part.TheVariants as part
use Rattle.written_model.specs.Entries.{edge_of, limit_at}

abbrev pub edge_code : Option Edge → ℕ
edge_code None = 0
edge_code (Some Posedge) = 1
edge_code (Some _) = 2

-- ---- paths

abbrev pub PathCode : Type 0
PathCode = ℕ × ℕ × ℕ × Option (Option ℕ)

-- by the class of a condition
abbrev pub condition_code : List ℕ → PathCondition → Option (Option ℕ)
condition_code classes code.Always = None
condition_code classes (code.If written bound) = Some (Some (slice_index_or classes written 0))
condition_code classes code.IfNone = Some None

abbrev pub path_code : List ℕ → (output : ℕ) → code_path.Path → PathCode
path_code classes output p = (p.input, output, edge_code (edge_of p.edge), condition_code classes p.condition)

-- ---- timing checks

abbrev pub EventCode : Type 0
EventCode = ℕ × ℕ × Option ℕ

abbrev pub PartCode : Type 0
PartCode = ℕ × EventCode × Option EventCode

abbrev pub written_code : List ℕ → Option ℕ → Option ℕ
written_code classes None = None
written_code classes (Some place) = Some (slice_index_or classes place 0)

abbrev pub event_code : List ℕ → Event → Option ℕ → EventCode
event_code classes e written = (e.net, edge_code (edge_of e.edge), written_code classes written)

abbrev pub datum_code : List ℕ → Option Event → Option ℕ → Option EventCode
datum_code classes None written = None
datum_code classes (Some e) written = Some (event_code classes e written)

abbrev pub event_codes : List ℕ → CheckTiming → CheckConditions → EventCode × Option EventCode
event_codes classes t w = (event_code classes t.refer w.refer, datum_code classes t.datum w.datum)

abbrev pub part_number : Part → ℕ
part_number part.Setup = 0
part_number part.Hold = 1
part_number part.Recovery = 2
part_number part.Removal = 3
part_number part.Skew = 4
part_number part.Width = 5
part_number part.Period = 6

-- each part with its limit
abbrev pub parts_with : Part × Option Part → List ℤ → List (Part × ℤ)
parts_with (first, None) limits = (first, limit_at limits 0) ∷ []
parts_with (first, Some second) limits = (first, limit_at limits 0) ∷ (second, limit_at limits 1) ∷ []

abbrev pub part_code : EventCode × Option EventCode → Part → PartCode
part_code events p = (part_number p, events.0, events.1)

-- ---- whether keys are the same

abbrev pub path_eq : PathCode → PathCode → Bool
path_eq a b = ((nat_eq a.0 b.0 && nat_eq a.1 b.1) && nat_eq a.2 b.2) && option_eq (option_eq nat_eq) a.3 b.3

abbrev pub event_eq : EventCode → EventCode → Bool
event_eq a b = (nat_eq a.0 b.0 && nat_eq a.1 b.1) && option_eq nat_eq a.2 b.2

abbrev pub part_eq : PartCode → PartCode → Bool
part_eq a b = (nat_eq a.0 b.0 && event_eq a.1 b.1) && option_eq event_eq a.2 b.2
