-- Circuits that differ in delays, limits and the limits that are taken as 0 alone (IEEE 1364-2005, 14.3, 15.2, 15.8, 16).
use Rattle.std.specs.Prelude.{◌≡◌, [], map}
use Rattle.sg_circuit.specs.declared.checks.CheckTiming.{CheckTiming}
use Rattle.sg_circuit.specs.Paths as specify
use Rattle.sg_circuit.specs.Circuit.{Circuit, Element, Kind, Gate, Udp, Pass, Leg, Path, Late}

-- what is left without delays
abbrev pub plain_path : specify.Path → specify.Path
plain_path p = record { input = p.input; edge = p.edge; condition = p.condition; timings = [] }

abbrev pub plain_kind : Kind → Kind
plain_kind (Gate kind delays) = Gate kind []
plain_kind (Udp primitive first delays) = Udp primitive first []
plain_kind (Pass constant) = Pass constant
plain_kind (Leg timings) = Leg []
plain_kind (Path paths style) = Path (map plain_path paths) style
plain_kind (Late delay) = Late 0

abbrev pub plain_element : Element → Element
plain_element e = record { scope = e.scope; inputs = e.inputs; output = e.output; kind = plain_kind e.kind }

-- and without limits
abbrev pub plain_check : CheckTiming → CheckTiming
plain_check t = record { kind = t.kind; refer = t.refer; datum = t.datum; limits = []; threshold = t.threshold; late = t.late }

abbrev pub plain : Circuit → Circuit
plain c = record c { elements = map plain_element c.elements; check_timings = map plain_check c.check_timings; zeroed = [] }

-- all else is the same
abbrev pub AreAlike : Circuit → Circuit → Type 0
AreAlike a b = plain a ≡ plain b
