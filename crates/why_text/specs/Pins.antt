-- Where a change came through: an instance, and one of its pins.
use Rattle.std.specs.Prelude.{ℕ, List, [], ◌∷◌, ◌++◌, Option, Some, None, codes}
use Rattle.std.specs.Option.{option_or}
use Rattle.sg_circuit.specs.Circuit.{Circuit, Element, Variable, scope_at}
use Rattle.written_model.specs.Names.{BitName, named_by}
use Rattle.run_report.specs.Texts.{bit_text}
use Rattle.run_report.specs.Report.{net_text, path_of}

-- the instance of a scope by its path (IEEE 1364-2005, 12.5), and its module
abbrev pub instance_text : Circuit → ℕ → List ℕ
instance_text c scope = path_of c scope ++ codes " (" ++ (scope_at c scope).module_name ++ codes ")"

-- how the first of some variables that has a net names it
abbrev pub named_in : List Variable → ℕ → Option BitName
named_in [] net = None
named_in (v ∷ vs) net = option_or (named_by v net) (named_in vs net)

-- a bit by its name there, or another text
abbrev pub name_or : Option BitName → List ℕ → List ℕ
name_or None other = other
name_or (Some b) other = b.name ++ bit_text b.index

-- The pin of an element through which a change of a net came: the net as the element's scope names it, else what the element drives; else
-- the net by its path.
abbrev pub pin_text : Circuit → Element → ℕ → List ℕ
pin_text c e net = name_or (named_in (scope_at c e.scope).variables net) (name_or (named_in (scope_at c e.scope).variables e.output) (net_text c net))

-- both
abbrev pub way_text : Circuit → Element → ℕ → List ℕ
way_text c e net = instance_text c e.scope ++ codes " " ++ pin_text c e net
