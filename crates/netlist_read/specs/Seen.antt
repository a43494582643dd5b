-- What reading answers, as the definitions see it.
use Rattle.std.specs.Prelude.{ℕ, List, Option}
use Rattle.sg_delay.specs.declared.corners.Corner.{Corner}
use Rattle.sg_text.specs.declared.refusals.Refused.{Refused}
use Rattle.sg_text.specs.declared.refusals.Refused.TheVariants.{Fault, NoMemory}
use Rattle.netlist_read.specs.Kinds.{Kind, of_text, of_syntax, unsupported, of_block, of_meaning}
use Rattle.netlist_read.specs.Reading.{FaultStands}
use Rattle.netlist_read.specs.declared.kinds.NetlistKind.{NetlistKind}
use Rattle.netlist_read.specs.declared.kinds.NetlistKind.TheVariants.{Text, Syntax, Unsupported, Specify, Meaning}

abbrev pub kind_seen : NetlistKind → Kind
kind_seen (Text kind) = of_text kind
kind_seen Syntax = of_syntax
kind_seen (Unsupported word) = unsupported word.now
kind_seen (Specify kind) = of_block kind
kind_seen (Meaning kind) = of_meaning kind

-- a refusal tells a fault that stands, or that there was no memory
abbrev pub RefusalStands : List (List ℕ) → Option (List ℕ) → Corner → Refused NetlistKind → Type 0
RefusalStands texts name corner (Fault kind place) = FaultStands texts name corner (kind_seen kind) place
RefusalStands texts name corner NoMemory = Unit {0}
