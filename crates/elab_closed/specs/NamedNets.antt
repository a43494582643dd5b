-- The laws of what specify blocks name, as statements: each bit that a path or a timing check of an instance names is a net.
use Rattle.std.specs.Prelude.{◌≡◌, [], IfSome}
use Rattle.std.specs.List.{AllByRecursion}
use Rattle.cond_expr.specs.Tree.{Cond, leaf, constant, unary, binary}
use Rattle.sg_delay.specs.declared.corners.Corner.{Corner}
use Rattle.vl_tree.specs.Tree.{Module, Source}
use Rattle.elab_model.specs.Delays.{tick_of}
use Rattle.elab_model.specs.Hierarchy.{Instance, instances}
use Rattle.elab_model.specs.Homes.{home_of}
use Rattle.elab_model.specs.Lates.{DelayedCopy}
use Rattle.elab_model.specs.Nets.{nets}
use Rattle.elab_model.specs.Terms.{NetBit}
use Rattle.specify_model.specs.Checks.{ModuleCheck, ModuleEvent, timing_checks}
use Rattle.specify_model.specs.Conditions.{ModuleCondition, Always, If, IfNone}
use Rattle.specify_model.specs.Outputs.{PathOutput, path_outputs}
use Rattle.specify_model.specs.Paths.{ModulePath}
use Rattle.circuit_model.specs.Faults.{faults_below}
use Rattle.elab_laws.specs.LateLaws.{CopyHasNets}
use Rattle.elab_laws.specs.Words.{Owns}

-- each operand of a condition
abbrev pub EachOperand : (NetBit → Type 0) → Cond NetBit → Type 0
EachOperand P (leaf b) = P b
EachOperand P (constant v) = Unit {0}
EachOperand P (unary op c) = EachOperand P c
EachOperand P (binary op a b) = EachOperand P a × EachOperand P b

abbrev pub EachInCondition : (NetBit → Type 0) → ModuleCondition → Type 0
EachInCondition P Always = Unit {0}
EachInCondition P (If written bound) = EachOperand P bound
EachInCondition P IfNone = Unit {0}

-- each bit that a path names but its output
pub record EachInPath (P : NetBit → Type 0) (p : ModulePath) : Type 0 where
  pub input : P p.input
  pub condition : EachInCondition P p.condition

-- an output with paths, and each bit that they name
pub record EachInOutput (P : NetBit → Type 0) (o : PathOutput) : Type 0 where
  pub output : P o.output
  pub paths : AllByRecursion (EachInPath P) o.paths

-- each bit that an event names, and each that a timing check does, with the delayed copies that it sees
pub record EachInEvent (P : NetBit → Type 0) (e : ModuleEvent) : Type 0 where
  pub bit : P e.bit
  pub condition : IfSome e.condition (λ c. EachOperand P c.1)

pub record EachInCheck (P : NetBit → Type 0) (C : DelayedCopy → Type 0) (c : ModuleCheck) : Type 0 where
  pub refer : EachInEvent P c.refer
  pub datum : IfSome c.datum (EachInEvent P)
  pub notifier : IfSome c.notifier P
  pub copies : IfSome c.copies (λ cs. C cs.0 × C cs.1)

-- a bit of an instance is one of the nets
abbrev pub IsNet : Source → Module → Instance → NetBit → Type 0
IsNet source top s b = Owns (home_of source s b.name b.position) (nets source top)

-- what a delayed copy of an instance reads and what it drives are nets, and so is the bit that the text names for it
pub record HasCopyNets (source : Source) (top : Module) (s : Instance) (c : DelayedCopy) : Type 0 where
  pub nets : CopyHasNets source top s c
  pub named : IfSome c.named (IsNet source top s)

-- where a netlist has no fault, each bit that a specify path of an instance names is a net
abbrev pub PathsHaveNets : Type 0
PathsHaveNets = (source : Source) (top : Module) (corner : Corner) → faults_below source top corner ≡ []
    → AllByRecursion (λ s. AllByRecursion (EachInOutput (IsNet source top s)) (path_outputs corner (tick_of source top) s.step.definition)) (instances source top)

-- and so is each that a timing check of an instance names, and what its delayed copies read and drive
abbrev pub ChecksHaveNets : Type 0
ChecksHaveNets = (source : Source) (top : Module) (corner : Corner) → faults_below source top corner ≡ []
    → AllByRecursion (λ s. AllByRecursion (EachInCheck (IsNet source top s) (HasCopyNets source top s)) (timing_checks corner (tick_of source top) s.step.definition)) (instances source top)
