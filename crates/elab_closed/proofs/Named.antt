-- Each bit that a path or a timing check of a netlist without faults names is a net, and its number is below their count.
use Rattle.std.specs.Prelude.{◌≡◌, ℕ, ◌<◌, [], Option, Some, None, IfSome, map}
use Rattle.std.specs.List.{AllByRecursion}
use Rattle.std.proofs.Common.{sym, subst}
use Rattle.cond_expr.specs.Tree.{Cond, leaf, constant, unary, binary}
use Rattle.cond_expr.specs.Values.{AreBelow}
use Rattle.sg_delay.specs.declared.corners.Corner.{Corner}
use Rattle.vl_tree.specs.Tree.{Check, Module, Source}
use Rattle.elab_model.specs.Delays.{tick_of}
use Rattle.elab_model.specs.Faults.{fault}
use Rattle.elab_model.specs.Hierarchy.{Instance, instances}
use Rattle.elab_model.specs.Lates.{DelayedCopy, signal_count, module_copies}
use Rattle.elab_model.specs.Members.{delayed_names}
use Rattle.elab_model.specs.ModuleFaults.{module_faults}
use Rattle.elab_model.specs.Names.{variables}
use Rattle.elab_model.specs.Terms.{NetBit}
use Rattle.elab_model.specs.declared.kinds.ElabKind.TheVariants.{SpecifyInHierarchy}
use Rattle.specify_model.specs.Blocks.{parameters, specify_items}
use Rattle.specify_model.specs.CheckFaults.{timing_check_faults}
use Rattle.specify_model.specs.Checks.{check_texts, module_check, timing_checks}
use Rattle.specify_model.specs.Conditions.{over}
use Rattle.specify_model.specs.Faults.{blocks_in_hierarchy, specify_faults}
use Rattle.specify_model.specs.Outputs.{measure, path_outputs}
use Rattle.specify_model.specs.Values.{Values, value_of}
use Rattle.circuit_model.specs.Faults.{check_faults, module_path_faults, path_faults}
use Rattle.elab_laws.proofs.Copies.{copy_of, all_copies, in-module_copies}
use Rattle.elab_laws.proofs.CopyBits.{IsCopyOf, copies-below}
use Rattle.elab_laws.proofs.EndBits.{HasNetBit}
use Rattle.elab_laws.proofs.Homes.{home-there}
use Rattle.elab_laws.proofs.LateNets.{copies-have_nets}
use Rattle.elab_laws.proofs.Lists.{In, all-in, all-map, all-weaker}
use Rattle.elab_laws.proofs.NoFaults.{all-from, back, each-faultless, flat-empty}
use Rattle.elab_closed.specs.NamedNets.{ChecksHaveNets, EachInCheck, EachInOutput, EachOperand, HasCopyNets, IsNet, PathsHaveNets}
use Rattle.elab_closed.proofs.CheckCopies.{IsName, asked-there, names-sound}
use Rattle.elab_closed.proofs.Counts.{faultless-parts}
use Rattle.elab_closed.proofs.NamedChecks.{check-known}
use Rattle.elab_closed.proofs.NamedPaths.{outputs-known}
use Rattle.elab_closed.proofs.Places.{from-map}
use Rattle.elab_closed.proofs.SoundChecks.{AreNone, checks-none}

-- a bit of a variable of an instance is a net
pub bit-there : (source : Source) (top : Module) (s : Instance) → In s (instances source top) → (b : NetBit) → HasNetBit (variables s.step.definition) b → IsNet source top s b
bit-there source top s there b h = home-there source top s b.name b.position there h

-- ---- paths

pub blocks-sound : (source : Source) (top : Module) (corner : Corner) → path_faults source top corner ≡ []
    → AllByRecursion (λ s. specify_faults corner (tick_of source top) s.step.definition ≡ []) (instances source top)
blocks-sound source top corner h =
    let tick = tick_of source top in
    let all : Instance → _ = λ s. module_path_faults source corner tick s.step.definition in
    all-weaker (λ s. all s ≡ []) (λ s. specify_faults corner tick s.step.definition ≡ []) (instances source top)
    (λ s e. back (map (fault SpecifyInHierarchy) (blocks_in_hierarchy source s.step.definition)) (specify_faults corner tick s.step.definition) e) (flat-empty all (instances source top) h)

pub outputs-there : (source : Source) (top : Module) (corner : Corner) → path_faults source top corner ≡ []
    → AllByRecursion (λ s. AllByRecursion (EachInOutput (IsNet source top s)) (path_outputs corner (tick_of source top) s.step.definition)) (instances source top)
outputs-there source top corner h =
    let tick = tick_of source top in
    let sound = blocks-sound source top corner h in
    all-from (λ s. AllByRecursion (EachInOutput (IsNet source top s)) (path_outputs corner tick s.step.definition)) (instances source top)
    (λ s there. outputs-known corner tick s.step.definition (IsNet source top s) (bit-there source top s there)
    (all-in (λ s. specify_faults corner tick s.step.definition ≡ []) s (instances source top) sound there))

pub paths-have_nets : PathsHaveNets
paths-have_nets source top corner h = outputs-there source top corner (faultless-parts source top corner h).paths

-- ---- checks

pub checks-sound : (source : Source) (top : Module) (corner : Corner) → check_faults source top corner ≡ []
    → AllByRecursion (λ s. timing_check_faults corner (tick_of source top) s.step.definition ≡ []) (instances source top)
checks-sound source top corner h = flat-empty (λ s. timing_check_faults corner (tick_of source top) s.step.definition) (instances source top) h

-- what a copy of an instance's module reads and drives, and what the text names for it
pub copy-there : (source : Source) (top : Module) (s : Instance) → In s (instances source top) → (d : DelayedCopy) → In d (map copy_of (all_copies s.step.definition)) → HasCopyNets source top s d
copy-there source top s there d h =
    let m = s.step.definition in
    let x = from-map copy_of d (module_copies m) (in-module_copies m d h) in
    let bits = all-in (λ c. IsCopyOf (variables m) c.1) x.0 (module_copies m) (copies-below m) x.1 in
    subst (HasCopyNets source top s) (sym x.2) (record { nets = copies-have_nets source top s x.0 there x.1; named = by x.0.1.named bits.named })
  where
    by : (o : Option NetBit) → IfSome o (HasNetBit (variables s.step.definition)) → IfSome o (IsNet source top s)
    by None k = tt
    by (Some b) k = bit-there source top s there b k

pub check-there : (source : Source) (top : Module) (corner : Corner) (s : Instance) (values : Values) (c : Check) → In s (instances source top) → In c (check_texts (specify_items s.step.definition))
    → AreNone (signal_count s.step.definition) (measure corner (tick_of source top) s.step.definition) (variables s.step.definition) values c
    → AllByRecursion (IsName (variables s.step.definition)) (delayed_names c)
    → EachInCheck (IsNet source top s) (HasCopyNets source top s) (module_check (measure corner (tick_of source top) s.step.definition) (variables s.step.definition) values c)
check-there source top corner s values c there text h names =
    let m = s.step.definition in
    check-known (variables m) (IsNet source top s) (bit-there source top s there) (HasCopyNets source top s) (signal_count m) (measure corner (tick_of source top) m) values c h names
    (λ d k. copy-there source top s there d (asked-there m c d text k))

checks-there : (source : Source) (top : Module) (corner : Corner) (s : Instance) → In s (instances source top) → module_faults source corner (tick_of source top) s.step.definition ≡ []
    → timing_check_faults corner (tick_of source top) s.step.definition ≡ []
    → AllByRecursion (EachInCheck (IsNet source top s) (HasCopyNets source top s)) (timing_checks corner (tick_of source top) s.step.definition)
checks-there source top corner s there plain h =
    let tick = tick_of source top in
    let m = s.step.definition in
    let by = measure corner tick m in
    let vs = variables m in
    let values = value_of (parameters (specify_items m)) in
    let texts = check_texts (specify_items m) in
    let Named = EachInCheck (IsNet source top s) (HasCopyNets source top s) in
    let none = checks-none corner tick m h in
    all-map Named (module_check by vs values) texts
    (all-from (λ c. Named (module_check by vs values c)) texts
    (λ c text. check-there source top corner s values c there text (all-in (AreNone (signal_count m) by vs values) c texts none text) (names-sound source corner tick m c plain text)))

pub checks-have_nets : ChecksHaveNets
checks-have_nets source top corner h =
    let tick = tick_of source top in
    let parts = faultless-parts source top corner h in
    let sound = checks-sound source top corner parts.checks in
    let plain = each-faultless source top corner parts.plain in
    all-from (λ s. AllByRecursion (EachInCheck (IsNet source top s) (HasCopyNets source top s)) (timing_checks corner tick s.step.definition)) (instances source top)
    (λ s there.
    checks-there source top corner s there (all-in (λ s. module_faults source corner tick s.step.definition ≡ []) s (instances source top) plain there)
    (all-in (λ s. timing_check_faults corner tick s.step.definition ≡ []) s (instances source top) sound there))

-- ---- their numbers

pub operands-below : (P : NetBit → Type 0) (count : ℕ) (f : NetBit → ℕ) → ((b : NetBit) → P b → f b < count) → (c : Cond NetBit) → EachOperand P c → AreBelow count (over f c)
operands-below P count f small (leaf b) h = small b h
operands-below P count f small (constant v) h = tt
operands-below P count f small (unary op c) h = operands-below P count f small c h
operands-below P count f small (binary op a b) h = (operands-below P count f small a h.0, operands-below P count f small b h.1)
