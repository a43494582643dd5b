-- Path uses as they are added one after another. No public contract cites it.
use Rattle.std.specs.Prelude.{◌≡◌, ℕ, ◌+◌, ◌<◌, ◌≤◌, All, List, [], ◌∷◌, ◌++◌, Some, length, map, flat_map, slice_get}
use Rattle.std.specs.List.{AllByRecursion}
use Rattle.cond_expr.specs.Condition.{Condition}
use Rattle.cond_expr.specs.Token.{Tok}
use Rattle.cond_expr.specs.declared.tokens.Tok.TheVariants.{Name}
use Rattle.sg_circuit.specs.PathsSeen.{paths_seen, spanned, IsIndexedPath, AreIndexedPaths}
use Rattle.sg_circuit.specs.declared.elements.LegTiming.{LegTiming}
use Rattle.sg_circuit.specs.declared.paths.Path.{Path}
use Rattle.sg_text.specs.declared.places.Place.{Place}
use Rattle.elab_model.specs.Names.{Variable}
use Rattle.specify_model.specs.Conditions.{operand}
use Rattle.specify_model.specs.Faults.{operand_faults}
use Rattle.specify_model.specs.Paths.{circuit_path}
use Rattle.elab_model.specs.Terms.{NetBit}
use Rattle.circuit_model.specs.PathUses as def
use Rattle.elab_laws.specs.Handing.{all_bits}
use Rattle.specify_paths.specs.Seen.{IsRead}
use Rattle.elab_paths.specs.Ready.{path_ready}
use Rattle.elab_paths.specs.declared.shelving.ReadyCondition.{ReadyCondition}
use Rattle.elab_paths.specs.declared.shelving.ReadyCondition.TheVariants as ready
use Rattle.elab_paths.specs.declared.shelving.ReadyOutput.{ReadyOutput}
use Rattle.elab_paths.specs.declared.shelving.ReadyPath.{ReadyPath}
use Rattle.elab_paths.specs.declared.uses.PathUse.{PathUse}
use Rattle.elab_paths.specs.declared.uses.PathUses.{PathUses}

-- ---- what an instance has of its module

-- the nets of the bits of variables, as a row and as a function
abbrev pub IsRow : List Variable → List ℕ → (NetBit → ℕ) → Type 0
IsRow vs row net = row ≡ map (λ b. net (record { name = b.0.name; position = b.1 })) (all_bits vs)

-- each operand of a condition is one declared bit
abbrev pub AreSound : List Variable → List Tok → Type 0
AreSound vs ts = (at : ℕ) (n : List ℕ) → slice_get ts at ≡ Some (Name n) → (p : Place) × (operand_faults vs (operand n p (slice_get ts (at + 1))) ≡ [])

-- a condition is what its tokens spell, and has sound operands
pub record IsSound (vs : List Variable) (c : Condition) : Type 0 where
  pub read : IsRead c.tokens c
  pub operands : AreSound vs c.tokens

abbrev pub IsBindable : List Variable → List Condition → ReadyCondition → Type 0
IsBindable vs conditions ready.Always = Unit {0}
IsBindable vs conditions (ready.If written) = (c : Condition) × ((slice_get conditions written ≡ Some c) × IsSound vs c)
IsBindable vs conditions ready.IfNone = Unit {0}

pub record IsUsablePath (vs : List Variable) (conditions : List Condition) (p : ReadyPath) : Type 0 where
  pub input : p.input < length (all_bits vs)
  pub condition : IsBindable vs conditions p.condition

pub record IsUsable (vs : List Variable) (conditions : List Condition) (o : ReadyOutput) : Type 0 where
  pub output : o.output < length (all_bits vs)
  pub paths : All (IsUsablePath vs conditions) o.paths.items

-- ---- what is added

-- these paths of a module, over nets, come behind those that were there
pub record AddsPaths (conditions : List Condition) (vs : List Variable) (row : List ℕ) (ps : List ReadyPath) (old new : List Path) : Type 0 where
  pub added : List Path
  pub are : new ≡ old ++ added
  pub seen : (net : NetBit → ℕ) (timings : List LegTiming) → IsRow vs row net → paths_seen conditions timings added ≡ map (λ p. circuit_path net (path_ready timings conditions vs p)) ps
  pub indexed : (timings : ℕ) → AllByRecursion (λ p. p.timing < timings) ps → AllByRecursion (IsIndexedPath (length conditions) timings) added

-- one output bit more of an instance
pub record AddsUse (conditions : List Condition) (vs : List Variable) (row : List ℕ) (o : ReadyOutput) (old new : PathUses) : Type 0 where
  pub added : PathUse
  pub uses : new.uses.items ≡ old.uses.items ++ added ∷ []
  pub paths : AddsPaths conditions vs row o.paths.items old.paths.items new.paths.items
  pub start_is : added.paths.start ≡ length old.paths.items
  pub end_is : added.paths.end ≡ length new.paths.items
  pub style_is : added.style ≡ o.style

-- the paths of each use end before those of later ones start
abbrev pub AreBeside : List PathUse → Type 0
AreBeside [] = Unit {0}
AreBeside (u ∷ us) = AllByRecursion (λ v. u.paths.end ≤ v.paths.start) us × AreBeside us

-- the uses have these paths and styles
pub record AreUses (conditions : List Condition) (timings : List LegTiming) (made : PathUses) (us : List def.PathUse) : Type 0 where
  pub paths : map (λ u. paths_seen conditions timings (spanned made.paths.items u.paths)) made.uses.items ≡ map (λ u. u.paths) us
  pub styles : map (λ u. u.style) made.uses.items ≡ map (λ u. u.style) us
  pub spans : AllByRecursion (λ u. AreIndexedPaths (length conditions) (length timings) made.paths.items u.paths) made.uses.items
  pub beside : AreBeside made.uses.items
  pub count : length made.paths.items ≡ length (flat_map (λ u. u.paths) us)
