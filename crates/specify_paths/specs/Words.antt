-- What private functions answer, which no public contract cites.
use Rattle.std.specs.Prelude.{◌≡◌, ℕ, zero, suc, ◌++◌, Bool, ◌==◌, List, [], ◌∷◌, Option, Some, None, map, filter, unwrap_or, if◌then◌else◌}
use Rattle.std.specs.List.{list_any}
use Rattle.indexmap.specs.IndexMap.{get_by}
use Rattle.sg_delay.specs.declared.limits.PulseStyle.{PulseStyle}
use Rattle.sg_delay.specs.declared.limits.PulseStyle.TheVariants.{OnEvent}
use Rattle.cond_expr.specs.declared.faults.CondFault.{CondFault}
use Rattle.cond_expr.specs.declared.faults.CondFault.TheVariants as cond
use Rattle.cond_expr.specs.declared.tokens.Tok.TheVariants.{Name}
use Rattle.cond_expr.specs.Token.{Tok}
use Rattle.sg_circuit.specs.declared.scopes.Port.{Port}
use Rattle.sg_text.specs.declared.places.Place.{Place}
use Rattle.sg_text.specs.declared.refusals.Refused.{Refused}
use Rattle.sg_text.specs.declared.refusals.Refused.TheVariants as refused
use Rattle.elab_model.specs.declared.kinds.ElabKind.{ElabKind}
use Rattle.elab_model.specs.declared.kinds.ElabKind.TheVariants.{TooDeep}
use Rattle.vl_tree.specs.Tree.{Term, Word}
use Rattle.elab_model.specs.Homes.{is_input, is_output}
use Rattle.specify_model.specs.Conditions.{operand, next_token}
use Rattle.specify_paths.specs.declared.grouping.PathOutput as code_output
use Rattle.specify_paths.specs.declared.pairs.ModulePath.{ModulePath}
use Rattle.specify_paths.specs.declared.pairs.PathTo.{PathTo}
use Rattle.specify_paths.specs.declared.styles.Styles.{Styles}
use Rattle.specify_paths.specs.declared.terms.Side.{Side}
use Rattle.specify_paths.specs.declared.terms.Side.TheVariants as side

-- the ports of a side of a path
abbrev pub such_port : Side → Port → Bool
such_port side.Input = is_input
such_port side.Output = is_output

-- the operand that words begin with
abbrev pub operand_with : Place → Tok → Option Tok → Option Term
operand_with p (Name n) next = Some (operand n p next)
operand_with p _ next = None

abbrev pub first_operand : List Word → Option Term
first_operand [] = None
first_operand (w ∷ ws) = operand_with w.place w.token (next_token ws)

-- what a fault of a condition is as one of its module
abbrev pub refusal_of : CondFault → Place → Refused ElabKind
refusal_of cond.NoMemory p = refused.NoMemory
refusal_of (cond.Syntax at) p = refused.Fault TooDeep p
refusal_of cond.TooDeep p = refused.Fault TooDeep p

-- ---- styles

-- the style that a table has of a place of the row
abbrev pub style_at : Styles → ℕ → PulseStyle
style_at s i = unwrap_or (get_by (λ k. i == k) s.chosen) OnEvent

-- those of a list take a style
abbrev pub with_style : (ℕ → PulseStyle) → PulseStyle → List ℕ → ℕ → PulseStyle
with_style old s bits i = if list_any (λ k. i == k) bits then s else old i

-- ---- paths by their outputs, as places of the row

pub record Output : Type 0 where
  pub output : ℕ
  pub place : Place
  pub style : PulseStyle
  pub paths : List ModulePath

abbrev pub output_kept : code_output.PathOutput → Output
output_kept o = record { output = o.output; place = o.place; style = o.style; paths = o.paths.items }

abbrev pub first_to_each : List ℕ → List PathTo → List PathTo
first_to_each seen [] = []
first_to_each seen (p ∷ ps) = if list_any (λ k. p.output == k) seen then first_to_each seen ps else p ∷ first_to_each (p.output ∷ seen) ps

abbrev pub paths_at : ℕ → List PathTo → List ModulePath
paths_at i ps = map (λ p. p.path) (filter (λ p. i == p.output) ps)

abbrev pub output_at : (ℕ → PulseStyle) → List PathTo → PathTo → Output
output_at style ps first = record { output = first.output; place = first.place; style = style first.output; paths = paths_at first.output ps }

abbrev pub grouped : (ℕ → PulseStyle) → List PathTo → List Output
grouped style ps = map (output_at style ps) (first_to_each [] ps)

abbrev pub outputs_in : List PathTo → List ℕ
outputs_in ps = map (λ p. p.output) ps

-- an output that takes one more path
abbrev pub with_path : ModulePath → Output → Output
with_path p o = record { output = o.output; place = o.place; style = o.style; paths = o.paths ++ p ∷ [] }

abbrev pub set_at : ℕ → ModulePath → List Output → List Output
set_at i p [] = []
set_at zero p (o ∷ os) = with_path p o ∷ os
set_at (suc i) p (o ∷ os) = o ∷ set_at i p os

-- a new output, as yet without a path
abbrev pub blank_output : (ℕ → PulseStyle) → PathTo → Output
blank_output style p = record { output = p.output; place = p.place; style = style p.output; paths = [] }

-- the place of a path's output, once it is there: where it takes the path, the paths with this one more are grouped
pub record IsPlaced (style : ℕ → PulseStyle) (ps : List PathTo) (p : PathTo) (at : ℕ) (keys : List ℕ) (os : List Output) : Type 0 where
  pub keys_are : keys ≡ outputs_in (first_to_each [] (ps ++ p ∷ []))
  pub taking : set_at at p.path os ≡ grouped style (ps ++ p ∷ [])
