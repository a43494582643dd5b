-- The code's paths, as the definitions see them.
use Rattle.std.specs.Prelude.{◌≡◌, ℕ, ◌<◌, All, List, [], Option, None, Ok, map, length, slice_index_or}
use Rattle.std.specs.Option.{option_map}
use Rattle.cond_expr.specs.Condition.{Condition}
use Rattle.cond_expr.specs.Token.{Tok}
use Rattle.elab_ends.specs.Seen.{bit_seen, bits_seen, AreInRow}
use Rattle.elab_laws.specs.Handing.{all_bits}
use Rattle.elab_model.specs.Names.{Variable}
use Rattle.sg_logic.specs.declared.edges.Edge.{Edge}
use Rattle.sg_text.specs.declared.places.Place.{Place}
use Rattle.vl_tree.specs.Tree.{SpecifyPath}
use Rattle.specify_model.specs.Conditions.{ModuleCondition, Always, If, IfNone, over, operand_bit, tree_of, condition_of}
use Rattle.specify_model.specs.Outputs.{PathOutput}
use Rattle.specify_model.specs.Paths.{ModulePath, PathTo, edge_of, timings_with}
use Rattle.specify_model.specs.PulseLimits.{Limits}
use Rattle.elab_model.specs.Terms.{NetBit, terms_bits}
use Rattle.specify_model.specs.Values.{Measure, Values, twelve_delays}
use Rattle.specify_values.specs.Seen.{widths_seen}
use Rattle.specify_paths.specs.declared.ends.Ends.{Ends}
use Rattle.specify_paths.specs.declared.grouping.PathOutput as code_output
use Rattle.specify_paths.specs.declared.outputs.PathOutputs.{PathOutputs}
use Rattle.specify_paths.specs.declared.pairs.ModulePath as code_path
use Rattle.specify_paths.specs.declared.pairs.PathTo as code_to
use Rattle.specify_paths.specs.declared.statements.ModuleCondition as code_condition
use Rattle.specify_paths.specs.declared.statements.ModuleCondition.TheVariants as code
use Rattle.specify_paths.specs.declared.statements.Statement as code_statement

-- ---- the sides of a path

pub record AreEnds (vs : List Variable) (p : SpecifyPath) (e : Ends) : Type 0 where
  pub inputs_are : bits_seen vs e.inputs.items ≡ terms_bits vs p.sources
  pub outputs_are : bits_seen vs e.outputs.items ≡ terms_bits vs p.destination.terms
  pub inputs_in_row : AreInRow vs e.inputs.items
  pub outputs_in_row : AreInRow vs e.outputs.items

-- ---- specify paths

-- a condition that was read of these tokens
pub record IsRead (ts : List Tok) (e : Condition) : Type 0 where
  pub tokens_are : e.tokens ≡ ts
  pub tree_is : tree_of ts ≡ Ok e.tree

abbrev pub condition_seen : List Variable → code_condition.ModuleCondition → ModuleCondition
condition_seen vs code.Always = Always
condition_seen vs (code.If e) = If e.tokens (over (operand_bit vs e.tokens) e.tree)
condition_seen vs code.IfNone = IfNone

-- what a specify path says of all its bits
pub record Said : Type 0 where
  pub edge : Option Edge
  pub condition : ModuleCondition
  pub delays : List ℕ

abbrev pub said_by : List Variable → code_statement.Statement → Said
said_by vs s = record { edge = s.edge; condition = condition_seen vs s.condition; delays = s.delays.at }

abbrev pub said_of : Measure → List Variable → Values → SpecifyPath → Said
said_of by vs values p = record { edge = option_map edge_of p.edge; condition = condition_of vs p.condition; delays = twelve_delays by values p.delays }

abbrev pub said_at : List Said → ℕ → Said
said_at said i = slice_index_or said i (record { edge = None; condition = Always; delays = [] })

-- ---- paths

-- a path of which the specify path is known
abbrev pub path_seen : List Variable → List Said → code_path.ModulePath → ModulePath
path_seen vs said p =
    let s = said_at said p.statement in
    record { input = bit_seen vs p.input; edge = s.edge; condition = s.condition; timings = timings_with (option_map widths_seen p.limits) s.delays }

abbrev pub path_to_seen : List Variable → List Said → code_to.PathTo → PathTo
path_to_seen vs said p = record { output = bit_seen vs p.output; place = p.place; path = path_seen vs said p.path }

-- a path of the specify path of a number, between two bits
abbrev pub path_said : Said → Place → Limits → NetBit × NetBit → PathTo
path_said s place limits ends = record {
  output = ends.1;
  place = place;
  path = record { input = ends.0; edge = s.edge; condition = s.condition; timings = timings_with (limits ends.0.name ends.1.name) s.delays };
}

abbrev pub output_seen : List Variable → List Said → code_output.PathOutput → PathOutput
output_seen vs said o = record { output = bit_seen vs o.output; place = o.place; style = o.style; paths = map (path_seen vs said) o.paths.items }

abbrev pub outputs_seen : List Variable → PathOutputs → List PathOutput
outputs_seen vs p = map (output_seen vs (map (said_by vs) p.statements.items)) p.outputs.items

-- the bits of an output's paths are in the row, and their specify paths in a list of so many
pub record IsInRow (vs : List Variable) (statements : ℕ) (o : code_output.PathOutput) : Type 0 where
  pub output_in_row : o.output < length (all_bits vs)
  pub inputs_in_row : All (λ p. p.input < length (all_bits vs)) o.paths.items
  pub statements_listed : All (λ p. p.statement < statements) o.paths.items

-- the same of a path
pub record IsPathInRow (vs : List Variable) (statements : ℕ) (p : code_to.PathTo) : Type 0 where
  pub output_in_row : p.output < length (all_bits vs)
  pub input_in_row : p.path.input < length (all_bits vs)
  pub statement_listed : p.path.statement < statements

abbrev pub ArePathsInRow : List Variable → ℕ → List code_to.PathTo → Type 0
ArePathsInRow vs statements ps = All (IsPathInRow vs statements) ps
