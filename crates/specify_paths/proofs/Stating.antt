-- What a specify path says of all its bits, part by part.
use Rattle.std.specs.Prelude.{◌≡◌, ℕ, List, [], ◌∷◌, ◌++◌, Option, Ok, flat_map, map, refl}
use Rattle.std.specs.Option.{option_map}
use Rattle.std.proofs.Common.{sym, ◌∙◌, ap, subst, Vec, Global}
use Rattle.cond_expr.specs.Condition.{Condition}
use Rattle.cond_expr.specs.Token.{Tok}
use Rattle.sg_delay.specs.declared.expansion.Delays12.{Delays12}
use Rattle.sg_logic.specs.declared.edges.Edge.{Edge}
use Rattle.sg_text.specs.declared.places.Place.{Place}
use Rattle.sg_text.specs.declared.refusals.Refused.{Refused}
use Rattle.vl_tree.specs.declared.paths.PathCondition as code
use Rattle.vl_tree.specs.declared.paths.PathCondition.TheVariants as variant
use Rattle.vl_tree.specs.declared.specify.Word as code_word
use Rattle.vl_tree.specs.Seen.{view_path_condition, view_word}
use Rattle.vl_tree.specs.Tree.{SpecifyPath}
use Rattle.elab_model.specs.declared.kinds.ElabKind.{ElabKind}
use Rattle.elab_model.specs.Faults.{RefusesOneOf}
use Rattle.elab_model.specs.Names.{Variable}
use Rattle.elab_declared.proofs.Refusals.{refused-left}
use Rattle.specify_model.specs.Conditions.{ModuleCondition, If, condition_of, condition_over, operand_bit, over, tokens, tree_of}
use Rattle.specify_model.specs.Faults.{condition_faults, own_condition}
use Rattle.specify_model.specs.Paths.{edge_of}
use Rattle.specify_model.specs.Values.{Measure, Values, all_delays, expanded}
use Rattle.specify_paths.specs.Seen.{IsRead, Said, said_of}
use Rattle.specify_paths.proofs.ReadConditions.{condition-bound}

abbrev said : Option Edge → ModuleCondition → List ℕ → Said
said e c ds = record { edge = e; condition = c; delays = ds }

pub said-whole : (by : Measure) (vs : List Variable) (values : Values) (p : SpecifyPath) (e : Option Edge) (c : ModuleCondition) (d : Delays12) → e ≡ option_map edge_of p.edge → c ≡ condition_of vs p.condition
    → expanded by values p.delays ≡ Ok d → said e c d.at ≡ said_of by vs values p
said-whole by vs values p e c d is_edge is_condition are_delays =
    ap (λ f. said f c d.at) is_edge ∙ ap (λ b. said (option_map edge_of p.edge) b d.at) is_condition
    ∙ ap (said (option_map edge_of p.edge) (condition_of vs p.condition)) (sym (ap all_delays are_delays))

-- ---- a condition of its own

module _ (vs : List Variable) (p : Place) (k : code.PathCondition) (ws : Vec code_word.Word Global) (xs : List code_word.Word) (is : k ≡ variant.If ws) (words_are : xs ≡ ws.items) where
  own-are : own_condition (view_path_condition k) ≡ map view_word xs ∷ []
  own-are = ap (λ q. own_condition (view_path_condition q)) is ∙ ap (λ ys. map view_word ys ∷ []) (sym words_are)

  pub own-refused : (r : Refused ElabKind) → RefusesOneOf (condition_faults vs p (map view_word xs)) r → RefusesOneOf (flat_map (condition_faults vs p) (own_condition (view_path_condition k))) r
  own-refused r h = subst (λ wss. RefusesOneOf (flat_map (condition_faults vs p) wss) r) (sym own-are) (refused-left (condition_faults vs p (map view_word xs)) [] r h)

  pub own-faultless : condition_faults vs p (map view_word xs) ≡ [] → flat_map (condition_faults vs p) (own_condition (view_path_condition k)) ≡ []
  own-faultless h = ap (flat_map (condition_faults vs p)) own-are ∙ ap (λ fs. fs ++ []) h

  pub own-bound : (e : Condition) → IsRead (tokens (map view_word xs)) e → If e.tokens (over (operand_bit vs e.tokens) e.tree) ≡ condition_of vs (view_path_condition k)
  own-bound e h =
      condition-bound vs (tokens (map view_word xs)) e h ∙ ap (λ ys. condition_over vs (tokens (map view_word ys))) words_are ∙ ap (λ q. condition_of vs (view_path_condition q)) (sym is)

pub read-own : (ts : List Tok) (e : Condition) → IsRead ts e → IsRead e.tokens e
read-own ts e h = record { tokens_are = refl; tree_is = ap tree_of h.tokens_are ∙ h.tree_is }
