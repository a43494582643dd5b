-- What enables events, as it was read.
use Rattle.std.specs.Prelude.{◌≡◌, List, [], Some, map}
use Rattle.std.specs.Option.{option_map}
use Rattle.std.proofs.Common.{sym, ◌∙◌, ap, subst, Vec, Global}
use Rattle.cond_expr.specs.Condition.{Condition}
use Rattle.cond_expr.specs.Token.{Tok}
use Rattle.sg_text.specs.declared.refusals.Refused.{Refused}
use Rattle.vl_tree.specs.declared.checks.Event as code
use Rattle.vl_tree.specs.declared.specify.Word as code_word
use Rattle.vl_tree.specs.Seen.{view_event, view_word}
use Rattle.vl_tree.specs.Tree.{Event}
use Rattle.elab_model.specs.declared.kinds.ElabKind.{ElabKind}
use Rattle.elab_model.specs.Faults.{RefusesOneOf}
use Rattle.elab_model.specs.Names.{Variable}
use Rattle.specify_model.specs.CheckFaults.{event_condition_faults, words_faults}
use Rattle.specify_model.specs.Checks.{enabled_by, event_of, index_in}
use Rattle.specify_model.specs.Conditions.{over, operand_bit, bound_to, first_bit, tokens}
use Rattle.specify_model.specs.Faults.{condition_faults}
use Rattle.specify_model.specs.Paths.{edge_of}
use Rattle.elab_model.specs.Terms.{term_bits}
use Rattle.elab_ends.specs.Seen.{bit_seen}
use Rattle.specify_paths.specs.Seen.{IsRead}
use Rattle.specify_checks.specs.Seen.{enabling_seen, event_seen}
use Rattle.specify_checks.specs.declared.events.ModuleEvent.{ModuleEvent}

pub enabling-read : (vs : List Variable) (ts : List Tok) (e : Condition) → IsRead ts e → enabling_seen vs e ≡ enabled_by vs ts
enabling-read vs ts e h = ap (λ us. (us, over (operand_bit vs us) e.tree)) h.tokens_are ∙ ap (λ r. (ts, bound_to vs ts r)) (sym h.tree_is)

-- the words of an event's condition
module _ (vs : List Variable) (e : code.Event) (ws : Vec code_word.Word Global) (xs : List code_word.Word) (is : e.condition ≡ Some ws) (words_are : xs ≡ ws.items) where
  words : (view_event e).condition ≡ Some (map view_word xs)
  words = ap (option_map (λ (v : Vec code_word.Word Global). map view_word v.items)) is ∙ ap (λ ys. Some (map view_word ys)) (sym words_are)

  faults-are : event_condition_faults vs (view_event e) ≡ condition_faults vs e.place (map view_word xs)
  faults-are = ap (words_faults vs e.place) words

  pub own-refused : (r : Refused ElabKind) → RefusesOneOf (condition_faults vs e.place (map view_word xs)) r → RefusesOneOf (event_condition_faults vs (view_event e)) r
  own-refused r h = subst (λ fs. RefusesOneOf fs r) (sym faults-are) h

  pub own-faultless : condition_faults vs e.place (map view_word xs) ≡ [] → event_condition_faults vs (view_event e) ≡ []
  own-faultless h = faults-are ∙ h

  pub own-enabled : (c : Condition) → IsRead (tokens (map view_word xs)) c → Some (enabling_seen vs c) ≡ option_map (λ us. enabled_by vs (tokens us)) (view_event e).condition
  own-enabled c h = ap (λ x. Some x) (enabling-read vs (tokens (map view_word xs)) c h) ∙ ap (option_map (λ us. enabled_by vs (tokens us))) (sym words)

-- an event by its parts
pub event-is : (vs : List Variable) (e : Event) (made : ModuleEvent) → bit_seen vs made.bit ≡ first_bit (term_bits vs e.term) → made.index ≡ index_in e.term.select → made.edge ≡ option_map edge_of e.edge
    → option_map (enabling_seen vs) made.condition ≡ option_map (λ ws. enabled_by vs (tokens ws)) e.condition → event_seen vs made ≡ event_of vs e
event-is vs e made b i d c = λ j. record { bit = b j; index = i j; edge = d j; condition = c j }
