-- Whether what a term names is a port of a side.
use Rattle.std.specs.Prelude.{◌≡◌, ℕ, List, [], ◌++◌, Bool, true, false, not, Some, None}
use Rattle.std.proofs.Common.{sym, ◌∙◌, ap}
use Rattle.sg_circuit.specs.declared.scopes.Port.{Port}
use Rattle.sg_text.specs.declared.refusals.Refused.{Refused}
use Rattle.sg_text.specs.declared.refusals.Refused.TheVariants as refused
use Rattle.vl_tree.specs.Tree.{Term}
use Rattle.elab_bits.proofs.NamedAt.{named-at, not-named}
use Rattle.elab_model.specs.Bits.{variable_named}
use Rattle.elab_model.specs.declared.kinds.ElabKind.{ElabKind}
use Rattle.elab_model.specs.declared.kinds.ElabKind.TheVariants.{BadTerminal}
use Rattle.elab_model.specs.Faults.{fault_if, RefusesOneOf}
use Rattle.elab_model.specs.Names.{Variable}
use Rattle.elab_declared.proofs.Refusals.{refused-left, refused-right}
use Rattle.elab_variables.specs.Seen.{variable_at, place_named}
use Rattle.specify_model.specs.Faults.{term_faults, port_faults, is_no}
use Rattle.specify_values.proofs.InTurn.{fault-told}

module _ (such : Port → Bool) (vs : List Variable) (t : Term) where
  pub term-told : (r : Refused ElabKind) → RefusesOneOf (term_faults vs t) r → RefusesOneOf (port_faults such vs t) r
  term-told r h = refused-left (term_faults vs t) (fault_if (is_no such (variable_named vs t.name.text)) BadTerminal t.name.place) r h

  pub no-variable : term_faults vs t ≡ [] → None ≡ place_named vs t.name.text → port_faults such vs t ≡ []
  no-variable h e =
      ap (λ fs. fs ++ fault_if (is_no such (variable_named vs t.name.text)) BadTerminal t.name.place) h ∙ ap (λ o. fault_if (is_no such o) BadTerminal t.name.place) (not-named vs t.name.text e)

  is-no : (i : ℕ) (p : Port) (b : Bool) → Some i ≡ place_named vs t.name.text → p ≡ (variable_at vs i).port → b ≡ such p → is_no such (variable_named vs t.name.text) ≡ not b
  is-no i p b e port is = ap (is_no such) (named-at vs t.name.text i e).found ∙ ap not (sym (is ∙ ap such port))

  pub such-port : (i : ℕ) (p : Port) (b : Bool) → term_faults vs t ≡ [] → Some i ≡ place_named vs t.name.text → p ≡ (variable_at vs i).port → b ≡ such p → b ≡ true → port_faults such vs t ≡ []
  such-port i p b h e port is holds =
      ap (λ fs. fs ++ fault_if (is_no such (variable_named vs t.name.text)) BadTerminal t.name.place) h ∙ ap (λ n. fault_if n BadTerminal t.name.place) (is-no i p b e port is ∙ ap not holds)

  pub no-such_port : (i : ℕ) (p : Port) (b : Bool) → Some i ≡ place_named vs t.name.text → p ≡ (variable_at vs i).port → b ≡ such p → b ≡ false
      → RefusesOneOf (port_faults such vs t) (refused.Fault BadTerminal t.name.place)
  no-such_port i p b e port is fails =
      refused-right (term_faults vs t) _ (refused.Fault BadTerminal t.name.place)
      (fault-told (is_no such (variable_named vs t.name.text)) BadTerminal t.name.place (is-no i p b e port is ∙ ap not fails))
