-- The two sides of a path: their terms are sound, and whether their widths differ.
use Rattle.std.specs.Prelude.{◌≡◌, ℕ, List, [], ◌∷◌, ◌++◌, Bool, true, false, ◌&&◌, not, ◌==◌, flat_map, length, refl}
use Rattle.std.proofs.Common.{sym, ◌∙◌, ap}
use Rattle.std.proofs.lemmas.Bool.{eqb-true}
use denote.Enum.Bare.{sameb}
use Rattle.std.proofs.lemmas.List.{length-map}
use Rattle.sg_circuit.specs.declared.scopes.Port.{Port}
use Rattle.sg_text.specs.declared.refusals.Refused.{Refused}
use Rattle.sg_text.specs.declared.refusals.Refused.TheVariants as refused
use Rattle.vl_tree.specs.contracts.paths.Arrow.{the_type}
use Rattle.vl_tree.specs.declared.paths.Arrow.{Arrow}
use Rattle.vl_tree.specs.declared.paths.Arrow.TheVariants.{Parallel, Full}
use Rattle.vl_tree.specs.Tree.{Term, SpecifyPath}
use Rattle.elab_model.specs.declared.kinds.ElabKind.{ElabKind}
use Rattle.elab_model.specs.declared.kinds.ElabKind.TheVariants.{WidthMismatch}
use Rattle.elab_model.specs.Faults.{RefusesOneOf}
use Rattle.elab_model.specs.Hierarchy.{is_empty}
use Rattle.elab_model.specs.Homes.{is_input, is_output}
use Rattle.elab_model.specs.Names.{Variable}
use Rattle.elab_declared.proofs.Refusals.{refused-left, refused-right}
use Rattle.specify_model.specs.Faults.{term_faults, port_faults, are_sound, is_parallel, sides_differ, end_faults, side_faults}
use Rattle.elab_model.specs.Terms.{terms_bits}
use Rattle.specify_values.proofs.InTurn.{fault-told}
use Rattle.elab_ends.specs.Seen.{bit_seen, bits_seen}
use Rattle.specify_paths.proofs.InOrder.{none-left, none-right}

sound : (such : Port → Bool) (vs : List Variable) (ts : List Term) → flat_map (port_faults such vs) ts ≡ [] → are_sound vs ts ≡ true
sound such vs [] h = refl
sound such vs (t ∷ ts) h =
    let own : port_faults such vs t ≡ [] = none-left (port_faults such vs t) (flat_map (port_faults such vs) ts) h in
    ap (λ fs. is_empty fs && are_sound vs ts) (none-left (term_faults vs t) _ own) ∙ sound such vs ts (none-right (port_faults such vs t) (flat_map (port_faults such vs) ts) h)

count : (vs : List Variable) (is : List ℕ) (ts : List Term) → bits_seen vs is ≡ terms_bits vs ts → length is ≡ length (terms_bits vs ts)
count vs is ts h = sym (length-map is (bit_seen vs)) ∙ ap length h

-- as the code sees that they differ
pub parallel-differ : (a : Arrow) (n m i o : ℕ) → sameb the_type a Parallel ≡ true → n ≡ i → m ≡ o → (n ≡ m → ⊥) → (is_parallel a && not (i == o)) ≡ true
parallel-differ a n m i o e ni mo differ = ap (λ b. b && not (i == o)) (parallel a e) ∙ ap not (by (i == o) refl)
  where
    parallel : (a : Arrow) → sameb the_type a Parallel ≡ true → is_parallel a ≡ true
    parallel Parallel h = refl
    parallel Full h = cc

    by : (b : Bool) → (i == o) ≡ b → (i == o) ≡ false
    by true h = absurd (differ (ni ∙ eqb-true i o h ∙ sym mo))
    by false h = h

module _ (vs : List Variable) (p : SpecifyPath) where
  abbrev sources : List Term
  sources = p.sources

  abbrev terms : List Term
  terms = p.destination.terms

  pub input-told : (r : Refused ElabKind) → RefusesOneOf (flat_map (port_faults is_input vs) sources) r → RefusesOneOf (end_faults vs p ++ side_faults vs p) r
  input-told r h = refused-left (end_faults vs p) (side_faults vs p) r (refused-left (flat_map (port_faults is_input vs) sources) _ r h)

  pub output-told : (r : Refused ElabKind) → RefusesOneOf (flat_map (port_faults is_output vs) terms) r → RefusesOneOf (end_faults vs p ++ side_faults vs p) r
  output-told r h = refused-left (end_faults vs p) (side_faults vs p) r (refused-right (flat_map (port_faults is_input vs) sources) _ r h)

  -- where all terms are such ports, the sides differ as their bits do
  differing : (inputs outputs : List ℕ) → flat_map (port_faults is_input vs) sources ≡ [] → flat_map (port_faults is_output vs) terms ≡ [] → bits_seen vs inputs ≡ terms_bits vs sources → bits_seen vs outputs ≡ terms_bits vs terms
      → sides_differ vs p ≡ (is_parallel p.arrow && not (length inputs == length outputs))
  differing inputs outputs h g e f =
      ap (λ s. is_parallel p.arrow && (s && (are_sound vs terms && not (length (terms_bits vs sources) == length (terms_bits vs terms))))) (sound is_input vs sources h)
      ∙ ap (λ s. is_parallel p.arrow && (s && not (length (terms_bits vs sources) == length (terms_bits vs terms)))) (sound is_output vs terms g)
      ∙ ap (λ n. is_parallel p.arrow && not (n == length (terms_bits vs terms))) (sym (count vs inputs sources e))
      ∙ ap (λ n. is_parallel p.arrow && not (length inputs == n)) (sym (count vs outputs terms f))

  pub sides-told : (inputs outputs : List ℕ) → flat_map (port_faults is_input vs) sources ≡ [] → flat_map (port_faults is_output vs) terms ≡ [] → bits_seen vs inputs ≡ terms_bits vs sources → bits_seen vs outputs ≡ terms_bits vs terms
      → (is_parallel p.arrow && not (length inputs == length outputs)) ≡ true → RefusesOneOf (end_faults vs p ++ side_faults vs p) (refused.Fault WidthMismatch p.place)
  sides-told inputs outputs h g e f differ =
      refused-right (end_faults vs p) (side_faults vs p) (refused.Fault WidthMismatch p.place) (fault-told (sides_differ vs p) WidthMismatch p.place (differing inputs outputs h g e f ∙ differ))
