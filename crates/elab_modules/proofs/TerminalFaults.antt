-- What is wrong with terminals, of which the first are outputs: looked for at the outputs, then at the inputs.
use Rattle.std.specs.Prelude.{◌≡◌, ℕ, List, [], ◌∷◌, ◌++◌, Bool, true, false, ◌&&◌, not, ◌==◌, Option, Some, None, Result, map, flat_map, filter_map, option_map, length, take, drop, refl}
use Rattle.std.specs.List.{list_any, take-map}
use Rattle.std.proofs.Common.{sym, ◌∙◌, ap, subst, inl, inr}
use Rattle.std.proofs.lemmas.Grind.{flat_map-append}
use Rattle.std.proofs.lemmas.List.{append-nil, map-append, length-map, take-append-drop}
use Rattle.std.proofs.lemmas.List.Folds.{flat_map-map}
use Rattle.sg_logic.specs.declared.gates.GateKind.{GateKind}
use Rattle.sg_text.specs.declared.places.Place.{Place}
use Rattle.sg_text.specs.declared.refusals.Refused.{Refused}
use Rattle.sg_text.specs.declared.refusals.Refused.TheVariants as refused
use Rattle.vl_tree.specs.declared.expressions.Expression as code
use Rattle.vl_tree.specs.declared.items.GateInstance as code_gate
use Rattle.vl_tree.specs.Seen.{view_expression, view_gate_instance}
use Rattle.vl_tree.specs.Tree.{Expression, NamedConnection, Instance, by_name}
use Rattle.elab_model.specs.declared.kinds.ElabKind.{ElabKind}
use Rattle.elab_model.specs.declared.kinds.ElabKind.TheVariants.{BadTerminal}
use Rattle.elab_model.specs.Elements.{output_count}
use Rattle.elab_model.specs.Faults.{Fault, fault_if, RefusesOneOf}
use Rattle.elab_model.specs.Members.{connection_values}
use Rattle.elab_model.specs.ModuleFaults.{takes_terminals}
use Rattle.elab_model.specs.Names.{Variable}
use Rattle.elab_model.specs.TerminalFaults.{expression_faults, width_faults, constant_faults, terminal_faults, is_missing}
use Rattle.elab_laws.proofs.Lists.{in-left, in-right, in-either}
use Rattle.elab_declared.proofs.Refusals.{refused-left, refused-right}
use Rattle.elab_modules.specs.Telling.{Tells, joined_faults, joined_value_faults}
use Rattle.elab_modules.specs.Connecting.{gate_faults, are_given, fits_ports, given_faults, terminal_list_faults, primitive_terminal_faults}
use Rattle.elab_modules.proofs.InTurn.{fault-told, no-fault}
use Rattle.elab_modules.proofs.SameFaults.{Same, same-as, same-then, same-beside, same-parted, tells-same}

-- ---- outputs and inputs

mixed : (a b c d e : List Fault) → Same ((a ++ (b ++ c)) ++ (d ++ e)) ((a ++ d) ++ ((b ++ e) ++ c))
mixed a b c d e = record {
  onto = λ x h.
      elim (in-either x (a ++ (b ++ c)) (d ++ e) h) [
        | inl p ↦ elim (in-either x a (b ++ c) p) [
          | inl q ↦ in-left x (a ++ d) ((b ++ e) ++ c) (in-left x a d q)
          | inr q ↦ in-right x (a ++ d) ((b ++ e) ++ c) (elim (in-either x b c q) [ inl r ↦ in-left x (b ++ e) c (in-left x b e r) | inr r ↦ in-right x (b ++ e) c r ])
        ]
        | inr p ↦ elim (in-either x d e p) [
          | inl q ↦ in-left x (a ++ d) ((b ++ e) ++ c) (in-right x a d q)
          | inr q ↦ in-right x (a ++ d) ((b ++ e) ++ c) (in-left x (b ++ e) c (in-right x b e q))
        ]
      ];
  back = λ x h.
      elim (in-either x (a ++ d) ((b ++ e) ++ c) h) [
        | inl p ↦ elim (in-either x a d p) [
          | inl q ↦ in-left x (a ++ (b ++ c)) (d ++ e) (in-left x a (b ++ c) q)
          | inr q ↦ in-right x (a ++ (b ++ c)) (d ++ e) (in-left x d e q)
        ]
        | inr p ↦ elim (in-either x (b ++ e) c p) [
          | inl q ↦ elim (in-either x b e q) [
            | inl r ↦ in-left x (a ++ (b ++ c)) (d ++ e) (in-right x a (b ++ c) (in-left x b c r))
            | inr r ↦ in-right x (a ++ (b ++ c)) (d ++ e) (in-right x d e r)
          ]
          | inr q ↦ in-left x (a ++ (b ++ c)) (d ++ e) (in-right x a (b ++ c) (in-right x b c q))
        ]
      ];
}

outputs-same : (vs : List Variable) (os : List Expression)
    → Same (flat_map (joined_faults vs 1 true) os) (flat_map (expression_faults vs) os ++ (flat_map (width_faults vs 1) os ++ flat_map (constant_faults vs) os))
outputs-same vs os =
    let rest = λ (e : Expression). width_faults vs 1 e ++ constant_faults vs e in
    same-then _ (flat_map (expression_faults vs) os ++ flat_map rest os) _ (same-parted (expression_faults vs) rest os)
    (same-beside (flat_map (expression_faults vs) os) (flat_map (expression_faults vs) os) (flat_map rest os) (flat_map (width_faults vs 1) os ++ flat_map (constant_faults vs) os)
    (same-as (flat_map (expression_faults vs) os) (flat_map (expression_faults vs) os) refl) (same-parted (width_faults vs 1) (constant_faults vs) os))

inputs-same : (vs : List Variable) (is : List Expression) → Same (flat_map (joined_faults vs 1 false) is) (flat_map (expression_faults vs) is ++ flat_map (width_faults vs 1) is)
inputs-same vs is =
    let rest = λ (e : Expression). width_faults vs 1 e ++ [] in
    same-then _ (flat_map (expression_faults vs) is ++ flat_map rest is) _ (same-parted (expression_faults vs) rest is)
    (same-as (flat_map (expression_faults vs) is ++ flat_map rest is) (flat_map (expression_faults vs) is ++ flat_map (width_faults vs 1) is)
    (ap (λ fs. flat_map (expression_faults vs) is ++ fs) (none-more is)))
  where
    none-more : (is : List Expression) → flat_map (λ (e : Expression). width_faults vs 1 e ++ []) is ≡ flat_map (width_faults vs 1) is
    none-more [] = refl
    none-more (e ∷ is) = ap (λ fs. fs ++ flat_map (λ (e : Expression). width_faults vs 1 e ++ []) is) (append-nil (width_faults vs 1 e)) ∙ ap (λ fs. width_faults vs 1 e ++ fs) (none-more is)

-- of outputs and inputs one after another
pub terminals-same : (vs : List Variable) (os is : List Expression)
    → Same (flat_map (joined_faults vs 1 true) os ++ flat_map (joined_faults vs 1 false) is)
    (flat_map (expression_faults vs) (os ++ is) ++ (flat_map (width_faults vs 1) (os ++ is) ++ flat_map (constant_faults vs) os))
terminals-same vs os is =
    let e = flat_map (expression_faults vs) in
    let w = flat_map (width_faults vs 1) in
    let c = flat_map (constant_faults vs) in
    same-then _ ((e os ++ (w os ++ c os)) ++ (e is ++ w is)) _
    (same-beside (flat_map (joined_faults vs 1 true) os) (e os ++ (w os ++ c os)) (flat_map (joined_faults vs 1 false) is) (e is ++ w is) (outputs-same vs os) (inputs-same vs is))
    (same-then _ ((e os ++ e is) ++ ((w os ++ w is) ++ c os)) _ (mixed (e os) (w os) (c os) (e is) (w is))
    (same-as ((e os ++ e is) ++ ((w os ++ w is) ++ c os)) (e (os ++ is) ++ (w (os ++ is) ++ c os))
    (ap (λ fs. fs ++ ((w os ++ w is) ++ c os)) (sym (flat_map-append (expression_faults vs) os is)) ∙ ap (λ fs. e (os ++ is) ++ (fs ++ c os)) (sym (flat_map-append (width_faults vs 1) os is)))))

-- ---- gates

abbrev gate_terminals : List Variable → Bool → List code.Expression → List Fault
gate_terminals vs out es = flat_map (λ e. joined_faults vs 1 out (view_expression e)) es

pub gate-tells : {A : Type 0} (vs : List Variable) (g : GateKind) (i : code_gate.GateInstance) (n : ℕ) (os is : List code.Expression) (result : Result A (Refused ElabKind))
    → takes_terminals g (length (map view_expression i.terminals.items)) ≡ true → take n (map view_expression i.terminals.items) ≡ map view_expression os
    → map view_expression os ++ map view_expression is ≡ map view_expression i.terminals.items
    → n ≡ output_count g (length (map view_expression i.terminals.items)) → Tells (gate_terminals vs true os ++ gate_terminals vs false is) result
    → Tells (gate_faults vs g (view_gate_instance i)) result
gate-tells vs g i n os is result many front whole count h =
    let ts = map view_expression i.terminals.items in
    let vos = map view_expression os in
    let vis = map view_expression is in
    let begun : flat_map (joined_faults vs 1 true) vos ++ flat_map (joined_faults vs 1 false) vis ≡ gate_terminals vs true os ++ gate_terminals vs false is =
    ap (λ fs. fs ++ flat_map (joined_faults vs 1 false) vis) (flat_map-map (joined_faults vs 1 true) view_expression os)
    ∙ ap (λ fs. gate_terminals vs true os ++ fs) (flat_map-map (joined_faults vs 1 false) view_expression is) in
    let ended : flat_map (expression_faults vs) (vos ++ vis) ++ (flat_map (width_faults vs 1) (vos ++ vis) ++ flat_map (constant_faults vs) vos) ≡ gate_faults vs g (view_gate_instance i) =
    ap (λ es. flat_map (expression_faults vs) es ++ (flat_map (width_faults vs 1) es ++ flat_map (constant_faults vs) vos)) whole
    ∙ ap (λ es. flat_map (expression_faults vs) ts ++ (flat_map (width_faults vs 1) ts ++ flat_map (constant_faults vs) es)) (sym front ∙ ap (λ k. take k ts) count)
    ∙ ap (λ fs. flat_map (expression_faults vs) ts ++ (fs ++ terminal_faults vs (output_count g (length ts)) ts)) (sym (no-fault (not (takes_terminals g (length ts))) BadTerminal i.place (ap not many))) in
    tells-same (gate_terminals vs true os ++ gate_terminals vs false is) (gate_faults vs g (view_gate_instance i)) result
    (same-then _ (flat_map (joined_faults vs 1 true) vos ++ flat_map (joined_faults vs 1 false) vis) _ (same-as _ _ (sym begun))
    (same-then _ (flat_map (expression_faults vs) (vos ++ vis) ++ (flat_map (width_faults vs 1) (vos ++ vis) ++ flat_map (constant_faults vs) vos)) _ (terminals-same vs vos vis)
    (same-as _ _ ended))) h

gate-miscounted : (vs : List Variable) (g : GateKind) (i : code_gate.GateInstance) → takes_terminals g (length (map view_expression i.terminals.items)) ≡ false
    → RefusesOneOf (gate_faults vs g (view_gate_instance i)) (refused.Fault BadTerminal i.place)
gate-miscounted vs g i few =
    let ts = map view_expression i.terminals.items in
    let f = fault_if (not (takes_terminals g (length ts))) BadTerminal i.place in
    refused-right (flat_map (expression_faults vs) ts) (f ++ terminal_faults vs (output_count g (length ts)) ts) (refused.Fault BadTerminal i.place)
    (refused-left f (terminal_faults vs (output_count g (length ts)) ts) (refused.Fault BadTerminal i.place) (fault-told (not (takes_terminals g (length ts))) BadTerminal i.place (ap not few)))

-- ---- primitives

-- what is given of values
abbrev given : List (Option Expression) → List Expression
given es = filter_map (λ e. e) es

inputs-given : (vs : List Variable) (is : List (Option Expression)) → flat_map (joined_value_faults vs 1 false) is ≡ flat_map (joined_faults vs 1 false) (given is)
inputs-given vs [] = refl
inputs-given vs (None ∷ is) = inputs-given vs is
inputs-given vs (Some e ∷ is) = ap (λ fs. joined_faults vs 1 false e ++ fs) (inputs-given vs is)

given-same : (vs : List Variable) (es : List (Option Expression)) → list_any is_missing es ≡ false
    → Same (given_faults vs es) (flat_map (expression_faults vs) (given es) ++ terminal_faults vs 1 (given es))
given-same vs [] h = same-as [] [] refl
given-same vs (None ∷ is) h = cc
given-same vs (Some e ∷ is) h =
    let os = e ∷ [] in
    let begun : given_faults vs (Some e ∷ is) ≡ flat_map (joined_faults vs 1 true) os ++ flat_map (joined_faults vs 1 false) (given is) =
    ap (λ fs. joined_faults vs 1 true e ++ fs) (inputs-given vs is) ∙ ap (λ fs. fs ++ flat_map (joined_faults vs 1 false) (given is)) (sym (append-nil (joined_faults vs 1 true e))) in
    same-then _ (flat_map (joined_faults vs 1 true) os ++ flat_map (joined_faults vs 1 false) (given is)) _ (same-as _ _ begun) (terminals-same vs os (given is))

all-given : (count : ℕ) (es : List (Option Expression)) → are_given count es ≡ true → list_any is_missing es ≡ false
all-given count es h = by (list_any is_missing es) h
  where
    by : (b : Bool) → (not b && (length es == count)) ≡ true → b ≡ false
    by false h = refl
    by true h = cc

pub given-tells : {A : Type 0} (vs : List Variable) (count : ℕ) (p : Place) (es : List (Option Expression)) (result : Result A (Refused ElabKind)) → are_given count es ≡ true
    → Tells (given_faults vs es) result → Tells (terminal_list_faults vs count p es) result
given-tells vs count p es result g h =
    let ended : flat_map (expression_faults vs) (given es) ++ terminal_faults vs 1 (given es) ≡ terminal_list_faults vs count p es =
    ap (λ fs. flat_map (expression_faults vs) (given es) ++ (fs ++ terminal_faults vs 1 (given es))) (sym (no-fault (not (are_given count es)) BadTerminal p (ap not g))) in
    tells-same (given_faults vs es) (terminal_list_faults vs count p es) result
    (same-then _ (flat_map (expression_faults vs) (given es) ++ terminal_faults vs 1 (given es)) _ (given-same vs es (all-given count es g)) (same-as _ _ ended)) h

pub not-given : (vs : List Variable) (count : ℕ) (p : Place) (es : List (Option Expression)) → are_given count es ≡ false
    → RefusesOneOf (terminal_list_faults vs count p es) (refused.Fault BadTerminal p)
not-given vs count p es g =
    let f = fault_if (not (are_given count es)) BadTerminal p in
    refused-right (flat_map (expression_faults vs) (given es)) (f ++ terminal_faults vs 1 (given es)) (refused.Fault BadTerminal p)
    (refused-left f (terminal_faults vs 1 (given es)) (refused.Fault BadTerminal p) (fault-told (not (are_given count es)) BadTerminal p (ap not g)))

-- ---- what the code cuts and counts

counted : (g : GateKind) (ts : List code.Expression) (n : ℕ) (b : Bool) → n ≡ length ts → takes_terminals g n ≡ b → takes_terminals g (length (map view_expression ts)) ≡ b
counted g ts n b e h = ap (takes_terminals g) (length-map ts view_expression ∙ sym e) ∙ h

pub count-refused : (vs : List Variable) (g : GateKind) (i : code_gate.GateInstance) (n : ℕ) → n ≡ length i.terminals.items → takes_terminals g n ≡ false
    → RefusesOneOf (gate_faults vs g (view_gate_instance i)) (refused.Fault BadTerminal i.place)
count-refused vs g i n e h = gate-miscounted vs g i (counted g i.terminals.items n false e h)

pub cut-tells : {A : Type 0} (vs : List Variable) (g : GateKind) (i : code_gate.GateInstance) (k n : ℕ) (es os is : List code.Expression) (result : Result A (Refused ElabKind))
    → es ≡ i.terminals.items → n ≡ length i.terminals.items → takes_terminals g n ≡ true → k ≡ output_count g n → os ≡ take k es → is ≡ drop k es
    → Tells (gate_terminals vs true os ++ gate_terminals vs false is) result → Tells (gate_faults vs g (view_gate_instance i)) result
cut-tells vs g i k n es os is result same len takes count front back h =
    let ts = i.terminals.items in
    let taken : take k (map view_expression ts) ≡ map view_expression os = take-map view_expression k ts ∙ ap (λ xs. map view_expression (take k xs)) (sym same)
    ∙ ap (map view_expression) (sym front) in
    let whole : map view_expression os ++ map view_expression is ≡ map view_expression ts =
    sym (map-append view_expression os is) ∙ ap (map view_expression) (ap (λ xs. xs ++ is) front ∙ ap (λ xs. take k es ++ xs) back ∙ take-append-drop k es ∙ same) in
    gate-tells vs g i k os is result (counted g ts n true len takes) taken whole (count ∙ ap (output_count g) (len ∙ sym (length-map ts view_expression))) h

-- ---- connections by name

pub named-refused : (vs : List Variable) (count : ℕ) (i : Instance) (cs : List NamedConnection) → i.connections ≡ by_name cs
    → RefusesOneOf (primitive_terminal_faults vs count i) (refused.Fault BadTerminal i.place)
named-refused vs count i cs e =
    let f = fault_if (not (fits_ports count i.connections)) BadTerminal i.place in
    let rest = terminal_faults vs 1 (connection_values i.connections) in
    refused-right (flat_map (expression_faults vs) (connection_values i.connections)) (f ++ rest) (refused.Fault BadTerminal i.place)
    (refused-left f rest (refused.Fault BadTerminal i.place) (fault-told (not (fits_ports count i.connections)) BadTerminal i.place (ap (λ x. not (fits_ports count x)) e)))

-- an output and inputs, as the code has them
pub output-told : {A : Type 0} (vs : List Variable) (values : List (Option code.Expression)) (o : Option code.Expression) (is : List (Option code.Expression)) (result : Result A (Refused ElabKind))
    → values ≡ o ∷ is
    → Tells (joined_value_faults vs 1 true (option_map view_expression o) ++ flat_map (λ v. joined_value_faults vs 1 false (option_map view_expression v)) is) result
    → Tells (given_faults vs (map (option_map view_expression) values)) result
output-told vs values o is result e h =
    let all : joined_value_faults vs 1 true (option_map view_expression o) ++ flat_map (λ v. joined_value_faults vs 1 false (option_map view_expression v)) is
    ≡ given_faults vs (map (option_map view_expression) values) =
    ap (λ fs. joined_value_faults vs 1 true (option_map view_expression o) ++ fs) (sym (flat_map-map (joined_value_faults vs 1 false) (option_map view_expression) is))
    ∙ ap (λ xs. given_faults vs (map (option_map view_expression) xs)) (sym e) in
    subst (λ fs. Tells fs result) all h
