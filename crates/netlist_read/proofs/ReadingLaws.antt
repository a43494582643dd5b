-- What is read has no fault, and is read in one way.
use Rattle.std.proofs.Common.{◌≡◌, ℕ, List, refl, sym, ◌∙◌, ap, arith, subst}
use Rattle.std.specs.List.{IsAmong}
use Rattle.std.specs.Prelude.{◌<◌, All, [], ◌∷◌, Option, Result, Ok, Err, length}
use Rattle.std.proofs.lemmas.List.Elements.{All-map}
use Rattle.grammar.proofs.Laws.{one_value}
use Rattle.sg_circuit.specs.Circuit.{Circuit, Element}
use Rattle.sg_delay.specs.declared.corners.Corner.{Corner}
use Rattle.sg_text.specs.declared.places.Place.{Place}
use Rattle.vl_lex.specs.Lexes.{Lexes}
use Rattle.vl_lex.specs.State as lexing
use Rattle.vl_lex.proofs.OneReading.{lexes_one}
use Rattle.vl_token.specs.Tokens.{Lexeme}
use Rattle.vl_tree.specs.Kinds.{kind_of}
use Rattle.vl_tree.specs.Modules.{source}
use Rattle.vl_tree.specs.Tree.{Module, Source}
use Rattle.vl_tree.proofs.ModulesExact.{source-exact}
use Rattle.circuit_model.specs.Circuits.{circuit}
use Rattle.circuit_model.specs.Elaboration.{in_list, IsElaborated}
use Rattle.circuit_model.specs.Faults.{faults, faults_below, top_faults}
use Rattle.elab_closed.proofs.Closed.{circuit-is_closed}
use Rattle.elab_laws.proofs.NoFaults.{back}
use Rattle.elab_model.specs.declared.kinds.ElabKind.{ElabKind}
use Rattle.elab_model.specs.Faults.{Fault}
use Rattle.elab_model.specs.HierarchyFaults.{two_definitions}
use Rattle.elab_model.specs.Tops.{top_of}
use Rattle.late_limits.specs.Adjusted.{late_element, IsAdjustedFrom}
use Rattle.late_limits.proofs.OneLaws.{adjusted-is-one}
use Rattle.netlist_read.specs.Kinds.{Kind}
use Rattle.netlist_read.specs.Reading.{AreTree, IsRead, FaultStands, in_text, in_syntax, in_meaning}

pub ok_not_err : {A E : Type 0} {x : A} {e : E} → ◌≡◌ {A = Result A E} (Ok x) (Err e) → ⊥
ok_not_err h = cc

pub ok_one : {A E : Type 0} {x y : A} → ◌≡◌ {A = Result A E} (Ok x) (Ok y) → x ≡ y
ok_one h = cc

-- files have one token list at most, and then no fault
pub tokens_once : (texts : List (List ℕ)) (s t : List Lexeme) → Lexes texts (Ok s) → Lexes texts (Ok t) → s ≡ t
tokens_once texts s t a b = ok_one (lexes_one texts (Ok s) (Ok t) a b)

pub tokens_or_fault : (texts : List (List ℕ)) (s : List Lexeme) (f : lexing.Fault) → Lexes texts (Ok s) → Lexes texts (Err f) → ⊥
tokens_or_fault texts s f a b = ok_not_err (lexes_one texts (Ok s) (Err f) a b)

-- and tokens one tree
tree_once : (s t : List Lexeme) (x y : Source) → s ≡ t → AreTree s x → AreTree t y → x ≡ y
tree_once s t x y e a b = one_value kind_of source source-exact t x y (subst (λ ts. AreTree ts x) e a) b

ok_top : {m n : Module} → ◌≡◌ {A = Result Module ElabKind} (Ok m) (Ok n) → m ≡ n
ok_top h = cc

-- a tree without a fault has none below its top
no_fault : (fs : List Fault) → ((f : Fault) → IsAmong fs f → ⊥) → fs ≡ []
no_fault [] h = refl
no_fault (f ∷ fs) h = absurd (h f (0, (omega arith, refl)))

none_below : (x : Source) (name : Option (List ℕ)) (corner : Corner) (c : Circuit) (e : IsElaborated x name corner c) → faults_below x e.top corner ≡ []
none_below x name corner c e =
    let all : faults x name corner ≡ [] = no_fault (faults x name corner) (λ f h. e.no_fault f.kind f.place (in_list h)) in
    sym (ap (top_faults x corner) e.is_top) ∙ back (two_definitions x) (top_faults x corner (top_of x name)) all

-- and a tree one circuit, since what a circuit is adjusted to is one
circuit_once : (x y : Source) (name : Option (List ℕ)) (corner : Corner) (c d : Circuit) → x ≡ y → IsElaborated x name corner c → IsElaborated y name corner d → c ≡ d
circuit_once x y name corner c d e a b = same y e b
  where
    same : (z : Source) → x ≡ z → IsElaborated z name corner d → c ≡ d
    same z e b =
        let g = subst (λ w. IsElaborated w name corner d) (sym e) b in
        let top : a.top ≡ g.top = ok_top (sym a.is_top ∙ g.is_top) in
        adjusted-is-one (circuit x a.top corner) c d (circuit-is_closed x a.top corner (none_below x name corner c a)) a.is_circuit
        (subst (λ m. IsAdjustedFrom (circuit x m corner) d) (sym top) g.is_circuit)

-- Two circuits that are read of one netlist are the same.
pub read-once : (texts : List (List ℕ)) (name : Option (List ℕ)) (corner : Corner) (c d : Circuit) → IsRead texts name corner c → IsRead texts name corner d → c ≡ d
read-once texts name corner c d a b =
    let tokens = tokens_once texts a.tokens b.tokens a.are_tokens b.are_tokens in
    let tree = tree_once a.tokens b.tokens a.tree b.tree tokens a.are_tree b.are_tree in
    circuit_once a.tree b.tree name corner c d tree a.is_elaborated b.is_elaborated

-- Where a circuit is read no fault stands.
pub read-is-faultless : (texts : List (List ℕ)) (name : Option (List ℕ)) (corner : Corner) (c : Circuit) → IsRead texts name corner c
    → (kind : Kind) (place : Place) → FaultStands texts name corner kind place → ⊥
read-is-faultless texts name corner c r kind place (in_text k p h) = tokens_or_fault texts r.tokens _ r.are_tokens h
read-is-faultless texts name corner c r kind place (in_syntax tokens e y k p h fails _ _ _) =
    let same = tokens_once texts r.tokens tokens r.are_tokens h in
    fails.none r.tree (subst (λ ts. AreTree ts r.tree) same r.are_tree)
read-is-faultless texts name corner c r kind place (in_meaning tokens tree k p h spelled fault) =
    let same = tree_once tokens r.tokens tree r.tree (tokens_once texts tokens r.tokens h r.are_tokens) spelled r.are_tree in
    let elaborated = subst (λ t. IsElaborated t name corner c) (sym same) r.is_elaborated in
    elaborated.no_fault k p fault

-- What is read has the scope of each of its elements.
adjusted-has-scopes : (c made : Circuit) → IsAdjustedFrom c made → All (λ e. e.scope < length c.scopes) c.elements → All (λ e. e.scope < length made.scopes) made.elements
adjusted-has-scopes c made a h =
    let Within : Element → Type 0 = λ e. e.scope < length c.scopes in
    subst (λ m. All (λ e. e.scope < length m.scopes) m.elements) (sym a.made_is) (All-map Within (late_element c a.delays) c.elements h)

pub read-has-scopes : (texts : List (List ℕ)) (name : Option (List ℕ)) (corner : Corner) (c : Circuit) → IsRead texts name corner c → All (λ e. e.scope < length c.scopes) c.elements
read-has-scopes texts name corner c r =
    let e = r.is_elaborated in
    adjusted-has-scopes (circuit r.tree e.top corner) c e.is_circuit (circuit-is_closed r.tree e.top corner (none_below r.tree name corner c e)).element_scopes
