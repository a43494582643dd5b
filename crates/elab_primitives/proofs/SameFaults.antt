-- Names that the code has are those of the definition, and so are their faults.
use Rattle.std.specs.Prelude.{◌≡◌, List, [], ◌∷◌, ◌++◌, Bool, not, None, Some, find, map, length, ◌==◌, refl}
use Rattle.std.specs.List.{IsAmong}
use Rattle.std.proofs.Common.{sym, ◌∙◌, ap, take, drop, arith}
use Rattle.std.proofs.lemmas.List.{take-map, drop-map}
use Rattle.vl_tree.specs.declared.names.Name as name
use Rattle.vl_tree.specs.Seen.{view_name}
use Rattle.vl_tree.specs.Tree.{Named, Primitive}
use Rattle.elab_model.specs.declared.kinds.ElabKind.{ElabKind}
use Rattle.elab_model.specs.declared.kinds.ElabKind.TheVariants.{BadTerminal}
use Rattle.elab_model.specs.Faults.{Fault, fault, duplicates, missing}
use Rattle.elab_model.specs.Hierarchy.{is_empty}
use Rattle.elab_model.specs.Primitives.{outputs, inputs, regs, is_sequential}
use Rattle.elab_model.specs.PrimitiveFaults.{wrong_directions, wrong_regs, is_in, initial_names}
use Rattle.elab_declared.proofs.Refusals.{none-found, some-found}

pub none-in_both : (fs gs : List Fault) → fs ≡ [] → gs ≡ [] → fs ++ gs ≡ []
none-in_both fs gs e h = ap (λ xs. xs ++ gs) e ∙ h

-- ---- the same names

pub once-none : (ns ms : List Named) → ns ≡ ms → duplicates ns ≡ [] → duplicates ms ≡ []
once-none ns ms e h = ap duplicates (sym e) ∙ h

pub missing-none : (k : ElabKind) (ns ms os ps : List Named) → ns ≡ ms → os ≡ ps → missing k ns os ≡ [] → missing k ms ps ≡ []
missing-none k ns ms os ps e f h = ap (λ xs. missing k xs ps) (sym e) ∙ ap (λ xs. missing k ns xs) (sym f) ∙ h

-- ---- the first port and the others

pub first-cut : (fs ms ns : List name.Name) → fs ≡ take 1 ms → ms ≡ ns → map view_name fs ≡ take 1 (map view_name ns)
first-cut fs ms ns e f = ap (map view_name) (e ∙ ap (take 1) f) ∙ sym (take-map view_name 1 ns)

pub others-cut : (gs ms ns : List name.Name) → gs ≡ drop 1 ms → ms ≡ ns → map view_name gs ≡ drop 1 (map view_name ns)
others-cut gs ms ns e f = ap (map view_name) (e ∙ ap (drop 1) f) ∙ sym (drop-map view_name 1 ns)

pub directions-cut : (p : Primitive) (ns : List Named) → wrong_directions p ns ≡ missing BadTerminal (take 1 ns) (outputs p) ++ missing BadTerminal (drop 1 ns) (inputs p)
directions-cut p [] = refl
directions-cut p (n ∷ ns) = refl

pub regs-none : (p : Primitive) (ns ms : List Named) → ms ≡ regs p ++ initial_names p.initial → find (is_in (drop 1 ns)) ms ≡ None → wrong_regs p ns ≡ []
regs-none p [] ms e h = refl
regs-none p (n ∷ ns) ms e h = none-found BadTerminal (λ n. n.place) (is_in ns) (regs p ++ initial_names p.initial) (ap (find (is_in ns)) (sym e) ∙ h)

none-in_nothing : (ms : List Named) (m : Named) → find (is_in []) ms ≡ Some m → ⊥
none-in_nothing [] m h = cc
none-in_nothing (n ∷ ms) m h = none-in_nothing ms m h

pub regs-some : (p : Primitive) (ns ms : List Named) (m : Named) → ms ≡ regs p ++ initial_names p.initial → find (is_in (drop 1 ns)) ms ≡ Some m → IsAmong (wrong_regs p ns) (fault BadTerminal m.place)
regs-some p [] ms m e h = absurd (none-in_nothing ms m h)
regs-some p (n ∷ ns) ms m e h = some-found BadTerminal (λ n. n.place) (is_in ns) (regs p ++ initial_names p.initial) m (ap (find (is_in ns)) (sym e) ∙ h)

-- a primitive is sequential where the code's list of regs isn't empty
pub sequential-is : (ns : List name.Name) (p : Primitive) (b : Bool) → map view_name ns ≡ regs p → b ≡ (length ns == 0) → not b ≡ is_sequential p
sequential-is ns p b e h = ap not h ∙ by ns ∙ ap (λ ms. not (is_empty ms)) e
  where
    by : (ns : List name.Name) → not (length ns == 0) ≡ not (is_empty (map view_name ns))
    by [] = refl
    by (n ∷ ns) = grind arith
