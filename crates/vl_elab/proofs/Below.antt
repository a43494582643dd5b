-- The answers of elaboration: each refusal of a step stands, and without one no fault does.
use Rattle.std.specs.Prelude.{◌≡◌, ℕ, List, [], ◌++◌, Option, Result, Ok, Err, IfOk, IfErr, length}
use Rattle.std.specs.List.{IsAmong}
use Rattle.std.proofs.Common.{sym, ◌∙◌, ap, subst, inl, inr}
use Rattle.sg_circuit.specs.Circuit.{Circuit}
use Rattle.sg_delay.specs.declared.corners.Corner.{Corner}
use Rattle.sg_text.specs.declared.places.Place.{Place}
use Rattle.sg_text.specs.declared.refusals.Refused.{Refused}
use Rattle.sg_text.specs.declared.refusals.Refused.TheVariants as refused
use Rattle.vl_tree.specs.Tree.{Module, Source}
use Rattle.elab_model.specs.declared.kinds.ElabKind.{ElabKind}
use Rattle.elab_model.specs.declared.kinds.ElabKind.TheVariants.{TooMany}
use Rattle.elab_model.specs.Drivers.{elements}
use Rattle.circuit_model.specs.Elaboration.{FaultStands, in_list, in_table, IsElaborated, RefusalStands, Elaborates}
use Rattle.elab_model.specs.PrimitiveFaults.{primitives}
use Rattle.elab_model.specs.Faults.{Fault, fault, RefusesOneOf}
use Rattle.elab_model.specs.HierarchyFaults.{start, two_definitions}
use Rattle.circuit_model.specs.CheckUses.{check_uses}
use Rattle.circuit_model.specs.Faults.{path_faults, path_count, check_faults, over, driver_faults, faults_below, top_faults, faults}
use Rattle.elab_model.specs.Nets.{nets}
use Rattle.elab_model.specs.Tops.{top_of}
use Rattle.elab_numbering.specs.Refusals.{RefusesCount}
use Rattle.elab_laws.proofs.Lists.{In, in-either, in-left, in-right}
use Rattle.elab_hierarchy.specs.Placing.{tree_faults}
use Rattle.elab_hierarchy.specs.Tops.{RefusesTop}
use Rattle.elab_checks.specs.Reached.{RefusesReached}
use Rattle.vl_elab.specs.Below.{IsBelow, RefusesBelow}
use Rattle.vl_elab.proofs.Among.{among-in, in-among}
use Rattle.vl_elab.proofs.Standing.{of-tree, of-reached, of-paths, of-checks, of-nets, of-elements, of-many_paths, of-many_checks, of-drivers}

-- ---- below a top

pub tree-refused : (source : Source) (top : Module) (corner : Corner) (r : Refused ElabKind) → RefusesOneOf (tree_faults source top) r → RefusesBelow source top corner r
tree-refused source top corner (refused.Fault k p) h = inl (of-tree source top corner (fault k p) h)
tree-refused source top corner refused.NoMemory h = tt

pub reached-refused : (source : Source) (top : Module) (corner : Corner) (r : Refused ElabKind) → RefusesReached source corner top r → RefusesBelow source top corner r
reached-refused source top corner (refused.Fault k p) (inl h) = inl (of-reached source top corner (fault k p) h)
reached-refused source top corner (refused.Fault k p) (inr h) = inr h
reached-refused source top corner refused.NoMemory h = tt

-- too many of something
told : (source : Source) (top : Module) (corner : Corner) (k : ElabKind) (p : Place) → k ≡ TooMany → p ≡ start
    → IsAmong (faults_below source top corner) (fault TooMany start) → RefusesBelow source top corner (refused.Fault k p)
told source top corner k p e f h = inl (subst (λ k. IsAmong (faults_below source top corner) (fault k p)) (sym e) (subst (λ p. IsAmong (faults_below source top corner) (fault TooMany p)) (sym f) h))

pub nets-refused : (source : Source) (top : Module) (corner : Corner) (r : Refused ElabKind) → RefusesCount (length (nets source top)) r → RefusesBelow source top corner r
nets-refused source top corner (refused.Fault k p) (e, f, lt) = told source top corner k p e f (of-nets source top corner lt)
nets-refused source top corner refused.NoMemory h = tt

pub elements-refused : (source : Source) (top : Module) (corner : Corner) (r : Refused ElabKind) → RefusesCount (length (elements source top corner)) r → RefusesBelow source top corner r
elements-refused source top corner (refused.Fault k p) (e, f, lt) = told source top corner k p e f (of-elements source top corner lt)
elements-refused source top corner refused.NoMemory h = tt

pub drivers-refused : (source : Source) (top : Module) (corner : Corner) (r : Refused ElabKind) → RefusesOneOf (driver_faults source top corner) r → RefusesBelow source top corner r
drivers-refused source top corner (refused.Fault k p) h = inl (of-drivers source top corner (fault k p) h)
drivers-refused source top corner refused.NoMemory h = tt

pub paths-refused : (source : Source) (top : Module) (corner : Corner) (r : Refused ElabKind) → RefusesOneOf (path_faults source top corner) r → RefusesBelow source top corner r
paths-refused source top corner (refused.Fault k p) h = inl (of-paths source top corner (fault k p) h)
paths-refused source top corner refused.NoMemory h = tt

pub many_paths-refused : (source : Source) (top : Module) (corner : Corner) (r : Refused ElabKind) → RefusesCount (path_count source top corner) r → RefusesBelow source top corner r
many_paths-refused source top corner (refused.Fault k p) (e, f, lt) = told source top corner k p e f (of-many_paths source top corner lt)
many_paths-refused source top corner refused.NoMemory h = tt

pub checks-refused : (source : Source) (top : Module) (corner : Corner) (r : Refused ElabKind)
    → RefusesOneOf (check_faults source top corner ++ over (length (check_uses source top corner))) r → RefusesBelow source top corner r
checks-refused source top corner (refused.Fault k p) h =
    let own = check_faults source top corner in
    let many = over (length (check_uses source top corner)) in
    elim (in-either (fault k p) own many (among-in (own ++ many) (fault k p) h)) [
      | inl g ↦ inl (of-checks source top corner (fault k p) (in-among own (fault k p) g))
      | inr g ↦ inl (of-many_checks source top corner (fault k p) (in-among many (fault k p) g))
    ]
checks-refused source top corner refused.NoMemory h = tt

-- ---- of a netlist

in-faults : (source : Source) (name : Option (List ℕ)) (corner : Corner) (f : Fault) → In f (faults source name corner) → FaultStands source name corner f.kind f.place
in-faults source name corner f h = in_list (in-among (faults source name corner) f h)

pub definitions-refused : (source : Source) (name : Option (List ℕ)) (corner : Corner) (r : Refused ElabKind) → RefusesOneOf (two_definitions source) r → RefusalStands source name corner r
definitions-refused source name corner (refused.Fault k p) h =
    in-faults source name corner (fault k p) (in-left (fault k p) (two_definitions source) (top_faults source corner (top_of source name)) (among-in (two_definitions source) (fault k p) h))
definitions-refused source name corner refused.NoMemory h = tt

pub top-refused : (source : Source) (name : Option (List ℕ)) (corner : Corner) (r : Refused ElabKind) → RefusesTop source name r → RefusalStands source name corner r
top-refused source name corner (refused.Fault k p) (e, f) =
    in-faults source name corner (fault k p)
    (in-right (fault k p) (two_definitions source) (top_faults source corner (top_of source name))
    (subst (λ t. In (fault k p) (top_faults source corner t)) (sym e) (inl (ap (λ p. fault k p) f))))
top-refused source name corner refused.NoMemory h = tt

pub below-refused : (source : Source) (name : Option (List ℕ)) (corner : Corner) (top : Module) (r : Refused ElabKind) → top_of source name ≡ Ok top
    → RefusesBelow source top corner r → RefusalStands source name corner r
below-refused source name corner top (refused.Fault k p) e (inl h) =
    in-faults source name corner (fault k p)
    (in-right (fault k p) (two_definitions source) (top_faults source corner (top_of source name))
    (subst (λ t. In (fault k p) (top_faults source corner t)) (sym e) (among-in (faults_below source top corner) (fault k p) h)))
below-refused source name corner top (refused.Fault k p) e (inr h) =
    subst (λ k. FaultStands source name corner k p) (sym h.stands.named)
    (in_table (subst (λ t. IsAmong (primitives source t) h.primitive) (sym e) h.there) h.stands.stands)
below-refused source name corner top refused.NoMemory e h = tt

-- without faults
none-in : {A : Type 0} (x : A) (xs : List A) → xs ≡ [] → In x xs → ⊥
none-in x xs e h = subst (In x) e h

pub elaborated : (source : Source) (name : Option (List ℕ)) (corner : Corner) (top : Module) (made : Circuit) → two_definitions source ≡ [] → top_of source name ≡ Ok top
    → IsBelow source top corner made → IsElaborated source name corner made
elaborated source name corner top made twice e below = record {
  top = top;
  is_top = e;
  no_fault = λ k p stands. none stands;
  is_circuit = below.is_circuit;
}
  where
    empty : faults source name corner ≡ []
    empty = ap (λ xs. xs ++ top_faults source corner (top_of source name)) twice ∙ ap (top_faults source corner) e ∙ below.faultless

    none : {k : ElabKind} {p : Place} → FaultStands source name corner k p → ⊥
    none (in_list {f} h) = none-in f (faults source name corner) empty (among-in (faults source name corner) f h)
    none (in_table {p} {kind} {place} h t) = below.tables p kind place (subst (λ t. IsAmong (primitives source t) p) e h) t

-- an error that is passed on
pub leaves : {A : Type 0} (P : Refused ElabKind → Type 0) (result : Result A (Refused ElabKind)) (e : Refused ElabKind) → ((x : Refused ElabKind) × (result ≡ Err x) × (x ≡ e)) → P e → IfErr result P
leaves P result e (x, r, s) h = rw r (subst P (sym s) h)

-- the same where that is all that elaboration answers
pub refuses : (source : Source) (name : Option (List ℕ)) (corner : Corner) (result : Result Circuit (Refused ElabKind)) (e : Refused ElabKind)
    → ((x : Refused ElabKind) × (result ≡ Err x) × (x ≡ e)) → RefusalStands source name corner e → Elaborates source name corner result
refuses source name corner result e (x, r, s) h = rw r (subst (RefusalStands source name corner) (sym s) h)

-- the answer below the top is that of elaboration
pub elaborates : (source : Source) (name : Option (List ℕ)) (corner : Corner) (top : Module) (result : Result Circuit (Refused ElabKind)) → two_definitions source ≡ [] → top_of source name ≡ Ok top
    → IfOk result (λ made. IsBelow source top corner made) → IfErr result (λ r. RefusesBelow source top corner r) → Elaborates source name corner result
elaborates source name corner top (Ok made) twice e below refused = elaborated source name corner top made twice e below
elaborates source name corner top (Err r) twice e below refused = below-refused source name corner top r e refused
