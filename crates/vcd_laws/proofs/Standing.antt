-- No fault stands in a dump whose sections and items have none.
use Rattle.std.specs.Prelude.{◌≡◌, ℕ, suc, ◌+◌, ◌<◌, ◌≤◌, not, Bool, true, false, if◌then◌else◌, List, [], ◌∷◌, ◌++◌, length, map, flat_map, Option, Some, None, refl}
use Rattle.std.specs.List.{AllByRecursion, IsAmong}
use Rattle.std.proofs.Common.{sym, ◌∙◌, ap, subst, arith}
use Rattle.std.proofs.lemmas.Bool.{not_from_true}
use Rattle.std.proofs.lemmas.List.{append-nil, append_assoc, length-append}
use Rattle.std.proofs.lemmas.List.Concat.{flat_map-append}
use Rattle.sg_circuit.specs.Circuit.{Circuit, Variable}
use Rattle.vcd_form.specs.Rules.{dump}
use Rattle.vcd_form.specs.Words.{words}
use Rattle.vcd_form.specs.Written.{Declaration, Front, Item, Section}
use Rattle.stim_read.specs.Inputs.{is_input}
use Rattle.vcd_model.specs.declared.kinds.VcdKind.TheVariants.{NoScope}
use Rattle.vcd_model.specs.Faults.{Fault, body_faults, fault_if, front_faults, header_of, item_faults, variable_faults, width_faults}
use Rattle.vcd_model.specs.Inputs.{has_scope, input_of, nets_at, own}
use Rattle.vcd_model.specs.Reading.{FaultStands, most_bytes, too_long, of_form, of_front}
use Rattle.vcd_model.specs.Values.{timed}
use Rattle.vcd_laws.proofs.Entries.{declared_as}
use Rattle.vcd_laws.proofs.Faultless.{CleanAll, clean_faults, clean_front}
use Rattle.vcd_laws.proofs.Fronts.{AreExact, FrontIs, IsWhole, front_is, in_body, in_header}
use Rattle.vcd_laws.proofs.Header.{declared_one, own-append, own_from, own_is, stack_after}
use Rattle.vcd_laws.proofs.Items.{numbered}
use Rattle.vcd_laws.proofs.Own.{AreOwn, HasInputs, input_is, nets_are, tops, unplaced_declaration}

-- ---- variables

-- a declaration has no fault, wherever it stands
abbrev IsFine : Circuit → Declaration → Type 0
IsFine circuit d = variable_faults (unplaced_declaration d) (input_of circuit d) ≡ []

fine_moved : (circuit : Circuit) (d : Declaration) → IsFine circuit d → variable_faults d (input_of circuit d) ≡ []
fine_moved circuit d h = at (input_of circuit d) h
  where
    some : (o : Option (List ℕ)) → width_faults 0 o ≡ [] → width_faults d.byte o ≡ []
    some None e = absurd (let q : 1 ≡ 0 = ap length e in omega arith)
    some (Some nets) e = refl

    at : (o : Option Variable) → variable_faults (unplaced_declaration d) o ≡ [] → variable_faults d o ≡ []
    at None e = refl
    at (Some v) e = some (nets_at d v) e

all_fine : (circuit : Circuit) → HasInputs circuit → (before vs : List Variable) → tops circuit ≡ before ++ vs → AllByRecursion (IsFine circuit) (numbered declared_one (length before) vs)
all_fine circuit has before [] e = tt
all_fine circuit has before (v ∷ vs) e =
    let more : length (before ++ v ∷ []) ≡ suc (length before) = longer before v in (
      ap (variable_faults (declared_as (length before) v)) (input_is circuit has before vs v (length before) e) ∙ at before,
      subst (λ n. AllByRecursion (IsFine circuit) (numbered declared_one n vs)) more (all_fine circuit has (before ++ v ∷ []) vs (e ∙ sym (append_assoc before (v ∷ []) vs))),
    )
  where
    longer : (xs : List Variable) (x : Variable) → length (xs ++ x ∷ []) ≡ suc (length xs)
    longer xs x = (let q : length (xs ++ x ∷ []) ≡ length xs + 1 = length-append xs (x ∷ []) in omega arith)

    at : (xs : List Variable) → variable_faults (declared_as (length xs) v) (if is_input circuit v then Some v else None) ≡ []
    at xs = by (is_input circuit v)
      where
        by : (b : Bool) → variable_faults (declared_as (length xs) v) (if b then Some v else None) ≡ []
        by true = ap (width_faults 0) (nets_are (length xs) v)
        by false = refl

unplaced_fine : (circuit : Circuit) (ds : List Declaration) → AllByRecursion (IsFine circuit) (map unplaced_declaration ds) → flat_map (λ (d : Declaration). variable_faults d (input_of circuit d)) ds ≡ []
unplaced_fine circuit [] h = refl
unplaced_fine circuit (d ∷ ds) h = ap (λ fs. fs ++ flat_map (λ (x : Declaration). variable_faults x (input_of circuit x)) ds) (fine_moved circuit d h.0) ∙ unplaced_fine circuit ds h.1

pub own_fine : (circuit : Circuit) (ds : List Declaration) → HasInputs circuit → AreOwn circuit ds → flat_map (λ (d : Declaration). variable_faults d (input_of circuit d)) ds ≡ []
own_fine circuit ds has are = unplaced_fine circuit ds (subst (AllByRecursion (IsFine circuit)) (sym are) (all_fine circuit has [] (tops circuit) refl))

-- ---- fronts

none_first : {A : Type 0} (xs ys : List A) → xs ++ ys ≡ [] → xs ≡ []
none_first [] ys e = refl
none_first (x ∷ xs) ys e = absurd (let q : suc (length (xs ++ ys)) ≡ 0 = ap length e in omega arith)

-- what is known of a dump
pub record IsFaultless (circuit : Circuit) (scope : List ℕ) (ss : List Section) (items : List Item) : Type 0 where
  pub variables : flat_map (λ (d : Declaration). variable_faults d (input_of circuit d)) (own scope ss) ≡ []
  pub found : has_scope scope ss ≡ true
  pub clean : CleanAll (header_of circuit scope ss) 0 items

front_own : (circuit : Circuit) (scope : List ℕ) (xs rest : List Section) → flat_map (λ (d : Declaration). variable_faults d (input_of circuit d)) (own scope (xs ++ rest)) ≡ [] → flat_map (λ (d : Declaration). variable_faults d (input_of circuit d)) (own scope xs) ≡ []
front_own circuit scope xs rest e =
    let faults_of = λ (ds : List Declaration). flat_map (λ (d : Declaration). variable_faults d (input_of circuit d)) ds in
    let split : own scope (xs ++ rest) ≡ own scope xs ++ own_from scope (stack_after [] xs) rest =
    own_is scope (xs ++ rest) ∙ (own-append scope [] xs rest ∙ ap (λ ds. ds ++ own_from scope (stack_after [] xs) rest) (sym (own_is scope xs))) in
    none_first (faults_of (own scope xs)) (faults_of (own_from scope (stack_after [] xs) rest)) (sym (flat_map-append (λ (d : Declaration). variable_faults d (input_of circuit d)) (own scope xs) (own_from scope (stack_after [] xs) rest)) ∙ (ap faults_of (sym split) ∙ e))

front_none : (circuit : Circuit) (scope : List ℕ) (ss : List Section) (byte : ℕ) (items : List Item) (f : Front) → IsFaultless circuit scope ss items → FrontIs ss byte items f → front_faults circuit scope f ≡ []
front_none circuit scope ss byte items f h (in_header rest e none) =
    ap (λ o. flat_map (λ (d : Declaration). variable_faults d (input_of circuit d)) (own scope f.sections) ++ body_faults (header_of circuit scope f.sections) (has_scope scope f.sections) o) none
    ∙ (append-nil (flat_map (λ (d : Declaration). variable_faults d (input_of circuit d)) (own scope f.sections))
    ∙ front_own circuit scope f.sections rest (ap (λ xs. flat_map (λ (d : Declaration). variable_faults d (input_of circuit d)) (own scope xs)) (sym e) ∙ h.variables))
front_none circuit scope ss byte items f h (in_body is rest same body whole) =
    ap (λ o. flat_map (λ (d : Declaration). variable_faults d (input_of circuit d)) (own scope f.sections) ++ body_faults (header_of circuit scope f.sections) (has_scope scope f.sections) o) body
    ∙ (ap (λ xs. flat_map (λ (d : Declaration). variable_faults d (input_of circuit d)) (own scope xs) ++ (fault_if (not (has_scope scope xs)) NoScope byte ++ flat_map (item_faults (header_of circuit scope xs)) (timed 0 is))) same
    ∙ (ap (λ fs. fs ++ (fault_if (not (has_scope scope ss)) NoScope byte ++ flat_map (item_faults (header_of circuit scope ss)) (timed 0 is))) h.variables
    ∙ (ap (λ b. fault_if b NoScope byte ++ flat_map (item_faults (header_of circuit scope ss)) (timed 0 is)) (not_from_true (has_scope scope ss) h.found)
    ∙ clean_faults (header_of circuit scope ss) 0 is (clean_front (header_of circuit scope ss) 0 is rest (subst (CleanAll (header_of circuit scope ss) 0) whole h.clean)))))

none_among : (x : Fault) (fs : List Fault) → fs ≡ [] → IsAmong fs x → ⊥
none_among x fs e h = (let l : h.0 < length fs = h.1.0 in let z : length fs ≡ 0 = ap length e in omega arith)

pub no_fault : (text : List ℕ) (circuit : Circuit) (scope : List ℕ) (ss : List Section) (byte : ℕ) (items : List Item) → AreExact → length text ≤ most_bytes
    → dump.language.Spells (words text) 0 (record { sections = ss; body = Some (byte, items) }) (length (words text)) → IsWhole (words text) ss byte items → IsFaultless circuit scope ss items
    → (x : Fault) → FaultStands text circuit scope x → ⊥
no_fault text circuit scope ss byte items exact small spelled whole fine x (too_long l) = omega arith
no_fault text circuit scope ss byte items exact small spelled whole fine x (of_form n begun stuck none) = none (record { sections = ss; body = Some (byte, items) }) spelled
no_fault text circuit scope ss byte items exact small spelled whole fine x (of_front f n fits y among) = none_among y (front_faults circuit scope f) (front_none circuit scope ss byte items f fine (front_is exact (words text) ss byte items f n whole fits)) among
