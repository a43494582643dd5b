-- What is wrong with an expression that is joined to terminals, or to another.
use Rattle.std.specs.Prelude.{◌≡◌, ℕ, List, [], ◌++◌, Bool, true, false, ◌&&◌, not, ◌==◌, Result, map, flat_map, length, if◌then◌else◌}
use Rattle.std.proofs.Common.{sym, ◌∙◌, ap, subst, arith, eq-eqb}
use Rattle.std.proofs.lemmas.List.{length-map}
use Rattle.std.proofs.lemmas.Bool.Decides.{nat_tests}
use Rattle.std.proofs.lemmas.List.Folds.{flat_map-map}
use Rattle.sg_text.specs.declared.places.Place.{Place}
use Rattle.sg_text.specs.declared.refusals.Refused.{Refused}
use Rattle.sg_text.specs.declared.refusals.Refused.TheVariants as refused
use Rattle.vl_tree.specs.Tree.{Expression}
use Rattle.elab_model.specs.declared.kinds.ElabKind.{ElabKind}
use Rattle.elab_model.specs.declared.kinds.ElabKind.TheVariants.{WidthMismatch}
use Rattle.elab_model.specs.Bits.{bits}
use Rattle.elab_model.specs.Faults.{Fault, fault_if, RefusesOneOf}
use Rattle.elab_model.specs.Hierarchy.{is_empty}
use Rattle.elab_model.specs.Names.{Variable}
use Rattle.elab_model.specs.TerminalFaults.{expression_faults, is_sound, width_faults, constant_fault, constant_faults}
use Rattle.elab_declared.proofs.Refusals.{refused-left, refused-right}
use Rattle.elab_bits.specs.declared.bits.Bit as code_bit
use Rattle.elab_bits.specs.Seen.{view_bit}
use Rattle.elab_modules.specs.Telling.{Tells, joined_faults, sides_faults}
use Rattle.elab_modules.proofs.InTurn.{fault-told, no-fault}

-- constants among the code's bits are those of the expression
constants-of : (vs : List Variable) (e : Expression) (xs : List code_bit.Bit) → map (view_bit vs) xs ≡ bits vs e → flat_map (λ b. constant_fault (view_bit vs b)) xs ≡ constant_faults vs e
constants-of vs e xs h = sym (flat_map-map constant_fault (view_bit vs) xs) ∙ ap (flat_map constant_fault) h

pub joined-input : (vs : List Variable) (w : ℕ) (b : Bool) (e : Expression) → b ≡ false → expression_faults vs e ≡ [] → width_faults vs w e ≡ [] → joined_faults vs w b e ≡ []
joined-input vs w b e input es ws =
    let driven : Bool → List Fault = λ b. if b then constant_faults vs e else [] in
    ap (λ fs. fs ++ (width_faults vs w e ++ driven b)) es ∙ ap (λ fs. fs ++ driven b) ws ∙ ap driven input

pub joined-output : {A : Type 0} (vs : List Variable) (w : ℕ) (b : Bool) (e : Expression) (xs : List code_bit.Bit) (result : Result A (Refused ElabKind)) → b ≡ true → expression_faults vs e ≡ []
    → width_faults vs w e ≡ [] → map (view_bit vs) xs ≡ bits vs e → Tells (flat_map (λ b. constant_fault (view_bit vs b)) xs) result → Tells (joined_faults vs w b e) result
joined-output vs w b e xs result output es ws seen h =
    let driven : Bool → List Fault = λ b. if b then constant_faults vs e else [] in
    let all : joined_faults vs w b e ≡ constant_faults vs e = ap (λ fs. fs ++ (width_faults vs w e ++ driven b)) es ∙ ap (λ fs. fs ++ driven b) ws ∙ ap driven output in
    subst (λ fs. Tells fs result) (constants-of vs e xs seen ∙ sym all) h

-- ---- the sides of an assignment

abbrev differ : List Variable → Expression → Expression → Bool
differ vs l r = is_sound vs l && (is_sound vs r && not (length (bits vs l) == length (bits vs r)))

pub left-refused : (vs : List Variable) (p : Place) (l r : Expression) (x : Refused ElabKind) → RefusesOneOf (expression_faults vs l) x → RefusesOneOf (sides_faults vs p l r) x
left-refused vs p l r x h =
    refused-left (expression_faults vs l ++ (expression_faults vs r ++ [])) (constant_faults vs l ++ fault_if (differ vs l r) WidthMismatch p) x
    (refused-left (expression_faults vs l) (expression_faults vs r ++ []) x h)

pub right-refused : (vs : List Variable) (p : Place) (l r : Expression) (x : Refused ElabKind) → RefusesOneOf (expression_faults vs r) x → RefusesOneOf (sides_faults vs p l r) x
right-refused vs p l r x h =
    refused-left (expression_faults vs l ++ (expression_faults vs r ++ [])) (constant_faults vs l ++ fault_if (differ vs l r) WidthMismatch p) x
    (refused-right (expression_faults vs l) (expression_faults vs r ++ []) x (refused-left (expression_faults vs r) [] x h))

pub driven-refused : (vs : List Variable) (p : Place) (l r : Expression) (xs : List code_bit.Bit) (x : Refused ElabKind) → map (view_bit vs) xs ≡ bits vs l
    → RefusesOneOf (flat_map (λ b. constant_fault (view_bit vs b)) xs) x → RefusesOneOf (sides_faults vs p l r) x
driven-refused vs p l r xs x seen h =
    refused-right (expression_faults vs l ++ (expression_faults vs r ++ [])) (constant_faults vs l ++ fault_if (differ vs l r) WidthMismatch p) x
    (refused-left (constant_faults vs l) (fault_if (differ vs l r) WidthMismatch p) x (subst (λ fs. RefusesOneOf fs x) (constants-of vs l xs seen) h))

differ-is : (vs : List Variable) (l r : Expression) (xs ys : List code_bit.Bit) (b : Bool) → expression_faults vs l ≡ [] → expression_faults vs r ≡ [] → map (view_bit vs) xs ≡ bits vs l
    → map (view_bit vs) ys ≡ bits vs r → (length ys == length xs) ≡ b → differ vs l r ≡ not b
differ-is vs l r xs ys b el er sx sy e =
    let lx : length (bits vs l) ≡ length xs = ap length (sym sx) ∙ length-map xs (view_bit vs) in
    let ly : length (bits vs r) ≡ length ys = ap length (sym sy) ∙ length-map ys (view_bit vs) in
    ap (λ fs. is_empty fs && (is_sound vs r && not (length (bits vs l) == length (bits vs r)))) el
    ∙ ap (λ fs. is_empty fs && not (length (bits vs l) == length (bits vs r))) er
    ∙ ap (λ n. not (n == length (bits vs r))) lx ∙ ap (λ n. not (length xs == n)) ly ∙ ap not (swapped (length xs) (length ys) ∙ e)
  where
    swapped : (a b : ℕ) → (a == b) ≡ (b == a)
    swapped a b = grind (arith, nat_tests)

pub widths-refused : (vs : List Variable) (p : Place) (l r : Expression) (xs ys : List code_bit.Bit) → expression_faults vs l ≡ [] → expression_faults vs r ≡ [] → map (view_bit vs) xs ≡ bits vs l
    → map (view_bit vs) ys ≡ bits vs r → (length ys ≡ length xs → ⊥) → RefusesOneOf (sides_faults vs p l r) (refused.Fault WidthMismatch p)
widths-refused vs p l r xs ys el er sx sy e =
    refused-right (expression_faults vs l ++ (expression_faults vs r ++ [])) (constant_faults vs l ++ fault_if (differ vs l r) WidthMismatch p) (refused.Fault WidthMismatch p)
    (refused-right (constant_faults vs l) (fault_if (differ vs l r) WidthMismatch p) (refused.Fault WidthMismatch p)
    (fault-told (differ vs l r) WidthMismatch p (differ-is vs l r xs ys false el er sx sy (not-equal (length ys) (length xs) e))))
  where
    not-equal : (a b : ℕ) → (a ≡ b → ⊥) → (a == b) ≡ false
    not-equal a b h = grind (arith, nat_tests)

pub sides-faultless : (vs : List Variable) (p : Place) (l r : Expression) (xs ys : List code_bit.Bit) → expression_faults vs l ≡ [] → expression_faults vs r ≡ [] → map (view_bit vs) xs ≡ bits vs l
    → map (view_bit vs) ys ≡ bits vs r → flat_map (λ b. constant_fault (view_bit vs b)) xs ≡ [] → length ys ≡ length xs → sides_faults vs p l r ≡ []
sides-faultless vs p l r xs ys el er sx sy cs e =
    ap (λ fs. (fs ++ (expression_faults vs r ++ [])) ++ (constant_faults vs l ++ fault_if (differ vs l r) WidthMismatch p)) el
    ∙ ap (λ fs. (fs ++ []) ++ (constant_faults vs l ++ fault_if (differ vs l r) WidthMismatch p)) er
    ∙ ap (λ fs. fs ++ fault_if (differ vs l r) WidthMismatch p) (sym (constants-of vs l xs sx) ∙ cs)
    ∙ no-fault (differ vs l r) WidthMismatch p (differ-is vs l r xs ys true el er sx sy (eq-eqb (length ys) (length xs) e))
