-- The parts of a concatenation, one after another.
use Rattle.std.specs.Prelude.{◌≡◌, ℕ, suc, ◌+◌, ◌<◌, ◌≤◌, List, [], ◌∷◌, ◌++◌, map, flat_map, length, slice_index_or, refl}
use Rattle.std.proofs.Common.{sym, ◌∙◌, ap, arith, subst, drop, append_assoc, drop-cons, Vec, Global}
use Rattle.std.proofs.lemmas.List.{append-nil, map-append, drop_all}
use Rattle.sg_logic.specs.declared.values.Value.{Value}
use Rattle.sg_text.specs.declared.places.Place.{Place}
use Rattle.sg_text.specs.declared.refusals.Refused.{Refused}
use Rattle.vl_token.specs.Constants.{sized_bits}
use Rattle.vl_token.specs.declared.constants.Constant.{Constant}
use Rattle.vl_tree.specs.declared.expressions.Expression as code
use Rattle.vl_tree.specs.declared.expressions.Expression.TheVariants as variant
use Rattle.vl_tree.specs.Seen.{view_expression}
use Rattle.vl_tree.specs.Tree.{Expression}
use Rattle.elab_model.specs.declared.kinds.ElabKind.{ElabKind}
use Rattle.elab_model.specs.Bits.{Bit, constant, bits}
use Rattle.elab_model.specs.Faults.{RefusesOneOf}
use Rattle.elab_model.specs.Names.{Variable}
use Rattle.elab_model.specs.TerminalFaults.{expression_faults}
use Rattle.elab_variables.proofs.Refusals.{refused-left}
use Rattle.elab_bits.specs.declared.bits.Bit as code_bit
use Rattle.elab_bits.specs.declared.bits.Bit.TheVariants as bit
use Rattle.elab_bits.specs.Seen.{view_bit}
use Rattle.elab_bits.proofs.Parts.{bits-sized, bits-concatenation, faults-concatenation}

abbrev Code : Type 0
Code = code.Expression

-- what comes of the parts from a place on
abbrev pub of_rest : {A : Type 0} → (Expression → List A) → List Code → ℕ → List A
of_rest f es i = flat_map f (map view_expression (drop i es))

-- comes of the first of them, and of the others
of-next : {A : Type 0} (f : Expression → List A) (es : List Code) (i : ℕ) (x : Code) → i < length es → x ≡ slice_index_or es i x → of_rest f es i ≡ f (view_expression x) ++ of_rest f es (i + 1)
of-next f es i x lt e =
    let n : suc i ≡ i + 1 = omega arith in
    ap (λ l. flat_map f (map view_expression l)) (drop-cons es i x lt ∙ ap (λ y. y ∷ drop (suc i) es) (sym e)) ∙ ap (λ k. f (view_expression x) ++ of_rest f es k) n

of-none : {A : Type 0} (f : Expression → List A) (es : List Code) (i : ℕ) → length es ≤ i → of_rest f es i ≡ []
of-none f es i le = ap (λ l. flat_map f (map view_expression l)) (drop_all i es le)

-- ---- bits

pub part-added : (vs : List Variable) (es : List Code) (i : ℕ) (x : Code) (out new total : List Bit) → i < length es → x ≡ slice_index_or es i x → new ≡ out ++ bits vs (view_expression x)
    → out ++ of_rest (bits vs) es i ≡ total → new ++ of_rest (bits vs) es (i + 1) ≡ total
part-added vs es i x out new total lt at e h =
    ap (λ bs. bs ++ of_rest (bits vs) es (i + 1)) e ∙ append_assoc out (bits vs (view_expression x)) (of_rest (bits vs) es (i + 1)) ∙ ap (λ bs. out ++ bs) (sym (of-next (bits vs) es i x lt at)) ∙ h

pub all-added : (vs : List Variable) (e : Code) (p : Place) (parts : Vec Code Global) (es : List Code) (i : ℕ) (out old : List Bit) → e ≡ variant.Concatenation p parts → es ≡ parts.items
    → length es ≤ i
    → out ++ of_rest (bits vs) es i ≡ old ++ flat_map (bits vs) (map view_expression es) → out ≡ old ++ bits vs (view_expression e)
all-added vs e p parts es i out old is same le h =
    sym (append-nil out) ∙ ap (λ bs. out ++ bs) (sym (of-none (bits vs) es i le)) ∙ h ∙ ap (λ l. old ++ flat_map (bits vs) (map view_expression l)) same
    ∙ ap (λ bs. old ++ bs) (sym (bits-concatenation vs p parts)) ∙ ap (λ x. old ++ bits vs (view_expression x)) (sym is)

seen-constants : (vs : List Variable) (p : Place) (values : List Value) → map (view_bit vs) (map (bit.Constant p) values) ≡ map (constant p) values
seen-constants vs p [] = refl
seen-constants vs p (v ∷ values) = ap (λ bs. constant p v ∷ bs) (seen-constants vs p values)

pub constant-added : (vs : List Variable) (e : Code) (p : Place) (c : Constant) (old new : List code_bit.Bit) → e ≡ variant.Sized p c
    → new ≡ old ++ map (bit.Constant p) (sized_bits c.width c.base c.digits.now)
    → map (view_bit vs) new ≡ map (view_bit vs) old ++ bits vs (view_expression e)
constant-added vs e p c old new is h =
    let values = sized_bits c.width c.base c.digits.now in
    ap (map (view_bit vs)) h ∙ map-append (view_bit vs) old (map (bit.Constant p) values) ∙ ap (λ bs. map (view_bit vs) old ++ bs) (seen-constants vs p values ∙ sym (bits-sized vs p c))
    ∙ ap (λ x. map (view_bit vs) old ++ bits vs (view_expression x)) (sym is)

-- ---- faults

whole : (vs : List Variable) (e : Code) (p : Place) (parts : Vec Code Global) (es : List Code) → e ≡ variant.Concatenation p parts → es ≡ parts.items
    → expression_faults vs (view_expression e) ≡ flat_map (expression_faults vs) (map view_expression es)
whole vs e p parts es is same =
    ap (λ x. expression_faults vs (view_expression x)) is ∙ faults-concatenation vs p parts ∙ ap (λ l. flat_map (expression_faults vs) (map view_expression l)) (sym same)

pub part-faultless : (vs : List Variable) (es : List Code) (i : ℕ) (x : Code) → i < length es → x ≡ slice_index_or es i x → expression_faults vs (view_expression x) ≡ []
    → of_rest (expression_faults vs) es (i + 1) ≡ of_rest (expression_faults vs) es i
part-faultless vs es i x lt at e = sym (of-next (expression_faults vs) es i x lt at ∙ ap (λ fs. fs ++ of_rest (expression_faults vs) es (i + 1)) e)

pub part-refused : (vs : List Variable) (e : Code) (p : Place) (parts : Vec Code Global) (es : List Code) (i : ℕ) (x : Code) (r : Refused ElabKind) → e ≡ variant.Concatenation p parts
    → es ≡ parts.items
    → i < length es → x ≡ slice_index_or es i x → of_rest (expression_faults vs) es i ≡ flat_map (expression_faults vs) (map view_expression es)
    → RefusesOneOf (expression_faults vs (view_expression x)) r → RefusesOneOf (expression_faults vs (view_expression e)) r
part-refused vs e p parts es i x r is same lt at left h =
    let faults = expression_faults vs in
    let all : faults (view_expression x) ++ of_rest faults es (i + 1) ≡ faults (view_expression e) = sym (of-next faults es i x lt at) ∙ left ∙ sym (whole vs e p parts es is same) in
    subst (λ fs. RefusesOneOf fs r) all (refused-left (faults (view_expression x)) (of_rest faults es (i + 1)) r h)

pub all-faultless : (vs : List Variable) (e : Code) (p : Place) (parts : Vec Code Global) (es : List Code) (i : ℕ) → e ≡ variant.Concatenation p parts → es ≡ parts.items → length es ≤ i
    → of_rest (expression_faults vs) es i ≡ flat_map (expression_faults vs) (map view_expression es) → expression_faults vs (view_expression e) ≡ []
all-faultless vs e p parts es i is same le left = whole vs e p parts es is same ∙ sym left ∙ of-none (expression_faults vs) es i le
