-- What one operator's gates are worth, where each wire has the value of its gate.
use Rattle.std.specs.Prelude.{ℕ, suc, zero, ◌≡◌, ◌+◌, Bool, true, false, ◌&&◌, ◌||◌, not, List, [], ◌∷◌, ◌++◌, if◌then◌else◌, length, map, refl}
use Rattle.std.specs.List.{list_any, list_all}
use Rattle.std.proofs.Common.{sym, ◌∙◌, ap, ap₂, subst, arith}
use Rattle.sg_logic.specs.declared.values.Value.{Value}
use Rattle.sg_logic.specs.declared.values.Value.TheVariants.{Zero, One, X, Z}
use Rattle.sg_logic.specs.Values.{z_as_x}
use Rattle.sg_logic.specs.declared.gates.GateKind.{GateKind}
use Rattle.sg_logic.specs.declared.gates.GateKind.TheVariants as gate
use Rattle.sg_logic.specs.Gate.{gate_value, inverse, is_one, is_zero as is_zero_value}
use Rattle.fit_gates.specs.declared.terms.Operand.{Operand}
use Rattle.fit_gates.specs.declared.terms.Operand.TheVariants as operand
use Rattle.fit_gates.specs.declared.terms.Reduction.{Reduction}
use Rattle.fit_gates.specs.declared.terms.Bitwise.{Bitwise}
use Rattle.fit_gates.specs.declared.terms.Logical.{Logical}
use Rattle.fit_gates.specs.declared.gates.Kind.TheVariants as kind
use Rattle.fit_gates.specs.Values.{Valuation, bit, bitwise_value, case_equality, choice_value, comparison, equality, fitted, gated_value, logical_value, matches, operand_value, reduction_value, zip_with}
use Rattle.fit_gates.specs.Gates.{Driver, Hold, all_kind, bitwise_kind, control_kind, driver, driver_value, each_kind, logical_kind, match_value, reduction_kind}
use Rattle.fit_gates.specs.Making.{Made, added, all_added, apart_gates, asked_gates, behind_first, bit_gates, bitwise_of, chosen_of, compared_of, first_bit, fitted_bits, gated_of, inverted_of, is_zero, logical_of, matched_of, one_bit, over, pair_gates, reduced_of, together, wires}
use Rattle.fit_gates.proofs.Pieces.{bad, bitwise_gate, choice_gate, control_gate, good, is_on, logical_gate, lone_gate, match_bad, match_good, match_on, not_gate, pair_bad, pair_good, pair_on, reduction_gate, settled_gate}

abbrev pub values : Valuation → List Operand → List Value
values v xs = map (operand_value v) xs

abbrev pub worths : Valuation → List Driver → List Value
worths v gs = map (driver_value v) gs

-- where the gates hold after something was made, they held before, and its bits have these values
abbrev pub IsWorth : Valuation → List Driver → Made → List Value → Type 0
IsWorth v gs x vs = Hold v 0 x.0 → Hold v 0 gs × (values v x.1 ≡ vs)

-- the same of one bit, where z is read as x
abbrev pub ReadsAs : Valuation → List Driver → List Driver × Operand → Value → Type 0
ReadsAs v gs x a = Hold v 0 x.0 → Hold v 0 gs × (z_as_x (operand_value v x.1) ≡ a)

-- ---- gates that are added

pub hold-split : (v : Valuation) (n : ℕ) (xs ys : List Driver) → Hold v n (xs ++ ys) → Hold v n xs × Hold v (n + length xs) ys
hold-split v n [] ys h = let e : n ≡ n + 0 = omega arith in (tt, subst (λ k. Hold v k ys) e h)
hold-split v n (x ∷ xs) ys h =
    let r = hold-split v (suc n) xs ys h.1 in
    let e : suc n + length xs ≡ n + suc (length xs) = omega arith in
    ((h.0, r.0), subst (λ k. Hold v k ys) e r.1)

pub wires-hold : (v : Valuation) (n : ℕ) (more : List Driver) → Hold v n more → values v (wires n (length more)) ≡ worths v more
wires-hold v n [] h = refl
wires-hold v n (g ∷ gs) h = ap₂ (λ a b. a ∷ b) h.0 (wires-hold v (suc n) gs h.1)

pub all-worth : (v : Valuation) (gs more : List Driver) → IsWorth v gs (all_added gs more) (worths v more)
all-worth v gs more h =
    let r = hold-split v 0 gs more h in
    let e : 0 + length gs ≡ length gs = omega arith in
    (r.0, wires-hold v (length gs) more (subst (λ k. Hold v k more) e r.1))

pub one-worth : (v : Valuation) (gs : List Driver) (d : Driver) → Hold v 0 (gs ++ d ∷ []) → Hold v 0 gs × (v.wires (length gs) ≡ driver_value v d)
one-worth v gs d h =
    let r = hold-split v 0 gs (d ∷ []) h in
    let e : 0 + length gs ≡ length gs = omega arith in
    (r.0, (subst (λ k. Hold v k (d ∷ [])) e r.1).0)

pub over-reads : (v : Valuation) (gs : List Driver) (equal : Bool) (xs : List Operand) → ReadsAs v gs (over gs (all_kind equal) xs) (gate_value (all_kind equal) (values v xs))
over-reads v gs equal (x ∷ []) h = (h, sym (lone_gate equal (operand_value v x)))
over-reads v gs equal [] h = let r = one-worth v gs (driver (kind.Gate (all_kind equal)) []) h in (r.0, ap z_as_x r.1 ∙ settled_gate equal [])
over-reads v gs equal (x ∷ y ∷ ys) h =
    let r = one-worth v gs (driver (kind.Gate (all_kind equal)) (x ∷ y ∷ ys)) h in
    (r.0, ap z_as_x r.1 ∙ settled_gate equal (values v (x ∷ y ∷ ys)))

-- ---- bits

pub values-fitted : (v : Valuation) (w : ℕ) (xs : List Operand) → values v (fitted_bits w xs) ≡ fitted Zero w (values v xs)
values-fitted v zero xs = refl
values-fitted v (suc w) [] = ap (λ r. Zero ∷ r) (values-fitted v w [])
values-fitted v (suc w) (x ∷ xs) = ap (λ r. operand_value v x ∷ r) (values-fitted v w xs)

pub bit-worth : (v : Valuation) (gs : List Driver) (k : GateKind) (xs : List Operand) (w : ℕ) → IsWorth v gs (one_bit w (added gs k xs)) (fitted Zero w (gate_value k (values v xs) ∷ []))
bit-worth v gs k xs w h =
    let r = one-worth v gs (driver (kind.Gate k) xs) h in
    (r.0, values-fitted v w (operand.Wire (length gs) ∷ []) ∙ ap (λ a. fitted Zero w (a ∷ [])) r.1)

pub inverted-worth : (v : Valuation) (gs : List Driver) (xs : List Operand) → IsWorth v gs (inverted_of gs xs) (map inverse (values v xs))
inverted-worth v gs xs h = let r = all-worth v gs (bit_gates (kind.Gate gate.Not) [] xs) h in (r.0, r.1 ∙ each xs)
  where
    each : (ys : List Operand) → worths v (bit_gates (kind.Gate gate.Not) [] ys) ≡ map inverse (values v ys)
    each [] = refl
    each (y ∷ ys) = ap₂ (λ a b. a ∷ b) (not_gate (operand_value v y)) (each ys)

pub reduced-worth : (v : Valuation) (gs : List Driver) (op : Reduction) (w : ℕ) (xs : List Operand) → IsWorth v gs (reduced_of gs op w xs) (fitted Zero w (reduction_value op (values v xs) ∷ []))
reduced-worth v gs op w xs h = let r = bit-worth v gs (reduction_kind op) xs w h in (r.0, r.1 ∙ ap (λ a. fitted Zero w (a ∷ [])) (reduction_gate op (values v xs)))

pub bitwise-worth : (v : Valuation) (gs : List Driver) (op : Bitwise) (xs ys : List Operand) → IsWorth v gs (bitwise_of gs op xs ys) (zip_with (bitwise_value op) (values v xs) (values v ys))
bitwise-worth v gs op xs ys h = let r = all-worth v gs (pair_gates (kind.Gate (bitwise_kind op)) [] xs ys) h in (r.0, r.1 ∙ each xs ys)
  where
    each : (xs ys : List Operand) → worths v (pair_gates (kind.Gate (bitwise_kind op)) [] xs ys) ≡ zip_with (bitwise_value op) (values v xs) (values v ys)
    each [] ys = refl
    each (x ∷ xs) [] = refl
    each (x ∷ xs) (y ∷ ys) = ap₂ (λ a b. a ∷ b) (bitwise_gate op (operand_value v x) (operand_value v y)) (each xs ys)

pub logical-worth : (v : Valuation) (gs : List Driver) (op : Logical) (w : ℕ) (xs ys : List Operand)
    → IsWorth v gs (logical_of gs op w xs ys) (fitted Zero w (logical_value op (gate_value gate.Or (values v xs)) (gate_value gate.Or (values v ys)) ∷ []))
logical-worth v gs op w xs ys h =
    let a = over gs gate.Or xs in
    let b = over a.0 gate.Or ys in
    let r = bit-worth v b.0 (logical_kind op) (a.1 ∷ b.1 ∷ []) w h in
    let s = over-reads v a.0 false ys r.0 in
    let t = over-reads v gs false xs s.0 in
    (t.0, r.1 ∙ ap (λ c. fitted Zero w (c ∷ [])) (logical_gate op (operand_value v a.1) (operand_value v b.1) ∙ ap₂ (logical_value op) t.1 s.1))

pub chosen-worth : (v : Valuation) (gs : List Driver) (cs xs ys : List Operand)
    → IsWorth v gs (chosen_of gs cs xs ys) (zip_with (choice_value (gate_value gate.Or (values v cs))) (values v xs) (values v ys))
chosen-worth v gs cs xs ys h =
    let c = over gs gate.Or cs in
    let r = all-worth v c.0 (pair_gates kind.Choice (c.1 ∷ []) xs ys) h in
    let s = over-reads v gs false cs r.0 in
    (s.0, r.1 ∙ each c.1 xs ys ∙ ap (λ a. zip_with (choice_value a) (values v xs) (values v ys)) s.1)
  where
    each : (c : Operand) (xs ys : List Operand) → worths v (pair_gates kind.Choice (c ∷ []) xs ys) ≡ zip_with (choice_value (z_as_x (operand_value v c))) (values v xs) (values v ys)
    each c [] ys = refl
    each c (x ∷ xs) [] = refl
    each c (x ∷ xs) (y ∷ ys) = ap₂ (λ a b. a ∷ b) (choice_gate (operand_value v c) (operand_value v x) (operand_value v y)) (each c xs ys)

pub gated-worth : (v : Valuation) (gs : List Driver) (at : Bool) (cs xs : List Operand)
    → IsWorth v gs (gated_of gs at cs xs) (map (gated_value at (gate_value gate.Or (values v cs))) (values v xs))
gated-worth v gs at cs xs h =
    let c = over gs gate.Or cs in
    let r = all-worth v c.0 (bit_gates (kind.Gate (control_kind at)) (c.1 ∷ []) xs) h in
    let s = over-reads v gs false cs r.0 in
    (s.0, r.1 ∙ each c.1 xs ∙ ap (λ a. map (gated_value at a) (values v xs)) s.1)
  where
    each : (c : Operand) (xs : List Operand) → worths v (bit_gates (kind.Gate (control_kind at)) (c ∷ []) xs) ≡ map (gated_value at (z_as_x (operand_value v c))) (values v xs)
    each c [] = refl
    each c (x ∷ xs) = ap₂ (λ a b. a ∷ b) (control_gate at (operand_value v c) (operand_value v x)) (each c xs)

-- ---- comparisons

-- values of gates show the same as equalities: whether one is 0, whether all are 1; and none is z
abbrev pub Show : Bool → List Value → List Value → Type 0
Show equal ds es = (list_any (bad equal) ds ≡ list_any is_zero_value es) × (list_all (good equal) ds ≡ list_all is_one es) × (list_all is_on ds ≡ true)

pub shown : (equal : Bool) (ds es : List Value) → Show equal ds es → gate_value (all_kind equal) ds ≡ comparison equal es
shown true ds es s = ap₂ (λ (a b : Bool). if a then Zero else if b then One else X) s.0 s.1
shown false ds es s = ap₂ (λ (a b : Bool). if a then One else if b then Zero else X) s.0 s.1 ∙ turned (list_any is_zero_value es) (list_all is_one es)
  where
    turned : (a b : Bool) → (if a then One else if b then Zero else X) ≡ inverse (if a then Zero else if b then One else X)
    turned true b = refl
    turned false true = refl
    turned false false = refl

show-more : (equal : Bool) (d e : Value) (ds es : List Value) → bad equal d ≡ is_zero_value e → good equal d ≡ is_one e → is_on d ≡ true → Show equal ds es → Show equal (d ∷ ds) (e ∷ es)
show-more equal d e ds es p q o s = (ap₂ (λ a b. a || b) p s.0, ap₂ (λ a b. a && b) q s.1, ap₂ (λ a b. a && b) o s.2)

show-same : (equal : Bool) (e : Value) (ds es : List Value) → One ≡ e → Show equal ds es → Show equal ds (e ∷ es)
show-same equal e ds es p s = subst (λ a. Show equal ds (a ∷ es)) p s

zero-value : (v : Valuation) (x : Operand) → is_zero x ≡ true → operand_value v x ≡ Zero
zero-value v (operand.Constant Zero) e = refl
zero-value v (operand.Constant One) e = cc
zero-value v (operand.Constant X) e = cc
zero-value v (operand.Constant Z) e = cc
zero-value v (operand.Net n i) e = cc
zero-value v (operand.Wire n) e = cc

pub apart-show : (v : Valuation) (equal : Bool) (xs ys : List Operand) → Show equal (worths v (apart_gates (each_kind equal) xs ys)) (zip_with equality (values v xs) (values v ys))
apart-show v equal [] ys = (refl, refl, refl)
apart-show v equal (x ∷ xs) [] = (refl, refl, refl)
apart-show v equal (x ∷ xs) (y ∷ ys) = by (is_zero x) (is_zero y) refl refl (apart-show v equal xs ys)
  where
    by : (b c : Bool) → is_zero x ≡ b → is_zero y ≡ c → Show equal (worths v (apart_gates (each_kind equal) xs ys)) (zip_with equality (values v xs) (values v ys))
        → Show equal (worths v ((if b && c then [] else driver (kind.Gate (each_kind equal)) (x ∷ y ∷ []) ∷ []) ++ apart_gates (each_kind equal) xs ys)) (equality (operand_value v x) (operand_value v y) ∷ zip_with equality (values v xs) (values v ys))
    by true true p q s = show-same equal (equality (operand_value v x) (operand_value v y)) (worths v (apart_gates (each_kind equal) xs ys)) (zip_with equality (values v xs) (values v ys)) (sym (ap₂ equality (zero-value v x p) (zero-value v y q))) s
    by true false p q s = show-more equal (gate_value (each_kind equal) (operand_value v x ∷ operand_value v y ∷ [])) (equality (operand_value v x) (operand_value v y)) (worths v (apart_gates (each_kind equal) xs ys)) (zip_with equality (values v xs) (values v ys)) (pair_bad equal (operand_value v x) (operand_value v y)) (pair_good equal (operand_value v x) (operand_value v y)) (pair_on equal (operand_value v x) (operand_value v y)) s
    by false c p q s = show-more equal (gate_value (each_kind equal) (operand_value v x ∷ operand_value v y ∷ [])) (equality (operand_value v x) (operand_value v y)) (worths v (apart_gates (each_kind equal) xs ys)) (zip_with equality (values v xs) (values v ys)) (pair_bad equal (operand_value v x) (operand_value v y)) (pair_good equal (operand_value v x) (operand_value v y)) (pair_on equal (operand_value v x) (operand_value v y)) s

matches-first : (a : Value) (rest : List Value) (bs : List Bool) → matches (a ∷ rest) bs ≡ case_equality a (bit (first_bit bs)) ∷ matches rest (behind_first bs)
matches-first a rest [] = refl
matches-first a rest (b ∷ bs) = refl

pub asked-show : (v : Valuation) (equal : Bool) (xs : List Operand) (bs : List Bool) → Show equal (worths v (asked_gates equal xs bs)) (matches (values v xs) bs)
asked-show v equal [] bs = (refl, refl, refl)
asked-show v equal (x ∷ xs) bs =
    subst (Show equal (worths v (asked_gates equal (x ∷ xs) bs))) (sym (matches-first (operand_value v x) (values v xs) bs))
    (by (is_zero x) (first_bit bs) refl (asked-show v equal xs (behind_first bs)))
  where
    by : (b c : Bool) → is_zero x ≡ b → Show equal (worths v (asked_gates equal xs (behind_first bs))) (matches (values v xs) (behind_first bs))
        → Show equal (worths v ((if b && not c then [] else driver (kind.Match c equal) (x ∷ []) ∷ []) ++ asked_gates equal xs (behind_first bs))) (case_equality (operand_value v x) (bit c) ∷ matches (values v xs) (behind_first bs))
    by true false p s = show-same equal (case_equality (operand_value v x) Zero) (worths v (asked_gates equal xs (behind_first bs))) (matches (values v xs) (behind_first bs)) (sym (ap (λ a. case_equality a Zero) (zero-value v x p))) s
    by true true p s = show-more equal (match_value true equal (operand_value v x)) (case_equality (operand_value v x) One) (worths v (asked_gates equal xs (behind_first bs))) (matches (values v xs) (behind_first bs)) (match_bad equal true (operand_value v x)) (match_good equal true (operand_value v x)) (match_on equal true (operand_value v x)) s
    by false c p s = show-more equal (match_value c equal (operand_value v x)) (case_equality (operand_value v x) (bit c)) (worths v (asked_gates equal xs (behind_first bs))) (matches (values v xs) (behind_first bs)) (match_bad equal c (operand_value v x)) (match_good equal c (operand_value v x)) (match_on equal c (operand_value v x)) s

lone-on : (a : Value) → (is_on a && true) ≡ true → z_as_x a ≡ a
lone-on Zero e = refl
lone-on One e = refl
lone-on X e = refl
lone-on Z e = cc

pub together-worth : (v : Valuation) (gs : List Driver) (equal : Bool) (w : ℕ) (more : List Driver) → list_all is_on (worths v more) ≡ true
    → IsWorth v gs (together gs equal w more) (fitted Zero w (gate_value (all_kind equal) (worths v more) ∷ []))
together-worth v gs equal w [] on h =
    let r = one-worth v (gs ++ []) (driver (kind.Gate (all_kind equal)) []) h in
    let s = all-worth v gs [] r.0 in
    (s.0, values-fitted v w (operand.Wire (length (gs ++ [])) ∷ []) ∙ ap (λ a. fitted Zero w (a ∷ [])) r.1)
together-worth v gs equal w (g ∷ []) on h =
    let s = one-worth v gs g h in
    (s.0, values-fitted v w (operand.Wire (length gs) ∷ []) ∙ ap (λ a. fitted Zero w (a ∷ [])) (s.1 ∙ sym (lone_gate equal (driver_value v g) ∙ lone-on (driver_value v g) on)))
together-worth v gs equal w (g ∷ i ∷ is) on h =
    let more = g ∷ i ∷ is in
    let outs = wires (length gs) (length more) in
    let r = one-worth v (gs ++ more) (driver (kind.Gate (all_kind equal)) outs) h in
    let s = all-worth v gs more r.0 in
    (s.0, values-fitted v w (operand.Wire (length (gs ++ more)) ∷ []) ∙ ap (λ a. fitted Zero w (a ∷ [])) (r.1 ∙ ap (gate_value (all_kind equal)) s.1))

pub compared-worth : (v : Valuation) (gs : List Driver) (equal : Bool) (w : ℕ) (xs ys : List Operand)
    → IsWorth v gs (compared_of gs equal w xs ys) (fitted Zero w (comparison equal (zip_with equality (values v xs) (values v ys)) ∷ []))
compared-worth v gs equal w xs ys h =
    let s = apart-show v equal xs ys in
    let r = together-worth v gs equal w (apart_gates (each_kind equal) xs ys) s.2 h in
    (r.0, r.1 ∙ ap (λ a. fitted Zero w (a ∷ [])) (shown equal _ _ s))

pub matched-worth : (v : Valuation) (gs : List Driver) (equal : Bool) (w : ℕ) (xs : List Operand) (bs : List Bool)
    → IsWorth v gs (matched_of gs equal w xs bs) (fitted Zero w (comparison equal (matches (values v xs) bs) ∷ []))
matched-worth v gs equal w xs bs h =
    let s = asked-show v equal xs bs in
    let r = together-worth v gs equal w (asked_gates equal xs bs) s.2 h in
    (r.0, r.1 ∙ ap (λ a. fitted Zero w (a ∷ [])) (shown equal _ _ s))
