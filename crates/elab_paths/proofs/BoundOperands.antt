-- A condition with sound operands is bound to the nets of an instance's row.
use Rattle.std.specs.Prelude.{◌≡◌, ℕ, zero, suc, ℤ, ◌+◌, ◌-◌, ◌<◌, ◌==◌, ◌&&◌, not, List, [], ◌∷◌, ◌++◌, Bool, true, false, cond, Option, Some, None, drop, filter_map, length, map, nat_le, reverse, slice_get, take, refl}
use Rattle.std.specs.List.{range_with_len}
use Rattle.std.specs.Option.{option_and_then, option_map}
use Rattle.std.proofs.Common.{sym, ◌∙◌, ap, arith, subst}
use Rattle.std.proofs.lemmas.Bool.{eqb-true}
use Rattle.std.proofs.lemmas.Bool.Decides.{nat_tests}
use Rattle.std.proofs.lemmas.List.{append-nil}
use Rattle.std.proofs.lemmas.List.FromFn.{length-map-range_with_len}
use Rattle.std.proofs.lemmas.Option.{get_or_from_slice_get, slice_get-get_or, slice_get-map, slice_get_within}
use Rattle.cond_expr.specs.Binding as binding
use Rattle.cond_expr.specs.Binding.{index_of, IsBound, BindFaultStands, first_unknown}
use Rattle.cond_expr.specs.declared.binding.BindFault.{BindFault}
use Rattle.cond_expr.specs.declared.binding.BindFault.TheVariants.{Unknown}
use Rattle.cond_expr.specs.Condition.{Condition}
use Rattle.cond_expr.specs.Token.{Tok}
use Rattle.cond_expr.specs.Tree.{Cond, leaf, constant, unary, binary}
use Rattle.cond_expr.proofs.BindingLaws.{bound_is_known, bound_is_one}
use Rattle.sg_circuit.specs.Closed.{width_of}
use Rattle.sg_circuit.specs.Paths as circuit
use Rattle.sg_circuit.specs.PathsSeen.{written_at}
use Rattle.sg_circuit.specs.declared.scopes.Range.{Range}
use Rattle.sg_text.specs.declared.places.Place.{Place}
use Rattle.vl_tree.specs.declared.expressions.Select.TheVariants as select
use Rattle.elab_model.specs.declared.kinds.ElabKind.{ElabKind}
use Rattle.elab_model.specs.declared.kinds.ElabKind.TheVariants.{UnknownName, BadTerminal, WidthMismatch}
use Rattle.elab_model.specs.Bits.{net, position_at, positions_between, bits_between, variable_named, whole_bits, part_bits}
use Rattle.elab_model.specs.Faults.{fault_if}
use Rattle.elab_model.specs.Hierarchy.{is_empty}
use Rattle.elab_model.specs.Names.{Variable}
use Rattle.elab_model.specs.TerminalFaults.{is_missing, part_faults}
use Rattle.specify_model.specs.Conditions.{operand, bit_of_token, operand_bit, over, first_bit}
use Rattle.specify_model.specs.Faults.{operand_faults}
use Rattle.specify_model.specs.Paths.{circuit_condition}
use Rattle.elab_model.specs.Terms.{NetBit, net_bit, term_bits}
use Rattle.elab_laws.specs.Handing.{all_bits}
use Rattle.elab_laws.proofs.NoFaults.{front, back}
use Rattle.elab_laws.proofs.Places.{position-below}
use Rattle.elab_variables.specs.Seen.{variable_at, place_named}
use Rattle.elab_bits.proofs.InRow.{blank, place-is, stands-within}
use Rattle.elab_bits.proofs.NamedAt.{named-at, not-named}
use Rattle.specify_paths.specs.Seen.{IsRead}
use Rattle.elab_paths.specs.Operands.{operand_position, net_at, net_named}
use Rattle.elab_paths.specs.Ready.{condition_ready, written_condition}
use Rattle.elab_paths.specs.Uses.{IsRow, AreSound, IsSound, IsBindable}
use Rattle.elab_paths.specs.declared.shelving.ReadyCondition.{ReadyCondition}
use Rattle.elab_paths.specs.declared.shelving.ReadyCondition.TheVariants as ready
use Rattle.elab_paths.proofs.Leaves.{IsNamed, AreNamed, read-named}

-- ---- the bit of an operand

-- a bit of a variable, as a name with an index or without
pub record IsBit (vs : List Variable) (n : List ℕ) (i : Option ℤ) (b : NetBit) : Type 0 where
  pub place : ℕ
  pub named : place_named vs n ≡ Some place
  pub position : ℕ
  pub at : operand_position (variable_at vs place).range i ≡ Some position
  pub below : position < width_of (variable_at vs place).range
  pub is : b ≡ record { name = n; position = position }

no-fault : (test : Bool) (k : ElabKind) (p : Place) → fault_if test k p ≡ [] → test ≡ false
no-fault true k p e = cc
no-fault false k p e = refl

not-false : (b : Bool) → not b ≡ false → b ≡ true
not-false true e = refl
not-false false e = cc

-- the variable of a name, and its place
pub record IsPlaced (vs : List Variable) (n : List ℕ) (v : Variable) : Type 0 where
  pub place : ℕ
  pub named : place_named vs n ≡ Some place
  pub is : variable_at vs place ≡ v

place-of : (vs : List Variable) (n : List ℕ) (v : Variable) → variable_named vs n ≡ Some v → IsPlaced vs n v
place-of vs n v e = by (place_named vs n) refl
  where
    by : (o : Option ℕ) → place_named vs n ≡ o → IsPlaced vs n v
    by None h = let g : ◌≡◌ {A = Option Variable} None (Some v) = sym (not-named vs n (sym h)) ∙ e in cc
    by (Some k) h =
        let g : ◌≡◌ {A = Option Variable} (Some (variable_at vs k)) (Some v) = sym (named-at vs n k (sym h)).found ∙ e in
        record { place = k; named = h; is = cc }

-- a name alone is one bit wide
one-wide : (n : List ℕ) (w : ℕ) (k : ElabKind) (p : Place) → fault_if (not (length (map (net n) (range_with_len 0 w) ++ []) == 1)) k p ≡ [] → w ≡ 1
one-wide n w k p e =
    let bs = map (net n) (range_with_len 0 w) in
    let long : length (bs ++ []) ≡ w = ap length (append-nil bs) ∙ length-map-range_with_len (net n) 0 w in
    sym long ∙ eqb-true (length (bs ++ [])) 1 (not-false (length (bs ++ []) == 1) (no-fault (not (length (bs ++ []) == 1)) k p e))

whole-bit : (vs : List Variable) (n : List ℕ) (p : Place) (o : Option Variable) → variable_named vs n ≡ o → fault_if (is_missing o) UnknownName p ≡ []
    → fault_if (is_empty (fault_if (is_missing o) UnknownName p ++ []) && not (length (whole_bits n o ++ []) == 1)) WidthMismatch p ≡ []
    → IsBit vs n None (first_bit (filter_map net_bit (whole_bits n o ++ [])))
whole-bit vs n p None f e g = cc
whole-bit vs n p (Some v) f e g =
    let w : width_of v.range ≡ 1 = one-wide n (width_of v.range) WidthMismatch p g in
    let k = place-of vs n v f in
    let wide : width_of (variable_at vs k.place).range ≡ 1 = ap (λ x. width_of x.range) k.is ∙ w in
    record {
      place = k.place;
      named = k.named;
      position = 0;
      at = refl;
      below = omega (arith, wide);
      is = ap (λ j. first_bit (filter_map net_bit (map (net n) (range_with_len 0 j) ++ []))) w;
    }

-- with an index it is one bit
between-one : (n : List ℕ) (q : ℕ) → first_bit (filter_map net_bit (map (net n) (positions_between q q) ++ [])) ≡ record { name = n; position = q }
between-one n q =
    let t : nat_le q q ≡ true = grind (arith, nat_tests) in
    let e : q - q ≡ 0 = omega arith in
    ap (λ (b : Bool). first_bit (filter_map net_bit (map (net n) (cond b (range_with_len q (suc (q - q))) (reverse (range_with_len q (suc (q - q))))) ++ []))) t
    ∙ ap (λ j. first_bit (filter_map net_bit (map (net n) (range_with_len q (suc j)) ++ []))) e

index-bit : (vs : List Variable) (n : List ℕ) (i : ℤ) (p : Place) (v : Variable) → variable_named vs n ≡ Some v → (a : Option ℕ) → position_at v.range i ≡ a
    → fault_if (not (not (is_missing a))) BadTerminal p ≡ [] → IsBit vs n (Some i) (first_bit (filter_map net_bit (bits_between n a a ++ [])))
index-bit vs n i p v f None h e = cc
index-bit vs n i p v f (Some q) h e =
    let k = place-of vs n v f in
    let at : position_at (variable_at vs k.place).range i ≡ Some q = ap (λ x. position_at x.range i) k.is ∙ h in
    record { place = k.place; named = k.named; position = q; at = at; below = position-below (variable_at vs k.place).range i q at; is = between-one n q }

part-bit : (vs : List Variable) (n : List ℕ) (i : ℤ) (p : Place) (o : Option Variable) → variable_named vs n ≡ o → part_faults (record { text = n; place = p }) (select.Bit i) o ≡ []
    → IsBit vs n (Some i) (first_bit (filter_map net_bit (part_bits n (select.Bit i) o ++ [])))
part-bit vs n i p None f e = cc
part-bit vs n i p (Some v) f e = index-bit vs n i p v f (position_at v.range i) refl e

term-bit : (vs : List Variable) (n : List ℕ) (p q : Place) (i : Option ℤ) → operand_faults vs (record { name = record { text = n; place = p }; select = option_map select.Bit i }) ≡ []
    → IsBit vs n i (first_bit (term_bits vs (record { name = record { text = n; place = q }; select = option_map select.Bit i })))
term-bit vs n p q None e =
    let unknown = fault_if (is_missing (variable_named vs n)) UnknownName p in
    let wide = fault_if (is_empty (unknown ++ []) && not (length (whole_bits n (variable_named vs n) ++ []) == 1)) WidthMismatch p in
    whole-bit vs n p (variable_named vs n) refl (front unknown [] (front (unknown ++ []) wide e)) (back (unknown ++ []) wide e)
term-bit vs n p q (Some i) e =
    let faults = part_faults (record { text = n; place = p }) (select.Bit i) (variable_named vs n) in
    let wide = fault_if (is_empty (faults ++ []) && not (length (part_bits n (select.Bit i) (variable_named vs n) ++ []) == 1)) WidthMismatch p in
    part-bit vs n i p (variable_named vs n) refl (front faults [] (front (faults ++ []) wide e))

-- ---- its net

net-found : (vs : List Variable) (row : List ℕ) (number : NetBit → ℕ) (n : List ℕ) (i : Option ℤ) (b : NetBit) → IsRow vs row number → IsBit vs n i b → net_named vs row n i ≡ Some (number b)
net-found vs row number n i b h k =
    let v = variable_at vs k.place in
    let j = length (all_bits (take k.place vs)) + k.position in
    let at = named-at vs n k.place (sym k.named) in
    let f : Variable × ℕ → ℕ = λ x. number (record { name = x.0.name; position = x.1 }) in
    let within : j < length (all_bits vs) = (let s = stands-within vs k.place at.below in let p = k.below in omega arith) in
    let there : slice_get (all_bits vs) j ≡ Some (v, k.position) = slice_get-get_or (all_bits vs) j (blank, 0) within ∙ ap (λ x. Some x) (place-is vs k.place k.position (blank, 0) at.below k.below) in
    let stands : slice_get row j ≡ Some (f (v, k.position)) = ap (λ xs. slice_get xs j) h ∙ slice_get-map f (all_bits vs) j ∙ ap (option_map f) there in
    ap (option_and_then (λ m. net_at vs row m (operand_position (variable_at vs m).range i))) k.named
    ∙ ap (net_at vs row k.place) k.at
    ∙ stands
    ∙ ap (λ m. Some (number (record { name = m; position = k.position }))) at.name
    ∙ ap (λ x. Some (number x)) (sym k.is)

leaf-found : (vs : List Variable) (row : List ℕ) (number : NetBit → ℕ) (ts : List Tok) (at : ℕ) → IsRow vs row number → AreSound vs ts → IsNamed ts at
    → binding.net_at (net_named vs row) ts at ≡ Some (number (operand_bit vs ts at))
leaf-found vs row number ts at h s (n, e) =
    let next = slice_get ts (at + 1) in
    let (p, none) = s at n e in
    let zero-place : Place = record { file = 0; byte = 0 } in
    let bit = term-bit vs n p zero-place (index_of next) none in
    ap (λ t. binding.named_net (net_named vs row) t next) e
    ∙ net-found vs row number n (index_of next) (first_bit (term_bits vs (operand n zero-place next))) h bit
    ∙ ap (λ t. Some (number (bit_of_token vs t next))) (sym e)

-- ---- the nets of a tree

pub tree-bound : (vs : List Variable) (row : List ℕ) (number : NetBit → ℕ) (ts : List Tok) (c : Cond ℕ) → IsRow vs row number → AreSound vs ts → AreNamed ts c
    → IsBound (net_named vs row) ts c (over number (over (operand_bit vs ts) c))
tree-bound vs row number ts (leaf at) h s n = leaf-found vs row number ts at h s n
tree-bound vs row number ts (constant v) h s n = refl
tree-bound vs row number ts (unary op c) h s n = (refl, tree-bound vs row number ts c h s n)
tree-bound vs row number ts (binary op a b) h s n = (refl, tree-bound vs row number ts a h s n.0, tree-bound vs row number ts b h s n.1)

condition-named : (c : Condition) → IsRead c.tokens c → AreNamed c.tokens c.tree
condition-named c r = read-named c.tokens c.tree r.tree_is

-- no operand is unknown
pub none-unknown : (vs : List Variable) (row : List ℕ) (number : NetBit → ℕ) (c : Condition) (at : ℕ) → IsRow vs row number → IsSound vs c → first_unknown (net_named vs row) c.tokens c.tree ≡ Some at → ⊥
none-unknown vs row number c at h s e =
    let b = over number (over (operand_bit vs c.tokens) c.tree) in
    let none = bound_is_known (net_named vs row) c.tokens c.tree b (tree-bound vs row number c.tokens c.tree h s.operands (condition-named c s.read)) in
    let g : ◌≡◌ {A = Option ℕ} None (Some at) = sym none ∙ e in
    cc

pub bound-over : (vs : List Variable) (row : List ℕ) (number : NetBit → ℕ) (c : Condition) (b : Cond ℕ) → IsRow vs row number → IsSound vs c → IsBound (net_named vs row) c.tokens c.tree b
    → b ≡ over number (over (operand_bit vs c.tokens) c.tree)
bound-over vs row number c b h s k =
    bound_is_one (net_named vs row) c.tokens c.tree b (over number (over (operand_bit vs c.tokens) c.tree)) k (tree-bound vs row number c.tokens c.tree h s.operands (condition-named c s.read))

-- ---- conditions by their places

pub bindable-if : (vs : List Variable) (conditions : List Condition) (condition : ReadyCondition) (written : ℕ) → condition ≡ ready.If written → IsBindable vs conditions condition
    → (c : Condition) × ((slice_get conditions written ≡ Some c) × IsSound vs c)
bindable-if vs conditions condition written e h = subst (IsBindable vs conditions) e h

pub written-within : (vs : List Variable) (conditions : List Condition) (condition : ReadyCondition) (written : ℕ) → condition ≡ ready.If written → IsBindable vs conditions condition → written < length conditions
written-within vs conditions condition written e h = let k = bindable-if vs conditions condition written e h in slice_get_within conditions written k.0 k.1.0

-- what stands at the place is that condition
pub sound-at : (vs : List Variable) (conditions : List Condition) (condition : ReadyCondition) (written : ℕ) (c : Condition) → condition ≡ ready.If written → slice_get conditions written ≡ Some c → IsBindable vs conditions condition
    → IsSound vs c
sound-at vs conditions condition written c e f h =
    let k = bindable-if vs conditions condition written e h in
    let g : ◌≡◌ {A = Option Condition} (Some k.0) (Some c) = sym k.1.0 ∙ f in
    let same : k.0 ≡ c = cc in
    subst (IsSound vs) same k.1.1

pub condition-bound : (vs : List Variable) (row : List ℕ) (number : NetBit → ℕ) (conditions : List Condition) (condition : ReadyCondition) (written : ℕ) (c : Condition) (b : Cond ℕ)
    → condition ≡ ready.If written → slice_get conditions written ≡ Some c → IsBindable vs conditions condition → IsRow vs row number → IsBound (net_named vs row) c.tokens c.tree b
    → circuit.If (written_at conditions written) b ≡ circuit_condition number (condition_ready conditions vs condition)
condition-bound vs row number conditions condition written c b e f h r k =
    let s = sound-at vs conditions condition written c e f h in
    let text : written_at conditions written ≡ c.tokens = get_or_from_slice_get (map (λ x. x.tokens) conditions) written c.tokens [] (slice_get-map (λ x. x.tokens) conditions written ∙ ap (option_map (λ x. x.tokens)) f) in
    ap (λ ts. circuit.If ts b) text
    ∙ ap (circuit.If c.tokens) (bound-over vs row number c b r s k)
    ∙ ap (λ o. circuit_condition number (written_condition vs o)) (sym f)
    ∙ ap (λ x. circuit_condition number (condition_ready conditions vs x)) (sym e)

-- no operand of it is unknown
pub never-unknown : (vs : List Variable) (row : List ℕ) (number : NetBit → ℕ) (conditions : List Condition) (condition : ReadyCondition) (written : ℕ) (c : Condition) (fault : BindFault) (at : ℕ)
    → condition ≡ ready.If written → slice_get conditions written ≡ Some c → IsBindable vs conditions condition → IsRow vs row number → fault ≡ Unknown at → BindFaultStands (net_named vs row) c.tokens c.tree fault → ⊥
never-unknown vs row number conditions condition written c fault at e f h r g k =
    none-unknown vs row number c at r (sound-at vs conditions condition written c e f h) (subst (BindFaultStands (net_named vs row) c.tokens c.tree) g k)

-- ---- where an operand is looked for

drop-get : {A : Type 0} (xs : List A) (s p : ℕ) → slice_get (drop s xs) p ≡ slice_get xs (s + p)
drop-get xs zero p = let e : p ≡ 0 + p = omega arith in ap (slice_get xs) e
drop-get [] (suc s) p = refl
drop-get (x ∷ xs) (suc s) p = let e : suc (s + p) ≡ suc s + p = omega arith in drop-get xs s p ∙ ap (slice_get (x ∷ xs)) e

-- the net at a position behind those of the variables before
pub looked-up : (vs : List Variable) (row : List ℕ) (n m : List ℕ) (i : Option ℤ) (k start p : ℕ) (r : Option Range) → Some k ≡ place_named vs m → m ≡ n → start ≡ length (all_bits (take k vs)) → r ≡ (variable_at vs k).range
    → Some p ≡ operand_position r i → slice_get (drop start row) p ≡ net_named vs row n i
looked-up vs row n m i k start p r e same s range at =
    let named : place_named vs n ≡ Some k = ap (place_named vs) (sym same) ∙ sym e in
    let position : operand_position (variable_at vs k).range i ≡ Some p = ap (λ x. operand_position x i) (sym range) ∙ sym at in
    drop-get row start p ∙ ap (λ j. slice_get row (j + p)) s
    ∙ sym (ap (option_and_then (λ x. net_at vs row x (operand_position (variable_at vs x).range i))) named ∙ ap (net_at vs row k) position)
