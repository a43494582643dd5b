-- Bits of terminals that come one after another.
use Rattle.std.specs.Prelude.{◌≡◌, ℕ, zero, suc, ◌+◌, ◌<◌, ◌≤◌, List, [], ◌∷◌, ◌++◌, Option, Some, None, length, map, filter_map, take, drop, refl, option_map, slice_index_or}
use Rattle.std.specs.List.{cons_option}
use Rattle.std.specs.Option.{option_to_list}
use Rattle.std.proofs.Common.{sym, ◌∙◌, ap, arith, drop-cons, append_assoc, append-nil, length-append}
use Rattle.std.proofs.lemmas.List.{drop_all, length-map, take-map, take-append-le, take_all}
use Rattle.vl_tree.specs.Seen.{view_expression, view_named_connection}
use Rattle.vl_tree.specs.declared.expressions.Expression as code_expression
use Rattle.vl_tree.specs.declared.items.NamedConnection as code_connection
use Rattle.vl_tree.specs.Tree.{Expression}
use Rattle.elab_model.specs.Bits.{Bit, bits}
use Rattle.elab_model.specs.Elements.{only_bit}
use Rattle.elab_model.specs.Names.{Variable}
use Rattle.elab_bits.specs.declared.bits.Bit as code_bit
use Rattle.elab_bits.specs.Seen.{view_bit}
use Rattle.elab_nets.specs.TerminalBits.{outputs_of, inputs_of, HasBits, all_outputs, all_inputs, AddsTerminals}
use Rattle.elab_nets.specs.declared.member_bits.TerminalBits.{TerminalBits}

-- ---- an output has one bit or none

one-bit : (bs : List Bit) → length bs ≡ 1 → only_bit bs ≡ bs
one-bit [] e = absurd (omega arith)
one-bit (b ∷ []) e = refl
one-bit (b ∷ c ∷ bs) e = absurd (omega arith)

no-bit : (bs : List Bit) → (length bs ≡ 1 → ⊥) → only_bit bs ≡ []
no-bit [] n = refl
no-bit (b ∷ []) n = absurd (n refl)
no-bit (b ∷ c ∷ bs) n = refl

more-bits : (vs : List Variable) (old new : List code_bit.Bit) (bs : List Bit) → map (view_bit vs) new ≡ map (view_bit vs) old ++ bs → length new ≡ length old + length bs
more-bits vs old new bs e =
    sym (length-map new (view_bit vs)) ∙ ap length e ∙ length-append (map (view_bit vs) old) bs ∙ ap (λ n. n + length bs) (length-map old (view_bit vs))

pub one-kept : (vs : List Variable) (old new : List code_bit.Bit) (bs : List Bit) → map (view_bit vs) new ≡ map (view_bit vs) old ++ bs → length new ≡ length old + 1
    → map (view_bit vs) new ≡ map (view_bit vs) old ++ only_bit bs
one-kept vs old new bs e n =
    let l = more-bits vs old new bs e in
    let one : length bs ≡ 1 = omega arith in
    e ∙ ap (λ xs. map (view_bit vs) old ++ xs) (sym (one-bit bs one))

pub others-cut : (vs : List Variable) (old new cut : List code_bit.Bit) (bs : List Bit) → map (view_bit vs) new ≡ map (view_bit vs) old ++ bs → (length new ≡ length old + 1 → ⊥) → cut ≡ take (length old) new
    → map (view_bit vs) cut ≡ map (view_bit vs) old ++ only_bit bs
others-cut vs old new cut bs e n c =
    let l = more-bits vs old new bs e in
    let other : length bs ≡ 1 → ⊥ = λ (one : length bs ≡ 1). n (l ∙ ap (λ k. length old + k) one) in
    let m = length-map old (view_bit vs) in
    ap (map (view_bit vs)) c ∙ sym (take-map (view_bit vs) (length old) new) ∙ ap (take (length old)) e
    ∙ take-append-le (length old) (map (view_bit vs) old) bs (omega arith) ∙ take_all (length old) (map (view_bit vs) old) (omega arith)
    ∙ sym (append-nil (map (view_bit vs) old)) ∙ ap (λ xs. map (view_bit vs) old ++ xs) (sym (no-bit bs other))

-- ---- one terminal comes

pub input-added : (vs : List Variable) (e : Expression) (old new : TerminalBits) → old.outputs_to_come ≡ 0 → new.outputs_to_come ≡ old.outputs_to_come → new.outputs.items ≡ old.outputs.items
    → map (view_bit vs) new.inputs.items ≡ map (view_bit vs) old.inputs.items ++ bits vs e → AddsTerminals vs (e ∷ []) old new
input-added vs e old new z m o i = λ rest. (
  ap (λ xs. map (view_bit vs) xs ++ outputs_of vs new.outputs_to_come rest) o
      ∙ ap (λ n. map (view_bit vs) old.outputs.items ++ outputs_of vs n rest) (m ∙ z) ∙ ap (λ n. map (view_bit vs) old.outputs.items ++ outputs_of vs n (e ∷ rest)) (sym z),
  ap (λ xs. xs ++ inputs_of vs new.outputs_to_come rest) i
      ∙ ap (λ n. (map (view_bit vs) old.inputs.items ++ bits vs e) ++ inputs_of vs n rest) (m ∙ z)
      ∙ append_assoc (map (view_bit vs) old.inputs.items) (bits vs e) (inputs_of vs 0 rest) ∙ ap (λ n. map (view_bit vs) old.inputs.items ++ inputs_of vs n (e ∷ rest)) (sym z),
)

pub output-added : (vs : List Variable) (e : Expression) (old new : TerminalBits) → old.outputs_to_come ≡ new.outputs_to_come + 1 → new.inputs.items ≡ old.inputs.items
    → map (view_bit vs) new.outputs.items ≡ map (view_bit vs) old.outputs.items ++ only_bit (bits vs e) → AddsTerminals vs (e ∷ []) old new
output-added vs e old new m i o =
    let s : suc new.outputs_to_come ≡ old.outputs_to_come = omega arith in
    λ rest. (
      ap (λ xs. xs ++ outputs_of vs new.outputs_to_come rest) o ∙ append_assoc (map (view_bit vs) old.outputs.items) (only_bit (bits vs e)) (outputs_of vs new.outputs_to_come rest)
          ∙ ap (λ n. map (view_bit vs) old.outputs.items ++ outputs_of vs n (e ∷ rest)) s,
      ap (λ xs. map (view_bit vs) xs ++ inputs_of vs new.outputs_to_come rest) i ∙ ap (λ n. map (view_bit vs) old.inputs.items ++ inputs_of vs n (e ∷ rest)) s,
    )

-- ---- one after another

-- with those that are left, all will have come
abbrev pub AreComing : List Variable → List Expression → List Expression → TerminalBits → TerminalBits → Type 0
AreComing vs all left old now = (rest : List Expression) → (all_outputs vs now (left ++ rest) ≡ all_outputs vs old (all ++ rest)) × (all_inputs vs now (left ++ rest) ≡ all_inputs vs old (all ++ rest))

pub none-yet : (vs : List Variable) (all : List Expression) (old : TerminalBits) → AreComing vs all all old old
none-yet vs all old = λ rest. (refl, refl)

next-come : (vs : List Variable) (all left piece later : List Expression) (old now new : TerminalBits) → left ≡ piece ++ later → AddsTerminals vs piece now new → AreComing vs all left old now
    → AreComing vs all later old new
next-come vs all left piece later old now new e adds h = λ rest.
    let a = adds (later ++ rest) in
    let b = h rest in
    let s : piece ++ (later ++ rest) ≡ left ++ rest = sym (append_assoc piece later rest) ∙ ap (λ xs. xs ++ rest) (sym e) in
    (a.0 ∙ ap (all_outputs vs now) s ∙ b.0, a.1 ∙ ap (all_inputs vs now) s ∙ b.1)

pub all-come : {A : Type 0} (vs : List Variable) (F : List A → List Expression) (xs : List A) (i : ℕ) (old now : TerminalBits) → F [] ≡ [] → length xs ≤ i → AreComing vs (F xs) (F (drop i xs)) old now
    → AddsTerminals vs (F xs) old now
all-come vs F xs i old now z le h = λ rest.
    let s : rest ≡ F (drop i xs) ++ rest = ap (λ ys. ys ++ rest) (sym (ap F (drop_all i xs le) ∙ z)) in
    let b = h rest in
    (ap (all_outputs vs now) s ∙ b.0, ap (all_inputs vs now) s ∙ b.1)

pub one-come : {A : Type 0} (vs : List Variable) (F : List A → List Expression) (piece : A → List Expression) → ((y : A) (ys : List A) → F (y ∷ ys) ≡ piece y ++ F ys)
    → (xs : List A) (i : ℕ) (x : A) (old now new : TerminalBits) → i < length xs
    → x ≡ slice_index_or xs i x → AddsTerminals vs (piece x) now new → AreComing vs (F xs) (F (drop i xs)) old now → AreComing vs (F xs) (F (drop (i + 1) xs)) old new
one-come vs F piece h xs i x old now new lt e adds coming =
    let n : suc i ≡ i + 1 = omega arith in
    next-come vs (F xs) (F (drop i xs)) (piece x) (F (drop (i + 1) xs)) old now new
    (ap F (drop-cons xs i x lt) ∙ h (slice_index_or xs i x) (drop (suc i) xs) ∙ ap (λ y. piece y ++ F (drop (suc i) xs)) (sym e) ∙ ap (λ k. piece x ++ F (drop k xs)) n) adds coming

-- what is connected in order, and by name
abbrev pub ordered_of : List (Option code_expression.Expression) → List Expression
ordered_of xs = filter_map (λ e. e) (map (option_map view_expression) xs)

abbrev pub named_of : List code_connection.NamedConnection → List Expression
named_of xs = filter_map (λ c. c.value) (map view_named_connection xs)

kept-cons : (o : Option Expression) (es : List Expression) → cons_option o es ≡ option_to_list o ++ es
kept-cons None es = refl
kept-cons (Some e) es = refl

pub ordered-cons : (y : Option code_expression.Expression) (ys : List (Option code_expression.Expression)) → ordered_of (y ∷ ys) ≡ option_to_list (option_map view_expression y) ++ ordered_of ys
ordered-cons y ys = kept-cons (option_map view_expression y) (ordered_of ys)

pub named-cons : (y : code_connection.NamedConnection) (ys : List code_connection.NamedConnection) → named_of (y ∷ ys) ≡ option_to_list (option_map view_expression y.value) ++ named_of ys
named-cons y ys = kept-cons (option_map view_expression y.value) (named_of ys)

-- ---- and all have come

no-outputs : (vs : List Variable) (n : ℕ) → outputs_of vs n [] ≡ []
no-outputs vs zero = refl
no-outputs vs (suc n) = refl

no-inputs : (vs : List Variable) (n : ℕ) → inputs_of vs n [] ≡ []
no-inputs vs zero = refl
no-inputs vs (suc n) = refl

pub has-bits : (vs : List Variable) (count : ℕ) (es : List Expression) (begun new : TerminalBits) → begun.outputs_to_come ≡ count → begun.outputs.items ≡ [] → begun.inputs.items ≡ []
    → AddsTerminals vs es begun new → HasBits vs count es new
has-bits vs count es begun new n o i adds =
    let a = adds [] in
    let whole = append-nil es in
    record {
      outputs = sym (append-nil (map (view_bit vs) new.outputs.items)) ∙ ap (λ xs. map (view_bit vs) new.outputs.items ++ xs) (sym (no-outputs vs new.outputs_to_come)) ∙ a.0
          ∙ ap (λ xs. map (view_bit vs) xs ++ outputs_of vs begun.outputs_to_come (es ++ [])) o ∙ ap (outputs_of vs begun.outputs_to_come) whole ∙ ap (λ k. outputs_of vs k es) n;
      inputs = sym (append-nil (map (view_bit vs) new.inputs.items)) ∙ ap (λ xs. map (view_bit vs) new.inputs.items ++ xs) (sym (no-inputs vs new.outputs_to_come)) ∙ a.1
          ∙ ap (λ xs. map (view_bit vs) xs ++ inputs_of vs begun.outputs_to_come (es ++ [])) i ∙ ap (inputs_of vs begun.outputs_to_come) whole ∙ ap (λ k. inputs_of vs k es) n;
    }
