-- Where the bits of a variable stand in the row of all bits.
use Rattle.std.specs.Prelude.{◌≡◌, ℕ, ◌+◌, ◌<◌, ◌≤◌, List, [], ◌∷◌, false, None, length, take, slice_index_or}
use Rattle.std.proofs.Common.{sym, ◌∙◌, ap, arith, subst, length-append}
use Rattle.std.proofs.lemmas.Grind.{flat_map-append}
use Rattle.std.proofs.lemmas.List.{append-nil, take_more}
use Rattle.std.proofs.lemmas.List.Concat.{get_or-flat_map}
use Rattle.std.proofs.lemmas.List.Folds.{length-flat_map-take}
use Rattle.std.proofs.lemmas.List.FromFn.{length-map-range_with_len, get_or-map-range_with_len}
use Rattle.sg_circuit.specs.Closed.{width_of}
use Rattle.sg_circuit.specs.declared.scopes.Port.TheVariants as port
use Rattle.elab_model.specs.Names.{Variable}
use Rattle.elab_variables.specs.Handing.{variable_bits, all_bits}
use Rattle.elab_variables.specs.Seen.{variable_at}

-- what stands past the end
abbrev pub blank : Variable
blank = record { name = []; range = None; is_reg = false; port = port.Inner }

pub width-is : (v : Variable) → length (variable_bits v) ≡ width_of v.range
width-is v = length-map-range_with_len (λ p. (v, p)) 0 (width_of v.range)

pub bit-is : (v : Variable) (p : ℕ) (d : Variable × ℕ) → p < width_of v.range → slice_index_or (variable_bits v) p d ≡ (v, p)
bit-is v p d lt = get_or-map-range_with_len (λ k. (v, k)) 0 (width_of v.range) p p d lt (omega arith)

-- a bit stands behind those of the variables before its own
pub place-is : (vs : List Variable) (i p : ℕ) (d : Variable × ℕ) → i < length vs → p < width_of (variable_at vs i).range
    → slice_index_or (all_bits vs) (length (all_bits (take i vs)) + p) d ≡ (variable_at vs i, p)
place-is vs i p d lt below =
    let within : p < length (variable_bits (variable_at vs i)) = subst (λ w. p < w) (sym (width-is (variable_at vs i))) below in
    get_or-flat_map variable_bits vs i p blank d lt within ∙ bit-is (variable_at vs i) p d below

-- the bits of one variable more
pub start-next : (vs : List Variable) (i : ℕ) → i < length vs → length (all_bits (take (i + 1) vs)) ≡ length (all_bits (take i vs)) + width_of (variable_at vs i).range
start-next vs i lt =
    ap (λ xs. length (all_bits xs)) (take_more vs i blank lt) ∙ ap length (flat_map-append variable_bits (take i vs) (variable_at vs i ∷ []))
    ∙ length-append (all_bits (take i vs)) (all_bits (variable_at vs i ∷ [])) ∙ ap (λ xs. length (all_bits (take i vs)) + length xs) (append-nil (variable_bits (variable_at vs i)))
    ∙ ap (λ w. length (all_bits (take i vs)) + w) (width-is (variable_at vs i))

pub stands-within : (vs : List Variable) (i : ℕ) → i < length vs → length (all_bits (take i vs)) + width_of (variable_at vs i).range ≤ length (all_bits vs)
stands-within vs i lt = subst (λ w. length (all_bits (take i vs)) + w ≤ length (all_bits vs)) (width-is (variable_at vs i)) (length-flat_map-take variable_bits vs i blank lt)

pub span-within : (vs : List Variable) (i start width : ℕ) → i < length vs → start ≡ length (all_bits (take i vs)) → width ≡ width_of (variable_at vs i).range → start + width ≤ length (all_bits vs)
span-within vs i start width lt s w = rw (s, w) (stands-within vs i lt)
