-- The places of the inputs of a leaf, as they are collected.
use Rattle.std.specs.Prelude.{◌≡◌, ℕ, ◌<◌, List, [], ◌++◌, true, All, Option, map, length}
use Rattle.std.specs.List.{filter, range_with_len}
use Rattle.std.proofs.Common.{◌∙◌, ap, arith}
use Rattle.std.proofs.lemmas.List.Elements.{All-same, All-from_recursion, recursion_from_All}
use Rattle.elab_model.specs.Names.{Variable}
use Rattle.elab_laws.specs.Handing.{all_bits}
use Rattle.elab_laws.proofs.Lists.{all-append, all-map, all-weaker, all-range}
use Rattle.elab_bits.specs.declared.bits.Bit as code_bit
use Rattle.elab_ports.specs.declared.constants.PortConstant as code_constant
use Rattle.elab_nets.specs.Inputs.{is_input_at, is_free_at}
use Rattle.elab_nets.proofs.Filters.{all-filter}
use Rattle.elab_nets.proofs.OutsideNets.{input_places}

pub places-made : (vs : List Variable) (bits seen : List (Option code_bit.Bit)) (ks listed : List code_constant.PortConstant) (start one two : List ℕ) → start ≡ []
    → one ≡ start ++ filter (is_free_at vs seen) (range_with_len 0 (length (all_bits vs))) → seen ≡ bits → two ≡ one ++ filter (is_input_at vs) (map (λ k. k.bit) listed) → listed ≡ ks
    → two ≡ input_places vs bits ks
places-made vs bits seen ks listed start one two none o e t f =
    let places = range_with_len 0 (length (all_bits vs)) in
    let first : one ≡ filter (is_free_at vs bits) places = o ∙ ap (λ xs. xs ++ filter (is_free_at vs seen) places) none ∙ ap (λ bits. filter (is_free_at vs bits) places) e in
    t ∙ ap (λ xs. xs ++ filter (is_input_at vs) (map (λ k. k.bit) listed)) first ∙ ap (λ ks. filter (is_free_at vs bits) places ++ filter (is_input_at vs) (map (λ k. k.bit) ks)) f

pub places-within : (vs : List Variable) (bits : List (Option code_bit.Bit)) (ks : List code_constant.PortConstant) (places : List ℕ) → places ≡ input_places vs bits ks
    → All (λ k. k.bit < length (all_bits vs)) ks → All (λ i. i < length (all_bits vs)) places
places-within vs bits ks places e h =
    let n = length (all_bits vs) in
    let P : ℕ → Type 0 = λ (i : ℕ). i < n in
    let free = filter (is_free_at vs bits) (range_with_len 0 n) in
    let constants = filter (is_input_at vs) (map (λ k. k.bit) ks) in
    All-same P places (input_places vs bits ks) e
    (All-from_recursion P (input_places vs bits ks)
    (all-append P free constants (all-filter P (is_free_at vs bits) (range_with_len 0 n) (all-weaker P (λ i. is_free_at vs bits i ≡ true → P i) (range_with_len 0 n) (λ i lt e. lt) (all-range n 0 n (omega arith))))
    (all-filter P (is_input_at vs) (map (λ k. k.bit) ks)
    (all-map (λ i. is_input_at vs i ≡ true → P i) (λ k. k.bit) ks (all-weaker (λ k. k.bit < n) (λ k. is_input_at vs k.bit ≡ true → k.bit < n) ks (λ k lt e. lt) (recursion_from_All (λ k. k.bit < n) ks h))))))
