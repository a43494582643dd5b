-- The lines of a block, as they are written.
use Rattle.std.proofs.Common.{◌≡◌, ◌∙◌, sym, ap, ℕ, ◌+◌, ◌<◌, List, [], ◌∷◌, ◌++◌, length, take, get_or, map, append_assoc}
use Rattle.std.proofs.lemmas.List.{map-append, take_more}
use Rattle.std.proofs.lemmas.Option.{get_or_from_slice_get}
use Rattle.std.specs.Prelude.{Some, slice_get}
use Rattle.sg_logic.specs.declared.values.Value.{Value}
use Rattle.sg_logic.specs.declared.values.Value.TheVariants.{X}
use Rattle.sg_model.specs.Values.{value_at}
use Rattle.wave_out.specs.Vcd.{value_letter, values_at}

-- one letter more
pub letters_more : (start text more : List ℕ) (values : List Value) (bits : List ℕ) (i net letter : ℕ) (v : Value) → i < length bits → net ≡ get_or bits i 0 → slice_get values net ≡ Some v → letter ≡ value_letter v
    → text ≡ start ++ map value_letter (values_at (take i bits) values) → more ≡ text ++ letter ∷ [] → more ≡ start ++ map value_letter (values_at (take (i + 1) bits) values)
letters_more start text more values bits i net letter v l n got is e m =
    let one : letter ≡ value_letter (value_at values (get_or bits i 0)) = is ∙ ap value_letter (sym (get_or_from_slice_get values net v X got) ∙ ap (value_at values) n) in
    m ∙ (ap (λ t. t ++ letter ∷ []) e
    ∙ (ap (λ x. start ++ map value_letter (values_at (take i bits) values) ++ x ∷ []) one
    ∙ (append_assoc start (map value_letter (values_at (take i bits) values)) (value_letter (value_at values (get_or bits i 0)) ∷ [])
    ∙ ap (λ t. start ++ t) (sym (ap (λ ns. map value_letter (values_at ns values)) (take_more bits i 0 l)
    ∙ (ap (map value_letter) (map-append (value_at values) (take i bits) (get_or bits i 0 ∷ []))
    ∙ map-append value_letter (values_at (take i bits) values) (value_at values (get_or bits i 0) ∷ [])))))))
