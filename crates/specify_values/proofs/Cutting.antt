-- The cuts of a text at its $, from a place on.
use Rattle.std.specs.Prelude.{◌≡◌, ℕ, suc, ◌+◌, ◌<◌, ◌≤◌, ◌==◌, ◌&&◌, List, [], ◌∷◌, ◌++◌, Bool, true, false, Option, Some, None, find, length, map, slice_index_or, take, drop, refl, if◌then◌else◌}
use Rattle.std.proofs.Common.{sym, ◌∙◌, ap, arith, drop-cons, append-nil, append_assoc}
use Rattle.std.proofs.lemmas.List.{take_more, drop_all}
use Rattle.elab_model.specs.Names.{Variable}
use Rattle.specify_model.specs.PulseLimits.{dollar, cuts, are_ports}
use Rattle.specify_values.specs.Seen.{is_divided}

-- with what stands in front
abbrev with_front : List ℕ → List ℕ × List ℕ → List ℕ × List ℕ
with_front front c = (front ++ c.0, c.1)

abbrev pub ends_from : List Variable → List ℕ → ℕ → Option (List ℕ × List ℕ)
ends_from vs text at = find (are_ports vs) (map (with_front (take at text)) (cuts (drop at text)))

pub all-ends : (vs : List Variable) (text : List ℕ) → ends_from vs text 0 ≡ find (are_ports vs) (cuts text)
all-ends vs text = ap (find (are_ports vs)) (same (cuts text))
  where
    same : (cs : List (List ℕ × List ℕ)) → map (with_front []) cs ≡ cs
    same [] = refl
    same (c ∷ cs) = ap (λ ds. c ∷ ds) (same cs)

further : (front : List ℕ) (b : ℕ) (cs : List (List ℕ × List ℕ)) → map (with_front front) (map (λ c. (b ∷ c.0, c.1)) cs) ≡ map (with_front (front ++ b ∷ [])) cs
further front b [] = refl
further front b (c ∷ cs) = ap (λ x. (x, c.1) ∷ map (with_front front) (map (λ c. (b ∷ c.0, c.1)) cs)) (sym (append_assoc front (b ∷ []) c.0)) ∙ ap (λ ds. with_front (front ++ b ∷ []) c ∷ ds) (further front b cs)

-- at one byte
at-byte : (vs : List Variable) (front : List ℕ) (b : ℕ) (bs : List ℕ)
    → find (are_ports vs) (map (with_front front) (cuts (b ∷ bs))) ≡ (if (b == dollar) && are_ports vs (front, bs) then Some (front, bs) else find (are_ports vs) (map (with_front (front ++ b ∷ [])) (cuts bs)))
at-byte vs front b bs = by (b == dollar)
  where
    rest : find (are_ports vs) (map (with_front front) (map (λ c. (b ∷ c.0, c.1)) (cuts bs))) ≡ find (are_ports vs) (map (with_front (front ++ b ∷ [])) (cuts bs))
    rest = ap (find (are_ports vs)) (further front b (cuts bs))

    by : (t : Bool) → find (are_ports vs) (map (with_front front) ((if t then ([], bs) ∷ [] else []) ++ map (λ c. (b ∷ c.0, c.1)) (cuts bs)))
        ≡ (if t && are_ports vs (front, bs) then Some (front, bs) else find (are_ports vs) (map (with_front (front ++ b ∷ [])) (cuts bs)))
    by true =
        ap (λ f. if are_ports vs (f, bs) then Some (f, bs) else find (are_ports vs) (map (with_front front) (map (λ c. (b ∷ c.0, c.1)) (cuts bs)))) (append-nil front)
        ∙ ap (λ o. if are_ports vs (front, bs) then Some (front, bs) else o) rest
    by false = rest

step : (vs : List Variable) (text : List ℕ) (at : ℕ) → at < length text
    → ends_from vs text at ≡ (if is_divided vs text at then Some (take at text, drop (at + 1) text) else ends_from vs text (at + 1))
step vs text at lt =
    let n : suc at ≡ at + 1 = omega arith in
    let b = slice_index_or text at 0 in
    ap (λ rest. find (are_ports vs) (map (with_front (take at text)) (cuts rest))) (drop-cons text at 0 lt ∙ ap (λ k. b ∷ drop k text) n)
    ∙ at-byte vs (take at text) b (drop (at + 1) text)
    ∙ ap (λ f. if is_divided vs text at then Some (take at text, drop (at + 1) text) else find (are_ports vs) (map (with_front f) (cuts (drop (at + 1) text)))) (sym (take_more text at 0 lt))

pub found-ends : (vs : List Variable) (text : List ℕ) (at : ℕ) → at < length text → is_divided vs text at ≡ true → ends_from vs text at ≡ find (are_ports vs) (cuts text)
    → Some (take at text, drop (at + 1) text) ≡ find (are_ports vs) (cuts text)
found-ends vs text at lt t h = sym (step vs text at lt ∙ ap (λ b. if b then Some (take at text, drop (at + 1) text) else ends_from vs text (at + 1)) t) ∙ h

pub ends-left : (vs : List Variable) (text : List ℕ) (at : ℕ) → at < length text → is_divided vs text at ≡ false → ends_from vs text at ≡ find (are_ports vs) (cuts text)
    → ends_from vs text (at + 1) ≡ find (are_ports vs) (cuts text)
ends-left vs text at lt t h = sym (step vs text at lt ∙ ap (λ b. if b then Some (take at text, drop (at + 1) text) else ends_from vs text (at + 1)) t) ∙ h

pub no-ends : (vs : List Variable) (text : List ℕ) (at : ℕ) → length text ≤ at → ends_from vs text at ≡ find (are_ports vs) (cuts text) → None ≡ find (are_ports vs) (cuts text)
no-ends vs text at le h = sym (ap (λ rest. find (are_ports vs) (map (with_front (take at text)) (cuts rest))) (drop_all at text le)) ∙ h
