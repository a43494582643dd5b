-- Styles that are chosen one after another.
use Rattle.std.specs.Prelude.{◌≡◌, ℕ, suc, ◌+◌, ◌<◌, ◌≤◌, ◌==◌, ◌||◌, List, [], ◌∷◌, ◌++◌, Bool, true, false, cond, Option, Some, None, unwrap_or, filter_map, length, map, slice_index_or, take, refl, if◌then◌else◌}
use Rattle.std.specs.List.{list_any, last_or}
use Rattle.std.specs.Option.{option_or}
use Rattle.std.proofs.Common.{sym, ◌∙◌, ap, arith}
use Rattle.std.proofs.lemmas.List.{map-append, take_more, take_all}
use Rattle.std.proofs.lemmas.List.Folds.{list_any-append}
use Rattle.elab_laws.specs.Handing.{all_bits}
use Rattle.elab_laws.proofs.Apart.{numbers-either}
use Rattle.elab_model.specs.Names.{Variable}
use Rattle.sg_delay.specs.declared.limits.PulseStyle.{PulseStyle}
use Rattle.sg_delay.specs.declared.limits.PulseStyle.TheVariants.{OnEvent}
use Rattle.specify_model.specs.Blocks.{StyleText}
use Rattle.specify_model.specs.Outputs.{names_bit, style_of, chosen_style}
use Rattle.elab_model.specs.Terms.{NetBit, is_same_bit, terms_bits}
use Rattle.specify_values.specs.Seen.{view_style}
use Rattle.specify_values.specs.declared.items.StyleText as code
use Rattle.elab_ends.specs.Seen.{AreApart, AreInRow, bit_seen, bits_seen}
use Rattle.specify_paths.specs.Words.{with_style}

-- ---- one bit more in a table

abbrev style_in : (ℕ → Option PulseStyle) → ℕ → PulseStyle
style_in t i = unwrap_or (t i) OnEvent

or-more : (a b : Bool) → (b || (a || false)) ≡ (if a then true else b)
or-more true true = refl
or-more true false = refl
or-more false true = refl
or-more false false = refl

pub next-chosen : (old new : ℕ → Option PulseStyle) (first : ℕ → PulseStyle) (s : PulseStyle) (bits : List ℕ) (k d : ℕ) → k < length bits → ((q : ℕ) → new q ≡ cond (slice_index_or bits k d == q) (Some s) (old q))
    → ((i : ℕ) → style_in old i ≡ with_style first s (take k bits) i) → (i : ℕ) → style_in new i ≡ with_style first s (take (k + 1) bits) i
next-chosen old new first s bits k d lt put h i =
    ap (λ o. unwrap_or o OnEvent) (put i) ∙ by (slice_index_or bits k d == i) ∙ sym (ap (λ t. if t then s else first i) more)
  where
    more : list_any (λ n. i == n) (take (k + 1) bits) ≡ (if slice_index_or bits k d == i then true else list_any (λ n. i == n) (take k bits))
    more =
        ap (list_any (λ n. i == n)) (take_more bits k d lt) ∙ list_any-append (λ n. i == n) (take k bits) (slice_index_or bits k d ∷ [])
        ∙ or-more (i == slice_index_or bits k d) (list_any (λ n. i == n) (take k bits)) ∙ ap (λ t. if t then true else list_any (λ n. i == n) (take k bits)) (numbers-either i (slice_index_or bits k d))

    by : (t : Bool) → unwrap_or (cond t (Some s) (old i)) OnEvent ≡ (if (if t then true else list_any (λ n. i == n) (take k bits)) then s else first i)
    by true = refl
    by false = h i

pub all-chosen : (new first : ℕ → PulseStyle) (s : PulseStyle) (bits : List ℕ) (k : ℕ) → length bits ≤ k → ((i : ℕ) → new i ≡ with_style first s (take k bits) i) → (i : ℕ) → new i ≡ with_style first s bits i
all-chosen new first s bits k le h i = h i ∙ ap (λ bs. with_style first s bs i) (take_all k bits le)

-- ---- places and bits

module _ (vs : List Variable) (apart : AreApart vs) where
  any-place : (i : ℕ) (ks : List ℕ) → i < length (all_bits vs) → AreInRow vs ks → list_any (λ k. i == k) ks ≡ list_any (is_same_bit (bit_seen vs i)) (bits_seen vs ks)
  any-place i [] h g = refl
  any-place i (k ∷ ks) h g = ap (λ b. b || list_any (λ k. i == k) ks) (sym (apart i k h (g 0 k (omega arith))))
      ∙ ap (λ b. is_same_bit (bit_seen vs i) (bit_seen vs k) || b) (any-place i ks h (λ j d lt. g (suc j) d (omega (arith, lt))))

  -- a choice that is made
  pub made : (s : StyleText) (c : PulseStyle) (bits : List ℕ) (first : ℕ → PulseStyle) (i : ℕ) → Some c ≡ chosen_style s.style → bits_seen vs bits ≡ terms_bits vs s.terms
      → AreInRow vs bits → i < length (all_bits vs) → with_style first c bits i ≡ unwrap_or (names_bit vs (bit_seen vs i) s) (first i)
  made s c bits first i is seen row lt =
      ap (λ t. if t then c else first i) (any-place i bits lt row ∙ ap (list_any (is_same_bit (bit_seen vs i))) seen) ∙ by (list_any (is_same_bit (bit_seen vs i)) (terms_bits vs s.terms))
    where
      by : (t : Bool) → (if t then c else first i) ≡ unwrap_or (if t then chosen_style s.style else None) (first i)
      by true = ap (λ o. unwrap_or o (first i)) is
      by false = refl

  -- one that isn't
  pub not-made : (s : StyleText) (first : PulseStyle) (b : NetBit) → None ≡ chosen_style s.style → first ≡ unwrap_or (names_bit vs b s) first
  not-made s first b is = by (list_any (is_same_bit b) (terms_bits vs s.terms))
    where
      by : (t : Bool) → first ≡ unwrap_or (if t then chosen_style s.style else None) first
      by true = ap (λ o. unwrap_or o first) is
      by false = refl

-- ---- one text more

last-one : (f : StyleText → Option PulseStyle) (o : Option PulseStyle) (xs : List StyleText) (x : StyleText) → last_or o (filter_map f (xs ++ x ∷ [])) ≡ option_or (f x) (last_or o (filter_map f xs))
last-one f o [] x = at (f x) refl
  where
    at : (r : Option PulseStyle) → f x ≡ r → last_or o (filter_map f (x ∷ [])) ≡ option_or r o
    at None e = rw e refl
    at (Some y) e = rw e refl
last-one f o (y ∷ xs) x = at (f y) refl (last-one f o xs x) (λ z. last-one f (Some z) xs x)
  where
    at : (r : Option PulseStyle) → f y ≡ r → last_or o (filter_map f (xs ++ x ∷ [])) ≡ option_or (f x) (last_or o (filter_map f xs))
        → ((z : PulseStyle) → last_or (Some z) (filter_map f (xs ++ x ∷ [])) ≡ option_or (f x) (last_or (Some z) (filter_map f xs)))
        → last_or o (filter_map f (y ∷ (xs ++ x ∷ []))) ≡ option_or (f x) (last_or o (filter_map f (y ∷ xs)))
    at None e h g = rw e h
    at (Some z) e h g = rw e (g z)

or-default : (a o : Option PulseStyle) → unwrap_or (option_or a o) OnEvent ≡ unwrap_or a (unwrap_or o OnEvent)
or-default None o = refl
or-default (Some x) o = refl

pub next-style : (vs : List Variable) (xs : List code.StyleText) (k : ℕ) (d : code.StyleText) (old new : PulseStyle) (b : NetBit) → k < length xs → old ≡ style_of vs (map view_style (take k xs)) b
    → new ≡ unwrap_or (names_bit vs b (view_style (slice_index_or xs k d))) old → new ≡ style_of vs (map view_style (take (k + 1) xs)) b
next-style vs xs k d old new b lt h e =
    let x = slice_index_or xs k d in
    e ∙ ap (unwrap_or (names_bit vs b (view_style x))) h ∙ sym (or-default (names_bit vs b (view_style x)) (last_or None (filter_map (names_bit vs b) (map view_style (take k xs)))))
    ∙ ap (λ o. unwrap_or o OnEvent) (sym (last-one (names_bit vs b) None (map view_style (take k xs)) (view_style x)))
    ∙ ap (λ ss. style_of vs ss b) (sym (ap (map view_style) (take_more xs k d lt) ∙ map-append view_style (take k xs) (x ∷ [])))

pub all-styles : (vs : List Variable) (xs : List code.StyleText) (k : ℕ) (s : PulseStyle) (b : NetBit) → length xs ≤ k → s ≡ style_of vs (map view_style (take k xs)) b → s ≡ style_of vs (map view_style xs) b
all-styles vs xs k s b le h = h ∙ ap (λ ys. style_of vs (map view_style ys) b) (take_all k xs le)
