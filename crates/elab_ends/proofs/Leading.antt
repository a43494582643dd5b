-- The bits to which a path leads, each where it stands first.
use Rattle.std.specs.Prelude.{◌≡◌, ℕ, List, [], ◌∷◌, ◌++◌, Bool, true, false, ◌||◌, filter, flat_map, length, map, refl, take, zip, if◌then◌else◌}
use Rattle.std.specs.List.{AllByRecursion}
use Rattle.std.proofs.Common.{arith, sym, ◌∙◌, ap, subst, append-nil}
use Rattle.std.proofs.lemmas.List.{map-append, take_all}
use Rattle.std.proofs.lemmas.List.Elements.{filter-append}
use Rattle.std.proofs.lemmas.List.Folds.{list_any-append}
use Rattle.vl_tree.specs.declared.paths.Arrow.{Arrow}
use Rattle.vl_tree.specs.declared.paths.Arrow.TheVariants.{Parallel, Full}
use Rattle.vl_tree.specs.Tree.{SpecifyPath}
use Rattle.elab_laws.proofs.Ends.{is_one_of, in-one_of, one-of_in, first_bits-append}
use Rattle.elab_laws.proofs.Lists.{all-append, all-in, all-weaker}
use Rattle.elab_laws.proofs.NoFaults.{all-from}
use Rattle.elab_model.specs.Ends.{first_bits}
use Rattle.elab_model.specs.Names.{Variable}
use Rattle.elab_model.specs.Terms.{NetBit, is_same_bit, pairs, path_pairs, terms_bits}
use Rattle.elab_ends.specs.Seen.{bit_seen, bits_seen}
use Rattle.elab_ends.specs.Words.{AreAlike, LeadsTo, lead_count}

-- bits that are all seen add none
pub none-new : (seen bs : List NetBit) → AllByRecursion (λ b. is_one_of b seen ≡ true) bs → first_bits seen bs ≡ []
none-new seen [] h = refl
none-new seen (b ∷ bs) h = ap (λ t. if t then first_bits seen bs else b ∷ first_bits (b ∷ seen) bs) h.0 ∙ none-new seen bs h.1

-- bits that stand before already
pub alike-more : (xs ys : List NetBit) → AllByRecursion (λ b. is_one_of b xs ≡ true) ys → AreAlike (xs ++ ys) xs
alike-more xs ys h = record {
  same = λ b. list_any-append (is_same_bit b) xs ys ∙ one b (is_one_of b xs) refl (is_one_of b ys) refl;
  firsts = λ seen.
      first_bits-append seen xs ys
      ∙ ap (λ zs. first_bits seen xs ++ zs)
      (none-new (seen ++ xs) ys (all-weaker (λ b. is_one_of b xs ≡ true) (λ b. is_one_of b (seen ++ xs) ≡ true) ys (λ b e. list_any-append (is_same_bit b) seen xs ∙ or-true (is_one_of b seen) (is_one_of b xs) e) h))
      ∙ append-nil (first_bits seen xs);
}
  where
    or-true : (x y : Bool) → y ≡ true → (x || y) ≡ true
    or-true true y e = refl
    or-true false y e = e

    one : (b : NetBit) (x : Bool) → is_one_of b xs ≡ x → (y : Bool) → is_one_of b ys ≡ y → (is_one_of b xs || is_one_of b ys) ≡ is_one_of b xs
    one b true e y f = ap (λ t. t || is_one_of b ys) e ∙ sym e
    one b false e true f = let g : is_one_of b xs ≡ true = all-in (λ c. is_one_of c xs ≡ true) b ys h (in-one_of b ys f) in cc
    one b false e false f = ap (λ t. t || is_one_of b ys) e ∙ f ∙ sym e

pub alike-same : (xs ys : List NetBit) → xs ≡ ys → AreAlike xs ys
alike-same xs ys e = subst (AreAlike xs) e (record { same = λ b. refl; firsts = λ seen. refl })

-- ---- bit by bit

zipped : (vs : List Variable) (is os : List ℕ) → map (λ (e : NetBit × NetBit). e.1) (zip (bits_seen vs is) (bits_seen vs os)) ≡ bits_seen vs (take (length is) os)
zipped vs [] [] = refl
zipped vs [] (o ∷ os) = refl
zipped vs (i ∷ is) [] = refl
zipped vs (i ∷ is) (o ∷ os) = ap (λ bs. bit_seen vs o ∷ bs) (zipped vs is os)

-- ---- from each to each

seconds : (i : NetBit) (os : List NetBit) → map (λ (e : NetBit × NetBit). e.1) (map (λ o. (i, o)) os) ≡ os
seconds i [] = refl
seconds i (o ∷ os) = ap (λ bs. o ∷ bs) (seconds i os)

module _ (test : NetBit → Bool) (os : List NetBit) where
  abbrev all_seconds : List NetBit → List NetBit
  all_seconds is = filter test (map (λ (e : NetBit × NetBit). e.1) (flat_map (λ i. map (λ o. (i, o)) os) is))

  one-more : (i : NetBit) (is : List NetBit) → all_seconds (i ∷ is) ≡ filter test os ++ all_seconds is
  one-more i is =
      ap (filter test) (map-append (λ (e : NetBit × NetBit). e.1) (map (λ o. (i, o)) os) (flat_map (λ i. map (λ o. (i, o)) os) is))
      ∙ filter-append test (map (λ (e : NetBit × NetBit). e.1) (map (λ o. (i, o)) os)) (map (λ (e : NetBit × NetBit). e.1) (flat_map (λ i. map (λ o. (i, o)) os) is))
      ∙ ap (λ bs. filter test bs ++ all_seconds is) (seconds i os)

  covered : (is : List NetBit) → AllByRecursion (λ b. is_one_of b (filter test os) ≡ true) (all_seconds is)
  covered [] = tt
  covered (i ∷ is) =
      subst (AllByRecursion (λ b. is_one_of b (filter test os) ≡ true)) (sym (one-more i is))
      (all-append (λ b. is_one_of b (filter test os) ≡ true) (filter test os) (all_seconds is) (all-from (λ b. is_one_of b (filter test os) ≡ true) (filter test os) (λ b h. one-of_in b (filter test os) h)) (covered is))

  each-alike : (i : NetBit) (is : List NetBit) → AreAlike (all_seconds (i ∷ is)) (filter test os)
  each-alike i is = subst (λ bs. AreAlike bs (filter test os)) (sym (one-more i is)) (alike-more (filter test os) (all_seconds is) (covered is))

-- ---- a path

led : (vs : List Variable) (a : Arrow) (is os : List ℕ) (test : NetBit → Bool)
    → AreAlike (filter test (map (λ (e : NetBit × NetBit). e.1) (pairs a (bits_seen vs is) (bits_seen vs os)))) (filter test (bits_seen vs (take (lead_count a is os) os)))
led vs Parallel is os test = alike-same _ _ (ap (filter test) (zipped vs is os))
led vs Full [] os test = alike-same [] [] refl
led vs Full (i ∷ is) os test =
    subst (λ ps. AreAlike (all_seconds test (bits_seen vs os) (bits_seen vs (i ∷ is))) (filter test (bits_seen vs ps))) (sym (take_all (length os) os (omega arith)))
    (each-alike test (bits_seen vs os) (bit_seen vs i) (bits_seen vs is))

pub leads-to : (vs : List Variable) (p : SpecifyPath) (is os new : List ℕ) (n : ℕ) → bits_seen vs is ≡ terms_bits vs p.sources → bits_seen vs os ≡ terms_bits vs p.destination.terms
    → n ≡ lead_count p.arrow is os → new ≡ take n os → LeadsTo vs p (bits_seen vs new)
leads-to vs p is os new n i o c e = λ test.
    subst (λ ps. AreAlike (filter test (map (λ (e : NetBit × NetBit). e.1) (path_pairs vs p))) (filter test (bits_seen vs ps))) (sym (e ∙ ap (λ k. take k os) c))
    (subst (λ bs. AreAlike (filter test (map (λ (e : NetBit × NetBit). e.1) (pairs p.arrow (terms_bits vs p.sources) bs))) (filter test (bits_seen vs (take (lead_count p.arrow is os) os)))) o
    (subst (λ bs. AreAlike (filter test (map (λ (e : NetBit × NetBit). e.1) (pairs p.arrow bs (bits_seen vs os)))) (filter test (bits_seen vs (take (lead_count p.arrow is os) os)))) i (led vs p.arrow is os test)))
