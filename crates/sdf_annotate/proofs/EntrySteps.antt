-- One entry more, as the code comes to it.
use Rattle.std.specs.Prelude.{◌≡◌, refl, ℕ, ℤ, suc, ◌==◌, ◌&&◌, ◌||◌, not, Bool, true, false, List, [], ◌∷◌, ◌++◌, length, Result, Err, IfErr}
use Rattle.std.specs.List.{list_any}
use Rattle.std.proofs.Common.{ap, sym, ◌∙◌, subst, arith}
use Rattle.std.proofs.lemmas.Bool.{or_from, or_left, or_right}
use Rattle.std.proofs.lemmas.Bool.Decides.{nat_tests}
use Rattle.sg_text.specs.declared.places.Place.{Place}
use Rattle.sg_delay.specs.declared.corners.Corner.{Corner}
use Rattle.sg_circuit.specs.Circuit.{Circuit}
use Rattle.sdf_tree.specs.Meant.{Sdf}
use Rattle.annotation_model.specs.Annotated.{told_of, word_of}
use Rattle.annotation_model.specs.Finding.{check_at, is_found_check, is_found_spot, spot_at}
use Rattle.annotation_model.specs.Given.{Given}
use Rattle.annotation_model.specs.Listed.{IsListOf, written}
use Rattle.annotation_model.specs.Passes.{meets_large}
use Rattle.annotation_model.specs.Progress.{IsTooLarge}
use Rattle.annotation_model.specs.Spots.{all_checked, applied_at, is_for_check, is_for_spot, is_large_at, is_limit_large_at, limits_with, spot_after, spots}
use Rattle.annotation_model.proofs.EntryLaws.{checks-large, checks-more, is_some_listed, something, spots-large, spots-more}
use Rattle.annotation_model.proofs.ProgressLaws.{fine-one, large-one, told_if, unmatched-more}
use Rattle.annotation_setting.specs.Table.{timings_seen}
use Rattle.sdf_annotate.specs.Progress.{AreSized, CameTo, HasAll, StoppedAt}
use Rattle.sdf_annotate.specs.Seen.{Told, check_with, is_check_large, is_spot_large, noted, spot_with}
use Rattle.sdf_annotate.specs.Told.{told_seen}
use Rattle.sdf_annotate.specs.declared.unmatched.AnnotError.{AnnotError}
use Rattle.sdf_annotate.specs.declared.unmatched.AnnotError.TheVariants.{TooLarge, NoMemory}
use Rattle.sdf_annotate.specs.declared.values.NewValues.{NewValues}
use Rattle.sdf_annotate.proofs.CheckLaws.{limits-met, limits-written}
use Rattle.sdf_annotate.proofs.TableSteps.{Table}

-- what an exit returns
pub exit_by : {A : Type 0} (Holds : AnnotError → Type 0) (result : Result A AnnotError) (e : AnnotError) → ((x : AnnotError) × (result ≡ Err x) × (x ≡ e)) → Holds e → IfErr result Holds
exit_by {A} Holds result e (x, r, s) h = subst (λ (a : Result A AnnotError). IfErr a Holds) (sym r) (subst Holds (sym s) h)

pub told_by : {P Q : Type 0} → (P → Q) → (place : Place) (e : AnnotError) → Told P place e → Told Q place e
told_by f place (TooLarge at) t = (f t.0, t.1)
told_by f place NoMemory t = tt

-- ---- whether an entry is for something

suc_not_zero : (n : ℕ) → (suc n == 0) ≡ false
suc_not_zero n = grind (arith, nat_tests)

some-is : (ks ls : List ℕ) → not ((length ks == 0) && (length ls == 0)) ≡ (is_some_listed ks || is_some_listed ls)
some-is [] [] = refl
some-is [] (l ∷ ls) = ap not (suc_not_zero (length ls))
some-is (k ∷ ks) ls = ap (λ b. not (b && (length ls == 0))) (suc_not_zero (length ks))

noted-is : (c : Circuit) (sdf : Sdf) (corner : Corner) (b : Bool) (g : Given) (place : Place) (word : List ℕ) → (place, word) ≡ told_of g → noted b place word ≡ told_if c sdf corner b g
noted-is c sdf corner true g place word e = refl
noted-is c sdf corner false g place word e = ap (λ x. x ∷ []) e

-- ---- one entry at all places that it is for

module _ (c : Circuit) (sdf : Sdf) (corner : Corner) (g : Given) (ks ls : List ℕ) (one : IsListOf (is_found_spot c sdf g) ks) (two : IsListOf (is_found_check c sdf g) ls) (old : NewValues) where
  abbrev pub meets-spots : Bool
  meets-spots = meets_large (is_spot_large c sdf corner g.entry) (spot_with c sdf corner g.entry) [] ks (timings_seen (spots c) old.timings.items)

  abbrev pub meets-checks : Bool
  meets-checks = meets_large (is_check_large c sdf corner g.entry.kind) (check_with c sdf corner g.entry.kind) [] ls old.limits.items

  abbrev pub spots-any : List Given → Bool
  spots-any done = list_any (λ spot. is_for_spot c sdf.divider g spot && is_large_at c sdf corner g spot (spot_after c sdf corner done spot)) (spots c)

  abbrev pub checks-any : Bool
  checks-any = list_any (λ k. is_for_check c sdf.divider g k && is_limit_large_at c sdf corner g k) (all_checked c)

  module _ (done : List Given) (h : HasAll c sdf corner done old) where
    spots-are : meets-spots ≡ spots-any done
    spots-are =
        ap (λ ts. meets_large (λ k ts. is_large_at c sdf corner g (spot_at c k) ts) (λ k ts. applied_at c sdf corner g (spot_at c k) ts) [] ks ts) h.each_spot
        ∙ spots-large c sdf corner done g ks one

    checks-are : meets-checks ≡ checks-any
    checks-are = limits-met c sdf corner g ls two old.limits.items
        ∙ (ap (λ xs. meets_large (λ k ls. is_limit_large_at c sdf corner g (check_at c k)) (λ k ls. limits_with c sdf corner g (check_at c k) ls) [] ls xs) h.each_check
        ∙ checks-large c sdf corner done g ls two)

  pub came-one : (new : NewValues) → meets-spots ≡ false → meets-checks ≡ false
      → timings_seen (spots c) new.timings.items ≡ written (spot_with c sdf corner g.entry) [] ks (timings_seen (spots c) old.timings.items)
      → new.limits.items ≡ written (check_with c sdf corner g.entry.kind) [] ls old.limits.items
      → (matched empty : Bool) → matched ≡ not empty → empty ≡ ((length ks == 0) && (length ls == 0))
      → (place : Place) (word : List ℕ) → (place, word) ≡ told_of g → told_seen new.unmatched.items ≡ told_seen old.unmatched.items ++ noted matched place word
      → AreSized c new → CameTo c sdf corner (g ∷ []) old new
  came-one new a b e f matched empty m n place word w t sized = record {
    tables = λ done h. record {
      each_spot = e ∙ (ap (λ ts. written (λ k ts. applied_at c sdf corner g (spot_at c k) ts) [] ks ts) h.each_spot ∙ spots-more c sdf corner done g ks one);
      each_check = f ∙ (limits-written c sdf corner g ls two old.limits.items
          ∙ (ap (λ xs. written (λ k ls. limits_with c sdf corner g (check_at c k) ls) [] ls xs) h.each_check ∙ checks-more c sdf corner done g ls two));
    };
    fine = λ done h. fine-one c sdf corner done g (or_from (spots-any done) checks-any (sym (spots-are done h) ∙ a) (sym (checks-are done h) ∙ b));
    told = t ∙ ap (λ xs. told_seen old.unmatched.items ++ xs)
        (noted-is c sdf corner matched g place word w ∙ (ap (λ b. told_if c sdf corner b g) (m ∙ (ap not n ∙ (some-is ks ls ∙ something c sdf corner [] g ks ls one two))) ∙ sym (unmatched-more c sdf corner [] g)));
    sized = sized;
  }

  pub stopped-spots : (e : AnnotError) → Told (meets-spots ≡ true) g.entry.place e → StoppedAt c sdf corner (g ∷ []) old e
  stopped-spots NoMemory t = tt
  stopped-spots (TooLarge at) t = λ done h. subst (λ p. IsTooLarge c sdf corner done (g ∷ []) p) (sym t.1) (large-one c sdf corner done g (or_left (spots-any done) checks-any (sym (spots-are done h) ∙ t.0)))

  pub stopped-checks : (e : AnnotError) → Told (meets-checks ≡ true) g.entry.place e → StoppedAt c sdf corner (g ∷ []) old e
  stopped-checks NoMemory t = tt
  stopped-checks (TooLarge at) t = λ done h. subst (λ p. IsTooLarge c sdf corner done (g ∷ []) p) (sym t.1) (large-one c sdf corner done g (or_right (spots-any done) checks-any (sym (checks-are done h) ∙ t.0)))

  -- the same of what was lent
  pub stopped-lent_spots : (found : List ℕ) (table : Table) → found ≡ ks → table ≡ old.timings.items → (e : AnnotError)
      → Told (meets_large (is_spot_large c sdf corner g.entry) (spot_with c sdf corner g.entry) [] found (timings_seen (spots c) table) ≡ true) g.entry.place e → StoppedAt c sdf corner (g ∷ []) old e
  stopped-lent_spots found table f t e told =
      stopped-spots e (told_by (λ h. ap (λ ts. meets_large (is_spot_large c sdf corner g.entry) (spot_with c sdf corner g.entry) [] ks (timings_seen (spots c) ts)) (sym t)
      ∙ (ap (λ fs. meets_large (is_spot_large c sdf corner g.entry) (spot_with c sdf corner g.entry) [] fs (timings_seen (spots c) table)) (sym f) ∙ h)) g.entry.place e told)

  pub stopped-lent_checks : (found : List ℕ) (limits : List (List ℤ)) → found ≡ ls → limits ≡ old.limits.items → (e : AnnotError)
      → Told (meets_large (is_check_large c sdf corner g.entry.kind) (check_with c sdf corner g.entry.kind) [] found limits ≡ true) g.entry.place e → StoppedAt c sdf corner (g ∷ []) old e
  stopped-lent_checks found limits f t e told =
      stopped-checks e (told_by (λ h. ap (λ xs. meets_large (is_check_large c sdf corner g.entry.kind) (check_with c sdf corner g.entry.kind) [] ls xs) (sym t)
      ∙ (ap (λ fs. meets_large (is_check_large c sdf corner g.entry.kind) (check_with c sdf corner g.entry.kind) [] fs limits) (sym f) ∙ h)) g.entry.place e told)

  pub came-lent : (new : NewValues) (found : List ℕ) (table after : Table) (found_checks : List ℕ) (limits limits_after : List (List ℤ))
      → found ≡ ks → table ≡ old.timings.items → found_checks ≡ ls → limits ≡ old.limits.items
      → length after ≡ length table → length limits_after ≡ length limits → new.timings.items ≡ after → new.limits.items ≡ limits_after
      → meets_large (is_spot_large c sdf corner g.entry) (spot_with c sdf corner g.entry) [] found (timings_seen (spots c) table) ≡ false
      → meets_large (is_check_large c sdf corner g.entry.kind) (check_with c sdf corner g.entry.kind) [] found_checks limits ≡ false
      → timings_seen (spots c) after ≡ written (spot_with c sdf corner g.entry) [] found (timings_seen (spots c) table)
      → limits_after ≡ written (check_with c sdf corner g.entry.kind) [] found_checks limits
      → (empty : Bool) → empty ≡ ((length ks == 0) && (length ls == 0))
      → told_seen new.unmatched.items ≡ told_seen old.unmatched.items ++ noted (not empty) g.entry.place (word_of g.entry.kind)
      → AreSized c old → CameTo c sdf corner (g ∷ []) old new
  came-lent new found table after found_checks limits limits_after f t q r n m now_after now_limits a b e h empty is told sized =
      came-one new
      (ap (λ ts. meets_large (is_spot_large c sdf corner g.entry) (spot_with c sdf corner g.entry) [] ks (timings_seen (spots c) ts)) (sym t)
      ∙ (ap (λ fs. meets_large (is_spot_large c sdf corner g.entry) (spot_with c sdf corner g.entry) [] fs (timings_seen (spots c) table)) (sym f) ∙ a))
      (ap (λ xs. meets_large (is_check_large c sdf corner g.entry.kind) (check_with c sdf corner g.entry.kind) [] ls xs) (sym r)
      ∙ (ap (λ fs. meets_large (is_check_large c sdf corner g.entry.kind) (check_with c sdf corner g.entry.kind) [] fs limits) (sym q) ∙ b))
      (ap (timings_seen (spots c)) now_after ∙ (e ∙ (ap (λ fs. written (spot_with c sdf corner g.entry) [] fs (timings_seen (spots c) table)) f
      ∙ ap (λ ts. written (spot_with c sdf corner g.entry) [] ks (timings_seen (spots c) ts)) t)))
      (now_limits ∙ (h ∙ (ap (λ fs. written (check_with c sdf corner g.entry.kind) [] fs limits) q ∙ ap (λ xs. written (check_with c sdf corner g.entry.kind) [] ls xs) r)))
      (not empty) empty refl is g.entry.place (word_of g.entry.kind) refl told
      (record { timings = ap length now_after ∙ (n ∙ (ap length t ∙ sized.timings)); limits = ap length now_limits ∙ (m ∙ (ap length r ∙ sized.limits)) })
