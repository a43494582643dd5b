-- What an entry with twelve delays makes of timings: those that it was written of, with limits as numbers.
use Rattle.std.proofs.Common.{◌≡◌, ◌<◌, ◌≤◌, false, List, [], ◌∷◌, length, refl, sym, ◌∙◌, ap, arith, inl, inr}
use Rattle.std.specs.Prelude.{ℕ, ◌^◌, ◌||◌, not, is_some, decimal, map, pos, ◌≤ℤ◌, Option, Some, None, if◌then◌else◌}
use Rattle.std.specs.List.{list_any}
use Rattle.std.proofs.Math.Nat.{max-eq_right}
use Rattle.std.proofs.lemmas.Bool.{lt-ltb}
use Rattle.std.proofs.lemmas.List.{length-map}
use Rattle.late_limits.proofs.NumberLaws.{test_same}
use Rattle.sg_delay.specs.Expansion.{six}
use Rattle.sg_circuit.specs.Timings.{Timing}
use Rattle.sdf_tree.specs.Meant.{delay_value_of, triple_of}
use Rattle.annotation_model.specs.Applied.{Grid, Change, chosen, chosen_limits, both, change_with, change_of, changes_of, changed, is_large, changed_each, is_each_large, spread, makes_x, with_changes, listed, with_x}
use Rattle.written_model.specs.Entries.{Numbers, numbers_of}
use Rattle.written_model.specs.Tree.{delay_of, lone}
use Rattle.written_giving.specs.AnnotatedBack.{as_number}
use Rattle.written_giving.proofs.MemberLaws.{Mem}
use Rattle.written_giving.proofs.PlaceLaws.{map-fused}
use Rattle.written_giving.proofs.TickLaws.{OnGrid, size-same}
use Rattle.written_giving.proofs.TreeLaws.{delay_values}

-- the numbers of a timing are read as they were written
pub record AreRead (g : Grid) (unit : g.unit ≡ g.tick) (scale : g.tick ≤ℤ g.precision) (n : Numbers) : Type 0 where
  pub delay : OnGrid g unit scale n.delay
  pub reject : OnGrid g unit scale n.reject
  pub error : OnGrid g unit scale n.error
  pub ordered : n.reject ≤ n.error

abbrev pub change : Numbers → Option Change
change n = Some (record { delay = pos n.delay; limits = Some (pos n.reject, pos n.error) })

-- the timing that numbers say
abbrev pub said : Numbers → Timing
said n = record { delay = n.delay; limits = Some (n.reject, n.error) }

pub map-each : {A B : Type 0} (f g : A → B) (xs : List A) → ((x : A) → Mem x xs → f x ≡ g x) → map f xs ≡ map g xs
map-each f g [] h = refl
map-each f g (x ∷ xs) h = ap (λ y. y ∷ map f xs) (h x (inl refl)) ∙ ap (λ ys. g x ∷ ys) (map-each f g xs (λ y m. h y (inr m)))

not-large : (n : ℕ) → n < 10 ^ 18 → is_large (pos n) ≡ false
not-large n l = ap not (lt-ltb n (2 ^ 60) (omega (arith, l)))

-- a list of twelve isn't spread
no-six : {A : Type 0} (cs : List A) → length cs ≡ 12 → six cs ≡ None
no-six [] e = refl
no-six (a ∷ []) e = absurd (omega (arith, e))
no-six (a ∷ b ∷ []) e = absurd (omega (arith, e))
no-six (a ∷ b ∷ c ∷ []) e = absurd (omega (arith, e))
no-six (a ∷ b ∷ c ∷ d ∷ []) e = refl
no-six (a ∷ b ∷ c ∷ d ∷ f ∷ []) e = refl
no-six (a ∷ b ∷ c ∷ d ∷ f ∷ g ∷ []) e = absurd (omega (arith, e))
no-six (a ∷ b ∷ c ∷ d ∷ f ∷ g ∷ h ∷ cs) e = refl

spread-whole : (cs : List (Option Change)) → length cs ≡ 12 → spread cs ≡ cs
spread-whole cs e = ap (λ b. if b then cs else listed (six cs)) (test_same (length cs) 12 e)

makes-none : (cs : List (Option Change)) → length cs ≡ 12 → makes_x cs ≡ false
makes-none cs e = ap (λ s. list_any (λ (c : Option Change). is_some c) (listed s)) (no-six cs e)

module _ (g : Grid) (unit : g.unit ≡ g.tick) (scale : g.tick ≤ℤ g.precision) where
  change-is : (n : Numbers) → AreRead g unit scale n → change_of g (delay_value_of (delay_of n)) ≡ change n
  change-is n r =
      ap (λ d. change_with d (chosen_limits g (delay_value_of (delay_of n)).limits)) (size-same g unit scale n.delay r.delay)
      ∙ ap (λ l. change_with (Some (pos n.delay)) l)
      (ap (λ a. both a (chosen g (triple_of (lone (decimal n.error))))) (size-same g unit scale n.reject r.reject) ∙ ap (λ b. both (Some (pos n.reject)) b) (size-same g unit scale n.error r.error))

  changes-are : (ns : List Numbers) → ((n : Numbers) → Mem n ns → AreRead g unit scale n) → changes_of g (delay_values ns) ≡ map change ns
  changes-are ns h =
      ap (map (change_of g)) (map-fused delay_value_of delay_of (λ n. delay_value_of (delay_of n)) ns (λ n. refl))
      ∙ (map-fused (change_of g) (λ n. delay_value_of (delay_of n)) (λ n. change_of g (delay_value_of (delay_of n))) ns (λ n. refl)
      ∙ map-each (λ n. change_of g (delay_value_of (delay_of n))) change ns (λ n m. change-is n (h n m)))

  changed-is : (n : Numbers) (t : Timing) → AreRead g unit scale n → changed false (change n) t ≡ said n
  changed-is n t r = ap {B = Timing} (λ e. record { delay = n.delay; limits = Some (n.reject, e) }) (max-eq_right r.ordered)

  each-changed : (ns : List Numbers) (ts : List Timing) → ((n : Numbers) → Mem n ns → AreRead g unit scale n) → length ts ≡ length ns → changed_each false (map change ns) ts ≡ map said ns
  each-changed [] [] h e = refl
  each-changed [] (t ∷ ts) h e = absurd (omega (arith, e))
  each-changed (n ∷ ns) [] h e = absurd (omega (arith, e))
  each-changed (n ∷ ns) (t ∷ ts) h e =
      ap (λ x. x ∷ changed_each false (map change ns) ts) (changed-is n t (h n (inl refl))) ∙ ap (λ xs. said n ∷ xs) (each-changed ns ts (λ k m. h k (inr m)) (omega (arith, e)))

  each-small : (ns : List Numbers) (ts : List Timing) → ((n : Numbers) → Mem n ns → AreRead g unit scale n) → is_each_large false (map change ns) ts ≡ false
  each-small [] ts h = refl
  each-small (n ∷ ns) [] h = refl
  each-small (n ∷ ns) (t ∷ ts) h =
      let r = h n (inl refl) in
      ap (λ b. (b || ((is_large (pos n.reject) || is_large (pos n.error)) || b)) || is_each_large false (map change ns) ts) (not-large n.delay r.delay.short)
      ∙ (ap (λ b. ((b || is_large (pos n.error)) || false) || is_each_large false (map change ns) ts) (not-large n.reject r.reject.short)
      ∙ (ap (λ b. (b || false) || is_each_large false (map change ns) ts) (not-large n.error r.error.short) ∙ each-small ns ts (λ k m. h k (inr m))))

  pub changes-give : (ns : List Numbers) (ts : List Timing) → ((n : Numbers) → Mem n ns → AreRead g unit scale n) → length ns ≡ 12 → length ts ≡ 12 → with_changes false (changes_of g (delay_values ns)) ts ≡ map said ns
  changes-give ns ts h e f =
      let cs = map change ns in
      let l : length cs ≡ 12 = length-map ns change ∙ e in
      ap (λ xs. with_changes false xs ts) (changes-are ns h)
      ∙ (ap (λ b. if b then with_x (changed_each false (spread cs) ts) else changed_each false (spread cs) ts) (makes-none cs l)
      ∙ (ap (λ xs. changed_each false xs ts) (spread-whole cs l) ∙ each-changed ns ts h (f ∙ sym e)))

  pub changes-small : (ns : List Numbers) (ts : List Timing) → ((n : Numbers) → Mem n ns → AreRead g unit scale n) → length ns ≡ 12 → is_each_large false (spread (changes_of g (delay_values ns))) ts ≡ false
  changes-small ns ts h e =
      ap (λ xs. is_each_large false (spread xs) ts) (changes-are ns h)
      ∙ (ap (λ xs. is_each_large false xs ts) (spread-whole (map change ns) (length-map ns change ∙ e)) ∙ each-small ns ts h)

-- the numbers of timings say them, with limits as numbers
pub said-number : (ts : List Timing) → map said (map numbers_of ts) ≡ map as_number ts
said-number ts = map-fused said numbers_of as_number ts (λ t. refl)
