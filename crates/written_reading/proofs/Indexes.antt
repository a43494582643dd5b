-- A net's name is a variable's, with an index between the bounds.
use Rattle.std.specs.Prelude.{◌≡◌, ◌≢◌, ℕ, ◌+◌, ◌^◌, ◌<◌, ◌==◌, ℤ, pos, negsuc, ◌+ℤ◌, ◌-ℤ◌, ◌≤ℤ◌, int_le, nat_abs, Bool, true, false, ◌⊎◌, IfSome, List, [], ◌∷◌, length, Option, Some, None, unwrap_or, if◌then◌else◌}
use Rattle.std.specs.List.{AllByRecursion, position_from}
use Rattle.std.specs.Option.{option_map}
use Rattle.std.proofs.Common.{refl, subst, arith, inl, inr}
use Rattle.std.proofs.lemmas.Bool.{cases_Bool}
use Rattle.std.proofs.lemmas.Int.{ints}
use borrow.Author.Differences.{up, down}
use Rattle.sg_circuit.specs.declared.scopes.Range.{Range}
use Rattle.sg_circuit.specs.Circuit.{Variable}
use Rattle.sg_circuit.specs.Closed.{width_of}
use Rattle.written_model.specs.Names.{index_at, bit_at, name_of}
use Rattle.written_reading.specs.Named.{IsIndex, IsVariableText}
use Rattle.written_reading.proofs.Clauses.{name_of_text}
use Rattle.written_reading.proofs.Letters.{IsSomeIndex}
use Rattle.written_reading.proofs.Writable.{IsBit, IsPort}

-- ---- indexes

abs_is : (z : ℤ) → nat_abs z ≡ up z + down z
abs_is (pos n) = omega arith
abs_is (negsuc n) = omega arith

one_side : (z : ℤ) → (up z ≡ 0) ⊎ (down z ≡ 0)
one_side (pos n) = inr refl
one_side (negsuc n) = inl refl

falling : (l r : ℤ) (k n : ℕ) → nat_abs l < n → nat_abs r < n → r ≤ℤ l → k < nat_abs (l -ℤ r) + 1 → nat_abs (l -ℤ pos k) < n
falling l r k n a b le lt =
    let p = one_side l in
    let q = one_side r in
    let d = one_side (l -ℤ r) in
    let e = one_side (l -ℤ pos k) in
    let la = abs_is l in
    let ra = abs_is r in
    let da = abs_is (l -ℤ r) in
    let ea = abs_is (l -ℤ pos k) in
    grind (arith, ints)

rising : (l r : ℤ) (k n : ℕ) → nat_abs l < n → nat_abs r < n → l ≤ℤ r → k < nat_abs (l -ℤ r) + 1 → nat_abs (l +ℤ pos k) < n
rising l r k n a b le lt =
    let p = one_side l in
    let q = one_side r in
    let d = one_side (l -ℤ r) in
    let e = one_side (l +ℤ pos k) in
    let la = abs_is l in
    let ra = abs_is r in
    let da = abs_is (l -ℤ r) in
    let ea = abs_is (l +ℤ pos k) in
    grind (arith, ints)

le_from_test : (a b : ℤ) → int_le a b ≡ true → a ≤ℤ b
le_from_test a b h = grind (arith, ints)

le_from_other : (a b : ℤ) → int_le a b ≡ false → b ≤ℤ a
le_from_other a b h = grind (arith, ints)

index_small : (r : Range) (k : ℕ) → IsIndex r.left → IsIndex r.right → k < nat_abs (r.left -ℤ r.right) + 1 → IsIndex (index_at r k)
index_small r k a b lt = elim (cases_Bool (int_le r.right r.left)) [
  | inl y ↦ rw y (falling r.left r.right k (10 ^ 18) a b (le_from_test r.right r.left y) lt)
  | inr n ↦ rw n (rising r.left r.right k (10 ^ 18) a b (le_from_other r.right r.left n) lt)
]

-- ---- the variable that is found

position_within : (test : ℕ → Bool) (k p : ℕ) (ns : List ℕ) → position_from test k ns ≡ Some p → p < k + length ns
position_within test k p [] e = absurd cc
position_within test k p (n ∷ ns) e = by (test n) e (position_within test (k + 1) p ns)
  where
    by : (b : Bool) → (if b then Some k else position_from test (k + 1) ns) ≡ Some p → (position_from test (k + 1) ns ≡ Some p → p < k + 1 + length ns) → p < k + length (n ∷ ns)
    by true f rec = let g : k ≡ p = cc in omega (arith, g)
    by false f rec = let m : p < k + 1 + length ns = rec f in omega (arith, m)

abbrev pub IsWide : Variable → Type 0
IsWide v = length v.bits ≡ width_of v.range

range_index : (o : Option Range) (k n : ℕ) → IfSome o (λ r. IsIndex r.left) → IfSome o (λ r. IsIndex r.right) → n ≡ width_of o → k < n → IsSomeIndex (option_map (λ (r : Range). index_at r k) o)
range_index None k n a b w lt = tt
range_index (Some r) k n a b w lt = index_small r k a b (subst (λ (m : ℕ). k < m) w lt)

bit_is : (v : Variable) (k : ℕ) → IsVariableText v → IsWide v → k < length v.bits → IsBit (bit_at v k)
bit_is v k h w lt = record { name = name_of_text v.name h.name; index = range_index v.range k (length v.bits) h.left h.right w lt }

-- a net that has a name has a variable's
pub port_is : (vs : List Variable) (net : ℕ) → AllByRecursion IsVariableText vs → AllByRecursion IsWide vs → (name_of vs net).name ≢ [] → IsPort vs net
port_is [] net h w some = absurd (some refl)
port_is (u ∷ us) net h w some = by (position_from (λ n. n == net) 0 u.bits) refl some (λ more. port_is us net h.1 w.1 more)
  where
    here : (n : ℕ) → position_from (λ m. m == net) 0 u.bits ≡ Some n → n < length u.bits
    here n e = let l : n < 0 + length u.bits = position_within (λ m. m == net) 0 n u.bits e in omega (arith, l)

    by : (o : Option ℕ) → position_from (λ n. n == net) 0 u.bits ≡ o → (unwrap_or (option_map (bit_at u) o) (name_of us net)).name ≢ [] → ((name_of us net).name ≢ [] → IsPort us net) → IsBit (unwrap_or (option_map (bit_at u) o) (name_of us net))
    by (Some n) e some rest = bit_is u n h.0 w.0 (here n e)
    by None e some rest = rest some
