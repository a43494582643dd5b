-- The longest run, and the first end, of a front of a text.
use Rattle.std.proofs.Common.{◌≡◌, ℕ, zero, suc, ◌+◌, ◌<◌, ◌≤◌, List, [], ◌∷◌, length, take, Bool, true, false, refl, arith, inl, inr}
use Rattle.std.specs.Prelude.{Option, Some, ◌==◌, ◌&&◌}
use Rattle.std.specs.List.{list_all, prefix_len}
use Rattle.std.proofs.lemmas.Bool.{cases_Bool}
use Rattle.vl_pieces.specs.Ends.{end_from, end_of, quote_from, quote_end}

one_more : (n : ℕ) → 1 + n ≡ suc n
one_more n = omega arith

pub run_form : (p : ℕ → Bool) (xs : List ℕ) → list_all p (take (prefix_len p xs) xs) ≡ true
run_form p [] = refl
run_form p (x ∷ xs) = elim (cases_Bool (p x)) [
  | inl y ↦ rw (y, one_more (prefix_len p xs)) (rw y (run_form p xs))
  | inr n ↦ rw n refl
]

-- no longer front passes
pub run_longest : (p : ℕ → Bool) (xs : List ℕ) (m : ℕ) → prefix_len p xs < m → m ≤ length xs → list_all p (take m xs) ≡ false
run_longest p [] m lt le = absurd (omega arith)
run_longest p (x ∷ xs) zero lt le = absurd (omega arith)
run_longest p (x ∷ xs) (suc m) lt le = elim (cases_Bool (p x)) [
  | inl y ↦ let less : 1 + prefix_len p xs < suc m = rw y at lt in rw y (run_longest p xs m (omega arith) (omega arith))
  | inr n ↦ rw n refl
]

-- An end that is found in a text is found in each front that has it, and lies within the text.
pub record IsEnd (E : List ℕ → Option ℕ) : Type 0 where
  pub found : (xs : List ℕ) (e m : ℕ) → E xs ≡ Some e → e ≤ m → E (take m xs) ≡ Some e
  pub within : (xs : List ℕ) (e : ℕ) → E xs ≡ Some e → e ≤ length xs

some_same : {x y : ℕ} → Some x ≡ Some y → x ≡ y
some_same h = cc

end_after : (n a b : ℕ) (xs : List ℕ) (e : ℕ) → end_from n a b xs ≡ Some e → n + 2 ≤ e
end_after n a b [] e h = absurd (cc)
end_after n a b (x ∷ []) e h = absurd (cc)
end_after n a b (x ∷ y ∷ zs) e h = elim (cases_Bool ((x == a) && (y == b))) [
  | inl t ↦ let s : n + 2 ≡ e = some_same (rw t at h) in omega arith
  | inr f ↦ let s = end_after (n + 1) a b (y ∷ zs) e (rw f at h) in omega arith
]

end_within : (n a b : ℕ) (xs : List ℕ) (e : ℕ) → end_from n a b xs ≡ Some e → e ≤ n + length xs
end_within n a b [] e h = absurd (cc)
end_within n a b (x ∷ []) e h = absurd (cc)
end_within n a b (x ∷ y ∷ zs) e h = elim (cases_Bool ((x == a) && (y == b))) [
  | inl t ↦ let s : n + 2 ≡ e = some_same (rw t at h) in omega arith
  | inr f ↦ let s = end_within (n + 1) a b (y ∷ zs) e (rw f at h) in omega arith
]

end_found : (n a b : ℕ) (xs : List ℕ) (e m : ℕ) → end_from n a b xs ≡ Some e → e ≤ n + m → end_from n a b (take m xs) ≡ Some e
end_found n a b [] e m h le = absurd (cc)
end_found n a b (x ∷ []) e m h le = absurd (cc)
end_found n a b (x ∷ y ∷ zs) e zero h le = absurd (let s = end_after n a b (x ∷ y ∷ zs) e h in omega arith)
end_found n a b (x ∷ y ∷ zs) e (suc zero) h le = absurd (let s = end_after n a b (x ∷ y ∷ zs) e h in omega arith)
end_found n a b (x ∷ y ∷ zs) e (suc (suc m)) h le = elim (cases_Bool ((x == a) && (y == b))) [
  | inl t ↦ rw t (rw t at h)
  | inr f ↦ rw f (end_found (n + 1) a b (y ∷ zs) e (suc m) (rw f at h) (omega arith))
]

pub IsEnd-end_of : (a b : ℕ) → IsEnd (end_of a b)
IsEnd-end_of a b = record {
  found = λ xs e m h le. end_found 0 a b xs e m h (omega arith);
  within = λ xs e h. let s = end_within 0 a b xs e h in omega arith;
}

quote_within : (n : ℕ) (xs : List ℕ) (e : ℕ) → quote_from n xs ≡ Some e → (n < e) × (e ≤ n + length xs)
quote_within n [] e h = absurd (cc)
quote_within n (x ∷ xs) e h = elim (cases_Bool (x == 34)) [
  | inl t ↦ let s : n + 1 ≡ e = some_same (rw t at h) in (omega arith, omega arith)
  | inr f ↦ let s = quote_within (n + 1) xs e (rw f at h) in (omega arith, omega arith)
]

quote_found : (n : ℕ) (xs : List ℕ) (e m : ℕ) → quote_from n xs ≡ Some e → e ≤ n + m → quote_from n (take m xs) ≡ Some e
quote_found n [] e m h le = absurd (cc)
quote_found n (x ∷ xs) e zero h le = absurd (let s = (quote_within n (x ∷ xs) e h).0 in omega arith)
quote_found n (x ∷ xs) e (suc m) h le = elim (cases_Bool (x == 34)) [
  | inl t ↦ rw t (rw t at h)
  | inr f ↦ rw f (quote_found (n + 1) xs e m (rw f at h) (omega arith))
]

pub IsEnd-quote_end : IsEnd quote_end
IsEnd-quote_end = record {
  found = λ xs e m h le. quote_found 0 xs e m h (omega arith);
  within = λ xs e h. let s = (quote_within 0 xs e h).1 in omega arith;
}
