-- Where runs, comments and operators end.
use Rattle.std.proofs.Common.{◌≡◌, ℕ, suc, ◌+◌, ◌<◌, ◌≤◌, List, [], ◌∷◌, ◌++◌, length, take, drop, Bool, true, false, refl, sym, ap, ◌∙◌, subst, arith, ◌⊎◌, inl, inr}
use Rattle.std.specs.Prelude.{Some, None, ◌==◌, ◌&&◌, ◌||◌, is_some, nat_le, nat_eq}
use Rattle.std.specs.List.{list_all, prefix_len}
use lib.Pointwise.{pointwise}
use Rattle.std.proofs.lemmas.Bool.{cases_Bool, eqb-true, and_parts, leb-true, le-leb, and_from, or_right}
use Rattle.std.proofs.lemmas.List.{take-append-drop, length-take}
use Rattle.vl_pieces.specs.Ends.{end_from}
use Rattle.vl_pieces.proofs.PieceLaws.{pointwise_len}
use Rattle.sdf_lex.specs.Operators.{Row, operator_rows, operator_in, operator_of, is_operator}
use Rattle.sdf_lex.specs.Pieces.{is_alone}
use Rattle.sdf_lex.specs.PieceBridge.{symbol_len}

-- ---- runs

one_on : (n x : ℕ) (ys zs : List ℕ) → take n ys ≡ zs → take (1 + n) (x ∷ ys) ≡ x ∷ zs
one_on n x ys zs e = let s : 1 + n ≡ suc n = omega arith in rw s (ap (λ vs. x ∷ vs) e)

run_more : (p : ℕ → Bool) (x : ℕ) (xs zs : List ℕ) → p x ≡ true → take (prefix_len p xs) xs ≡ zs → take (prefix_len p (x ∷ xs)) (x ∷ xs) ≡ x ∷ zs
run_more p x xs zs y e = rw y (one_on (prefix_len p xs) x xs zs e)

-- a run of a front is of the whole
pub run_on : (p : ℕ → Bool) (inside after : List ℕ) → list_all p inside ≡ true → (more : List ℕ) × (take (prefix_len p (inside ++ after)) (inside ++ after) ≡ inside ++ more)
run_on p [] after h = (take (prefix_len p after) after, refl)
run_on p (x ∷ xs) after h =
    let parts = and_parts (p x) (list_all p xs) h in
    let r = run_on p xs after parts.1 in
    (r.0, run_more p x (xs ++ after) (xs ++ r.0) parts.0 r.1)

-- a run ends where the first byte that isn't of it stands
pub run_to : (p : ℕ → Bool) (inside : List ℕ) (x : ℕ) (after : List ℕ) → list_all p inside ≡ true → p x ≡ false → prefix_len p (inside ++ x ∷ after) ≡ length inside
run_to p [] x after h stop = rw stop refl
run_to p (y ∷ ys) x after h stop =
    let parts = and_parts (p y) (list_all p ys) h in
    rw (parts.0, run_to p ys x after parts.1 stop) (omega arith)

-- a run that goes to the end
pub run_all : (p : ℕ → Bool) (xs : List ℕ) → list_all p xs ≡ true → prefix_len p xs ≡ length xs
run_all p [] h = refl
run_all p (x ∷ xs) h =
    let parts = and_parts (p x) (list_all p xs) h in
    rw (parts.0, run_all p xs parts.1) (omega arith)

stop_more : (p : ℕ → Bool) (x : ℕ) (xs rest : List ℕ) (b : ℕ) → p x ≡ true → xs ≡ take (prefix_len p xs) xs ++ b ∷ rest → x ∷ xs ≡ take (prefix_len p (x ∷ xs)) (x ∷ xs) ++ b ∷ rest
stop_more p x xs rest b y e = ap (λ vs. x ∷ vs) e ∙ ap (λ vs. vs ++ b ∷ rest) (sym (run_more p x xs (take (prefix_len p xs) xs) y refl))

stop_here : (p : ℕ → Bool) (x : ℕ) (xs : List ℕ) → p x ≡ false → x ∷ xs ≡ take (prefix_len p (x ∷ xs)) (x ∷ xs) ++ x ∷ xs
stop_here p x xs n = rw n refl

less_stop : (p : ℕ → Bool) (x : ℕ) (xs : List ℕ) → p x ≡ true → prefix_len p (x ∷ xs) < length (x ∷ xs) → prefix_len p xs < length xs
less_stop p x xs y lt = let less : 1 + prefix_len p xs < suc (length xs) = rw y at lt in omega arith

-- what is behind a run that doesn't go to the end
pub run_stop : (p : ℕ → Bool) (xs : List ℕ) → prefix_len p xs < length xs → (x : ℕ) × (rest : List ℕ) × (xs ≡ take (prefix_len p xs) xs ++ x ∷ rest) × (p x ≡ false)
run_stop p [] lt = absurd (omega arith)
run_stop p (x ∷ xs) lt = elim (cases_Bool (p x)) [
  | inl y ↦
      let r = run_stop p xs (less_stop p x xs y lt) in
      (r.0, r.1, stop_more p x xs r.1 r.0 y r.2, r.3)
  | inr n ↦ (x, xs, stop_here p x xs n, n)
]

pub run_whole : (p : ℕ → Bool) (xs : List ℕ) → length xs ≤ prefix_len p xs → list_all p xs ≡ true
run_whole p [] le = refl
run_whole p (x ∷ xs) le = elim (cases_Bool (p x)) [
  | inl y ↦
      let more : suc (length xs) ≤ 1 + prefix_len p xs = rw y at le in
      rw y (run_whole p xs (omega arith))
  | inr n ↦ let none : suc (length xs) ≤ 0 = rw n at le in absurd (omega arith)
]

-- ---- the end of a comment

some_same : {x y : ℕ} → Some x ≡ Some y → x ≡ y
some_same h = cc

none_some : {x : ℕ} → None ≡ Some x → ⊥
none_some h = cc

end_at : (n : ℕ) (after : List ℕ) → end_from n 42 47 (42 ∷ 47 ∷ after) ≡ Some (n + 2)
end_at n after = refl

-- the first end of what has none before it
pub end_here : (n : ℕ) (inside after : List ℕ) → end_from n 42 47 (inside ++ 42 ∷ []) ≡ None → end_from n 42 47 (inside ++ 42 ∷ 47 ∷ after) ≡ Some (n + (length inside + 2))
end_here n [] after h = ap (λ k. Some k) (omega arith)
end_here n (x ∷ []) after h = elim (cases_Bool ((x == 42) && (42 == 47))) [
  | inl t ↦ absurd (none_some (sym (rw t at h)))
  | inr f ↦ rw f (ap (λ k. Some k) (omega arith))
]
end_here n (x ∷ y ∷ zs) after h = elim (cases_Bool ((x == 42) && (y == 47))) [
  | inl t ↦ absurd (none_some (sym (rw t at h)))
  | inr f ↦
      let less : end_from (n + 1) 42 47 ((y ∷ zs) ++ 42 ∷ []) ≡ None = rw f at h in
      let size : (n + 1) + (length (y ∷ zs) + 2) ≡ n + (length (x ∷ y ∷ zs) + 2) = omega arith in
      rw f (end_here (n + 1) (y ∷ zs) after less ∙ ap (λ k. Some k) size)
]

-- what an end that is found parts
pub record EndsAt (n e : ℕ) (text : List ℕ) : Type 0 where
  pub inside : List ℕ
  pub rest : List ℕ
  pub parts : text ≡ inside ++ 42 ∷ 47 ∷ rest
  pub size : e ≡ n + (length inside + 2)
  pub first : end_from n 42 47 (inside ++ 42 ∷ []) ≡ None

end_further : (n e x y : ℕ) (zs : List ℕ) → ((x == 42) && (y == 47)) ≡ false → EndsAt (n + 1) e (y ∷ zs) → EndsAt n e (x ∷ y ∷ zs)
end_further n e x y zs f r = record {
  inside = x ∷ r.inside;
  rest = r.rest;
  parts = ap (λ vs. x ∷ vs) r.parts;
  size = let s = r.size in omega arith;
  first = by r.inside r.parts r.first;
}
  where
    by : (inside : List ℕ) → y ∷ zs ≡ inside ++ 42 ∷ 47 ∷ r.rest → end_from (n + 1) 42 47 (inside ++ 42 ∷ []) ≡ None → end_from n 42 47 ((x ∷ inside) ++ 42 ∷ []) ≡ None
    by [] p h = elim (cases_Bool ((x == 42) && (42 == 47))) [
      | inl t ↦ absurd (never (and_parts (x == 42) (42 == 47) t).1)
      | inr g ↦ rw g refl
    ]
      where
        never : false ≡ true → ⊥
        never q = cc
    by (i ∷ js) p h =
        let same : y ≡ i = cc in
        let g : ((x == 42) && (i == 47)) ≡ false = subst (λ j. ((x == 42) && (j == 47)) ≡ false) same f in
        rw g h

pub end_parts : (n e : ℕ) (text : List ℕ) → end_from n 42 47 text ≡ Some e → EndsAt n e text
end_parts n e [] h = absurd (none_some h)
end_parts n e (x ∷ []) h = absurd (none_some h)
end_parts n e (x ∷ y ∷ zs) h = elim (cases_Bool ((x == 42) && (y == 47))) [
  | inl t ↦
      let parts = and_parts (x == 42) (y == 47) t in
      let size : n + 2 ≡ e = some_same (rw t at h) in
      found (eqb-true x 42 parts.0) (eqb-true y 47 parts.1) size
  | inr f ↦ end_further n e x y zs f (end_parts (n + 1) e (y ∷ zs) (rw f at h))
]
  where
    found : x ≡ 42 → y ≡ 47 → n + 2 ≡ e → EndsAt n e (x ∷ y ∷ zs)
    found a b s = record {
      inside = [];
      rest = zs;
      parts = rw (a, b) refl;
      size = omega arith;
      first = refl;
    }

-- ---- operators

any_within : (rows : List Row) (bytes : List ℕ) → list_all (λ r. nat_le (length r.text) 3) rows ≡ true → is_some (operator_in bytes rows) ≡ true → length bytes ≤ 3
any_within [] bytes a h = absurd (cc)
any_within (r ∷ rs) bytes a h =
    let parts = and_parts (nat_le (length r.text) 3) (list_all (λ v. nat_le (length v.text) 3) rs) a in
    elim (cases_Bool (pointwise nat_eq r.text bytes)) [
      | inl e ↦ let n : length r.text ≤ 3 = leb-true (length r.text) 3 parts.0 in omega (arith, pointwise_len r.text bytes e)
      | inr e ↦ any_within rs bytes parts.1 (rw e at h)
    ]

-- an operator has at most three bytes
operator_within : (bytes : List ℕ) → is_operator bytes ≡ true → length bytes ≤ 3
unfolding operator_of operator_rows
operator_within bytes h = any_within operator_rows bytes refl h

-- ---- the longest operator at the front

long_enough : (n : ℕ) (text : List ℕ) → (nat_le n (length text) && is_operator (take n text)) ≡ true → n ≤ length text
long_enough n text h = leb-true n (length text) (and_parts (nat_le n (length text)) (is_operator (take n text)) h).0

-- a symbol is the one that the code takes, or is shorter
pub symbol_told : (b : ℕ) (bs after : List ℕ) → (is_alone bs || is_operator (b ∷ bs)) ≡ true
    → (length (b ∷ bs) < length (take (symbol_len (b ∷ bs ++ after)) (b ∷ bs ++ after))) ⊎ (b ∷ bs ≡ take (symbol_len (b ∷ bs ++ after)) (b ∷ bs ++ after))
symbol_told b [] after h = elim (cases_Bool (nat_le 3 (length (b ∷ after)) && is_operator (take 3 (b ∷ after)))) [
  | inl y ↦ rw y (inl (let le = long_enough 3 (b ∷ after) y in omega (arith, length-take 3 (b ∷ after))))
  | inr n ↦ elim (cases_Bool (nat_le 2 (length (b ∷ after)) && is_operator (take 2 (b ∷ after)))) [
    | inl y ↦ rw (n, y) (inl (let le = long_enough 2 (b ∷ after) y in omega (arith, length-take 2 (b ∷ after))))
    | inr m ↦ rw (n, m) (inr refl)
  ]
]
symbol_told b (c ∷ []) after h = elim (cases_Bool (nat_le 3 (length (b ∷ c ∷ after)) && is_operator (take 3 (b ∷ c ∷ after)))) [
  | inl y ↦ rw y (inl (let le = long_enough 3 (b ∷ c ∷ after) y in omega (arith, length-take 3 (b ∷ c ∷ after))))
  | inr n ↦
      let two : (nat_le 2 (length (b ∷ c ∷ after)) && is_operator (take 2 (b ∷ c ∷ after))) ≡ true = and_from (nat_le 2 (length (b ∷ c ∷ after))) (is_operator (b ∷ c ∷ [])) (le-leb 2 (length (b ∷ c ∷ after)) (omega arith)) h in
      rw (n, two) (inr refl)
]
symbol_told b (c ∷ d ∷ []) after h =
    let three : (nat_le 3 (length (b ∷ c ∷ d ∷ after)) && is_operator (take 3 (b ∷ c ∷ d ∷ after))) ≡ true = and_from (nat_le 3 (length (b ∷ c ∷ d ∷ after))) (is_operator (b ∷ c ∷ d ∷ [])) (le-leb 3 (length (b ∷ c ∷ d ∷ after)) (omega arith)) h in
    rw three (inr refl)
symbol_told b (c ∷ d ∷ e ∷ es) after h = let few = operator_within (b ∷ c ∷ d ∷ e ∷ es) h in absurd (omega arith)

-- and what the code takes is a symbol
pub symbol_found : (b : ℕ) (bs : List ℕ) → (rest : List ℕ) × (after : List ℕ) × (take (symbol_len (b ∷ bs)) (b ∷ bs) ≡ b ∷ rest) × (b ∷ rest ++ after ≡ b ∷ bs) × ((is_alone rest || is_operator (b ∷ rest)) ≡ true)
symbol_found b bs = elim (cases_Bool (nat_le 3 (length (b ∷ bs)) && is_operator (take 3 (b ∷ bs)))) [
  | inl y ↦ (take 2 bs, drop 2 bs, rw y refl, ap (λ xs. b ∷ xs) (take-append-drop 2 bs), or_right (is_alone (take 2 bs)) (is_operator (b ∷ take 2 bs)) (and_parts (nat_le 3 (length (b ∷ bs))) (is_operator (take 3 (b ∷ bs))) y).1)
  | inr n ↦ elim (cases_Bool (nat_le 2 (length (b ∷ bs)) && is_operator (take 2 (b ∷ bs)))) [
    | inl y ↦ (take 1 bs, drop 1 bs, rw (n, y) refl, ap (λ xs. b ∷ xs) (take-append-drop 1 bs), or_right (is_alone (take 1 bs)) (is_operator (b ∷ take 1 bs)) (and_parts (nat_le 2 (length (b ∷ bs))) (is_operator (take 2 (b ∷ bs))) y).1)
    | inr m ↦ ([], bs, rw (n, m) refl, refl, refl)
  ]
]

pub symbol_size : (b : ℕ) (bs : List ℕ) → length (take (symbol_len (b ∷ bs)) (b ∷ bs)) ≡ symbol_len (b ∷ bs)
symbol_size b bs = elim (cases_Bool (nat_le 3 (length (b ∷ bs)) && is_operator (take 3 (b ∷ bs)))) [
  | inl y ↦ rw y (let le = long_enough 3 (b ∷ bs) y in omega (arith, length-take 3 (b ∷ bs)))
  | inr n ↦ elim (cases_Bool (nat_le 2 (length (b ∷ bs)) && is_operator (take 2 (b ∷ bs)))) [
    | inl y ↦ rw (n, y) (let le = long_enough 2 (b ∷ bs) y in omega (arith, length-take 2 (b ∷ bs)))
    | inr m ↦ rw (n, m) refl
  ]
]
