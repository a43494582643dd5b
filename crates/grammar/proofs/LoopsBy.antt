-- Reading the parts of a repetition with a state, as a loop does that keeps them in a Vec whose items are seen by view.
use Rattle.std.proofs.Common.{◌≡◌, ℕ, zero, suc, ◌+◌, ◌-◌, ◌<◌, ◌≤◌, Bool, true, false, List, [], ◌∷◌, ◌++◌, length, Result, Ok, Err, refl, sym, ap, ◌∙◌, arith, append_assoc, map, inl, inr}
use Rattle.std.proofs.lemmas.Bool.{cases_Bool}
use Rattle.std.proofs.lemmas.List.{append-nil, map-append}
use Rattle.std.proofs.lemmas.Option.{slice_get_past}
use Rattle.grammar.specs.Reading.{◌>>=◌, Fails}
use Rattle.grammar.specs.Rule.{Rule, stands}
use Rattle.grammar.specs.States.{read_by, read_end, many_by}
use Rattle.grammar.specs.declared.ReadFault.{ReadFault}
use Rattle.grammar.specs.declared.ReadFault.TheVariants as faults
use Rattle.grammar.specs.Exact.{Exact}
use Rattle.grammar.proofs.Loops.{collected, advances, regroup, stands_within}

-- what is read after the items so far, from the state s on, together with them
abbrev pub rest_of_by : {T K A S X : Type 0} → (T → K) → (K → Bool) → (S → Rule T K A) → (S → A → S) → (S → Bool) → List T → (X → A) → List X → S → ℕ → Result (List A × ℕ) ℕ
rest_of_by kind C part next ends ts view items s i = (many_by kind C part next ends s).read ts i >>= collected (map view items)

module _ {T K A S X : Type 0} (kind : T → K) (C : K → Bool) (part : S → Rule T K A) (next : S → A → S) (ends : S → Bool) (exact : (s : S) → Exact kind (part s)) (full : (s : S) → (part s).empty ≡ false) (ts : List T) (view : X → A) where
  abbrev parts_from : S → ℕ → Result (List A × ℕ) ℕ
  parts_from s i = (many_by kind C part next ends s).read ts i

  abbrev rest : List X → S → ℕ → Result (List A × ℕ) ℕ
  rest items s i = rest_of_by kind C part next ends ts view items s i

  abbrev then_by : ℕ → S → A × ℕ → Result (List A × ℕ) ℕ
  then_by n s x = read_by kind part next ends n (next s x.0) ts x.1 >>= λ y. Ok (x.0 ∷ y.0, y.1)

  -- more turns than there are tokens change nothing
  enough : (n m : ℕ) (s : S) (i : ℕ) → length ts ≤ i + n → length ts ≤ i + m → read_by kind part next ends n s ts i ≡ read_by kind part next ends m s ts i
  unfolding read_by
  enough zero zero s i le ge = refl
  enough zero (suc m) s i le ge = rw (slice_get_past ts i (omega arith)) refl
  enough (suc n) zero s i le ge = rw (slice_get_past ts i (omega arith)) refl
  enough (suc n) (suc m) s i le ge = elim (cases_Bool (stands kind (part s).starts ts i)) [
    | inl does ↦ rw does (go ((part s).read ts i) refl (λ x k lt. enough n m (next s x) k (omega arith) (omega arith)))
    | inr none ↦ rw none refl
  ]
    where
      go : (r : Result (A × ℕ) ℕ) → (part s).read ts i ≡ r → ((x : A) (k : ℕ) → i < k → read_by kind part next ends n (next s x) ts k ≡ read_by kind part next ends m (next s x) ts k) → (r >>= then_by n s) ≡ (r >>= then_by m s)
      go (Err e) h same = refl
      go (Ok x) h same = rw (same x.0 x.1 (advances kind (part s) (exact s) (full s) ts i x.0 x.1 h).0) refl

  more : (s : S) (i : ℕ) (x : A) (k : ℕ) → stands kind (part s).starts ts i ≡ true → (part s).read ts i ≡ Ok (x, k) → parts_from s i ≡ (parts_from (next s x) k >>= λ y. Ok (x ∷ y.0, y.1))
  unfolding read_by
  more s i x k does h =
      let within = stands_within kind (part s) (exact s) (full s) ts (part s).starts i does in
      let lt = (advances kind (part s) (exact s) (full s) ts i x k h).0 in
      let n : length ts - i ≡ suc (length ts - (i + 1)) = omega arith in
      rw (n, does, h, enough (length ts - (i + 1)) (length ts - k) (next s x) k (omega arith) (omega arith)) refl

  -- where no part comes
  over : (s : S) (i : ℕ) → stands kind (part s).starts ts i ≡ false → parts_from s i ≡ read_end ends s i
  unfolding read_by
  over s i none = go (length ts - i)
    where
      go : (n : ℕ) → read_by kind part next ends n s ts i ≡ read_end ends s i
      go zero = refl
      go (suc n) = rw none refl

  -- ---- a loop that keeps: what f makes of the parts that are left is the whole

  pub state_goes_on : {B : Type 0} (f : List A × ℕ → Result B ℕ) (total : Result B ℕ) (s : S) (i : ℕ) (x : A) (k : ℕ) → stands kind (part s).starts ts i ≡ true → (part s).read ts i ≡ Ok (x, k) → (parts_from s i >>= f) ≡ total
      → (parts_from (next s x) k >>= λ y. f (x ∷ y.0, y.1)) ≡ total
  state_goes_on f total s i x k does h so_far = sym (regroup x (parts_from (next s x) k) f) ∙ (sym (ap (λ (r : Result (List A × ℕ) ℕ). r >>= f) (more s i x k does h)) ∙ so_far)

  pub state_ends : {B : Type 0} (f : List A × ℕ → Result B ℕ) (total : Result B ℕ) (s : S) (i : ℕ) → stands kind (part s).starts ts i ≡ false → ends s ≡ true → (parts_from s i >>= f) ≡ total → total ≡ f ([], i)
  state_ends f total s i none may so_far =
      let e : parts_from s i ≡ Ok ([], i) = over s i none ∙ rw may refl in
      sym so_far ∙ ap (λ (r : Result (List A × ℕ) ℕ). r >>= f) e

  pub state_refused : {B : Type 0} (f : List A × ℕ → Result B ℕ) (total : Result B ℕ) (s : S) (i : ℕ) → stands kind (part s).starts ts i ≡ false → ends s ≡ false → (parts_from s i >>= f) ≡ total → total ≡ Err i
  state_refused f total s i none may so_far =
      let e : parts_from s i ≡ Err i = over s i none ∙ rw may refl in
      sym so_far ∙ ap (λ (r : Result (List A × ℕ) ℕ). r >>= f) e

  -- ---- the loop

  pub by_begins : (s : S) (i : ℕ) → rest [] s i ≡ parts_from s i
  by_begins s i = go (parts_from s i)
    where
      go : (r : Result (List A × ℕ) ℕ) → (r >>= collected []) ≡ r
      go (Ok y) = refl
      go (Err e) = refl

  pub by_goes_on : (total : Result (List A × ℕ) ℕ) (items : List X) (s : S) (i : ℕ) (x : X) (j : ℕ) → stands kind (part s).starts ts i ≡ true → (part s).read ts i ≡ Ok (view x, j) → rest items s i ≡ total → rest (items ++ x ∷ []) (next s (view x)) j ≡ total
  by_goes_on total items s i x j does h so_far = sym (go (parts_from (next s (view x)) j)) ∙ (sym (ap (λ (r : Result (List A × ℕ) ℕ). r >>= collected (map view items)) (more s i (view x) j does h)) ∙ so_far)
    where
      go : (r : Result (List A × ℕ) ℕ) → (r >>= λ y. Ok (view x ∷ y.0, y.1)) >>= collected (map view items) ≡ (r >>= collected (map view (items ++ x ∷ [])))
      go (Ok y) = ap (λ (l : List A). Ok (l, y.1)) (sym (rw map-append (append_assoc (map view items) (view x ∷ []) y.0)))
      go (Err e) = refl

  pub by_fails : (total : Result (List A × ℕ) ℕ) (items : List X) (s : S) (i : ℕ) (fault : ReadFault) → stands kind (part s).starts ts i ≡ true → Fails fault ((part s).read ts i) → rest items s i ≡ total → Fails fault total
  unfolding read_by
  by_fails total items s i faults.Memory does h so_far = tt
  by_fails total items s i (faults.At e) does h so_far =
      let within = stands_within kind (part s) (exact s) (full s) ts (part s).starts i does in
      let n : length ts - i ≡ suc (length ts - (i + 1)) = omega arith in
      let one : parts_from s i ≡ Err e = rw (n, does, h) refl in
      sym so_far ∙ ap (λ (r : Result (List A × ℕ) ℕ). r >>= collected (map view items)) one

  -- no part comes: the list ends where it may, and else fails here
  pub by_ends : (total : Result (List A × ℕ) ℕ) (items : List X) (s : S) (i : ℕ) → stands kind (part s).starts ts i ≡ false → ends s ≡ true → rest items s i ≡ total → total ≡ Ok (map view items, i)
  by_ends total items s i none may so_far =
      let e : parts_from s i ≡ Ok ([], i) = over s i none ∙ rw may refl in
      sym so_far ∙ (ap (λ (r : Result (List A × ℕ) ℕ). r >>= collected (map view items)) e ∙ ap (λ (l : List A). Ok (l, i)) (append-nil (map view items)))

  pub by_refused : (total : Result (List A × ℕ) ℕ) (items : List X) (s : S) (i : ℕ) → stands kind (part s).starts ts i ≡ false → ends s ≡ false → rest items s i ≡ total → total ≡ Err i
  by_refused total items s i none may so_far =
      let e : parts_from s i ≡ Err i = over s i none ∙ rw may refl in
      sym so_far ∙ ap (λ (r : Result (List A × ℕ) ℕ). r >>= collected (map view items)) e

  pub by_advances : (s : S) (i : ℕ) (x : A) (j : ℕ) → stands kind (part s).starts ts i ≡ true → (part s).read ts i ≡ Ok (x, j) → length ts - j < length ts - i
  by_advances s i x j does h =
      let lt = (advances kind (part s) (exact s) (full s) ts i x j h).0 in
      let within = stands_within kind (part s) (exact s) (full s) ts (part s).starts i does in
      omega arith
