-- The place of the first input of a name: among one variable more, and what stands there.
use Rattle.std.specs.Prelude.{ℕ, suc, ◌+◌, ◌<◌, ◌≤◌, ◌≡◌, Bool, true, false, List, [], ◌∷◌, ◌++◌, Option, Some, None, find, length, map, slice_get, slice_index_or, take, cond, is_some, nat_lt, IfSome, bytes_eq, refl, if◌then◌else◌}
use Rattle.std.specs.Borrow.{Bor}
use Rattle.std.specs.List.{position_from}
use Rattle.std.specs.Option.{option_map, option_or, option_and_then, option_copied}
use Rattle.std.proofs.Common.{sym, ◌∙◌, ap, arith}
use Rattle.std.proofs.lemmas.Bool.{ltb-true, ltb-false}
use Rattle.std.proofs.lemmas.List.{map-append, take_more, take_all, length-map, length-take-le}
use Rattle.std.proofs.lemmas.Option.{slice_get-map, slice_get_past, slice_get_read}
use Rattle.std.proofs.lemmas.Slice.Eq.{bytes_eq-Decides}
use Rattle.sg_circuit.specs.declared.scopes.Variable as code_variable
use Rattle.sg_circuit.specs.Circuit.{Circuit, scope_at}
use Rattle.sg_circuit.specs.Seen.{variable_seen}
use Rattle.stim_read.specs.Inputs.{input_named}
use Rattle.stim_read.specs.ByName.{is_input_of, one_more}

-- ---- first places

or-suc : (o p : Option ℕ) → option_map suc (option_or o p) ≡ option_or (option_map suc o) (option_map suc p)
or-suc None p = refl
or-suc (Some k) p = refl

place-suc : {A : Type 0} (test : A → Bool) (k : ℕ) (xs : List A) → position_from test (k + 1) xs ≡ option_map suc (position_from test k xs)
place-suc test k [] = refl
place-suc test k (x ∷ xs) = by (test x) (place-suc test (k + 1) xs)
  where
    by : (b : Bool) → position_from test (k + 1 + 1) xs ≡ option_map suc (position_from test (k + 1) xs)
        → (if b then Some (k + 1) else position_from test (k + 1 + 1) xs) ≡ option_map suc (if b then Some k else position_from test (k + 1) xs)
    by true rec = ap (λ n. Some n) (omega arith)
    by false rec = rec

-- what stands at the first place is what is found
pub at-place : {A : Type 0} (test : A → Bool) (xs : List A) → option_and_then (slice_get xs) (position_from test 0 xs) ≡ find test xs
at-place test [] = refl
at-place {A} test (x ∷ xs) = by (test x) (at-place test xs)
  where
    behind : (o : Option ℕ) → option_and_then (slice_get (x ∷ xs)) (option_map suc o) ≡ option_and_then (slice_get xs) o
    behind None = refl
    behind (Some k) = refl

    by : (b : Bool) → option_and_then (slice_get xs) (position_from test 0 xs) ≡ find test xs
        → option_and_then (slice_get (x ∷ xs)) (if b then Some 0 else position_from test 1 xs) ≡ (if b then Some x else find test xs)
    by true rec = refl
    by false rec = ap (option_and_then (slice_get (x ∷ xs))) (place-suc test 0 xs) ∙ behind (position_from test 0 xs) ∙ rec

-- among one more
pub place-more : {A : Type 0} (test : A → Bool) (k : ℕ) (xs : List A) (y : A) → position_from test k (xs ++ y ∷ []) ≡ one_more (position_from test k xs) (test y) (k + length xs)
place-more test k [] y = by (test y)
  where
    by : (b : Bool) → (if b then Some k else None) ≡ (if b then Some (k + 0) else None)
    by true = ap (λ n. Some n) (omega arith)
    by false = refl
place-more test k (x ∷ xs) y = by (test x) (place-more test (k + 1) xs y)
  where
    longer : (b : Bool) (o : Option ℕ) → one_more o b (k + 1 + length xs) ≡ one_more o b (k + suc (length xs))
    longer b o = ap (one_more o b) (omega arith)

    by : (b : Bool) → position_from test (k + 1) (xs ++ y ∷ []) ≡ one_more (position_from test (k + 1) xs) (test y) (k + 1 + length xs)
        → (if b then Some k else position_from test (k + 1) (xs ++ y ∷ [])) ≡ one_more (if b then Some k else position_from test (k + 1) xs) (test y) (k + suc (length xs))
    by true rec = refl
    by false rec = rec ∙ longer (test y) (position_from test (k + 1) xs)

-- ---- a table of places

-- a name, as a key
abbrev pub key : List ℕ → Bor (List ℕ)
key n = record { ref_ptr = (0, 0); now = n }

is-none : {A : Type 0} (o : Option A) → is_some o ≡ false → o ≡ None
is-none None h = refl
is-none (Some x) h = cc

none-more : (o : Option ℕ) (place : ℕ) → o ≡ one_more o false place
none-more None place = refl
none-more (Some k) place = refl

-- a name that has no place yet is given one
pub put-in : (name : List ℕ) (place : ℕ) (old new : Bor (List ℕ) → Option ℕ) → is_some (old (key name)) ≡ false → ((q : Bor (List ℕ)) → new q ≡ cond (bytes_eq name q.now) (Some place) (old q))
    → (n : List ℕ) → new (key n) ≡ one_more (old (key n)) (bytes_eq name n) place
put-in name place old new absent h n = by (bytes_eq name n) refl
  where
    by : (b : Bool) → bytes_eq name n ≡ b → new (key n) ≡ one_more (old (key n)) (bytes_eq name n) place
    by true e =
        let none : old (key n) ≡ None = ap (λ m. old (key m)) (sym ((bytes_eq-Decides name n).0 e)) ∙ is-none (old (key name)) absent in
        h (key n) ∙ ap (λ b. cond b (Some place) (old (key n))) e
        ∙ sym (ap (λ o. one_more o (bytes_eq name n) place) none ∙ ap (λ b. one_more None b place) e)
    by false e = h (key n) ∙ ap (λ b. cond b (Some place) (old (key n))) e ∙ none-more (old (key n)) place ∙ sym (ap (λ b. one_more (old (key n)) b place) e)

none-before : (n : ℕ) → n ≡ 0 + n
none-before n = omega arith

-- a variable more is in
pub next-place : (circuit : Circuit) (xs : List code_variable.Variable) (i : ℕ) (x : code_variable.Variable) (old new : List ℕ → Option ℕ) → i < length xs → x ≡ slice_index_or xs i x
    → ((n : List ℕ) → old n ≡ position_from (is_input_of circuit n) 0 (map (λ v. variable_seen v) (take i xs)))
    → ((n : List ℕ) → new n ≡ one_more (old n) (is_input_of circuit n (variable_seen x)) i)
    → (n : List ℕ) → new n ≡ position_from (is_input_of circuit n) 0 (map (λ v. variable_seen v) (take (i + 1) xs))
next-place circuit xs i x old new lt at so_far more n =
    let before = map (λ v. variable_seen v) (take i xs) in
    let count : length before ≡ i = length-map (take i xs) (λ v. variable_seen v) ∙ length-take-le i xs (omega arith) in
    let longer : take (i + 1) xs ≡ take i xs ++ x ∷ [] = take_more xs i x lt ∙ ap (λ y. take i xs ++ y ∷ []) (sym at) in
    more n ∙ ap (λ o. one_more o (is_input_of circuit n (variable_seen x)) i) (so_far n)
    ∙ ap (one_more (position_from (is_input_of circuit n) 0 before) (is_input_of circuit n (variable_seen x))) (sym count)
    ∙ ap (one_more (position_from (is_input_of circuit n) 0 before) (is_input_of circuit n (variable_seen x))) (none-before (length before))
    ∙ sym (place-more (is_input_of circuit n) 0 before (variable_seen x))
    ∙ ap (position_from (is_input_of circuit n) 0) (sym (ap (map (λ v. variable_seen v)) longer ∙ map-append (λ v. variable_seen v) (take i xs) (x ∷ [])))

pub all-places : (circuit : Circuit) (xs : List code_variable.Variable) (i : ℕ) (places : List ℕ → Option ℕ) → length xs ≤ i
    → ((n : List ℕ) → places n ≡ position_from (is_input_of circuit n) 0 (map (λ v. variable_seen v) (take i xs)))
    → (n : List ℕ) → places n ≡ position_from (is_input_of circuit n) 0 (map (λ v. variable_seen v) xs)
all-places circuit xs i places le h n = h n ∙ ap (λ l. position_from (is_input_of circuit n) 0 (map (λ v. variable_seen v) l)) (take_all i xs le)

-- ---- the input of a name

-- what `get` gives
pub item-at : {A : Type 0} (xs : List A) (k : ℕ) (r : Option (Bor A)) → is_some r ≡ nat_lt k (length xs) → IfSome r (λ x. x.now ≡ slice_index_or xs k x.now) → option_copied r ≡ slice_get xs k
item-at xs k None e h = sym (slice_get_past xs k (ltb-false k (length xs) (sym e)))
item-at xs k (Some x) e h = sym (slice_get_read xs (length xs) k x.now refl (ltb-true k (length xs) (sym e)) h)

seen-twice : (r : Option (Bor code_variable.Variable)) → option_map (λ v. variable_seen v.now) r ≡ option_map (λ v. variable_seen v) (option_copied r)
seen-twice None = refl
seen-twice (Some v) = refl

seen-at : (vs : List code_variable.Variable) (place : Option ℕ) → option_map (λ v. variable_seen v) (option_and_then (slice_get vs) place) ≡ option_and_then (slice_get (map (λ v. variable_seen v) vs)) place
seen-at vs None = refl
seen-at vs (Some k) = sym (slice_get-map (λ v. variable_seen v) vs k)

pub input-found : (circuit : Circuit) (name : List ℕ) (vs : List code_variable.Variable) (place : Option ℕ) (r : Option (Bor code_variable.Variable))
    → place ≡ position_from (is_input_of circuit name) 0 (scope_at circuit 0).variables → map (λ v. variable_seen v) vs ≡ (scope_at circuit 0).variables
    → option_copied r ≡ option_and_then (slice_get vs) place → option_map (λ v. variable_seen v.now) r ≡ input_named circuit name
input-found circuit name vs place r p all e =
    seen-twice r ∙ ap (option_map (λ v. variable_seen v)) e ∙ seen-at vs place ∙ ap (λ l. option_and_then (slice_get l) place) all
    ∙ ap (option_and_then (slice_get (scope_at circuit 0).variables)) p ∙ at-place (is_input_of circuit name) (scope_at circuit 0).variables

pub no-input : (circuit : Circuit) (name : List ℕ) → None ≡ position_from (is_input_of circuit name) 0 (scope_at circuit 0).variables → None ≡ input_named circuit name
no-input circuit name p = ap (option_and_then (slice_get (scope_at circuit 0).variables)) p ∙ at-place (is_input_of circuit name) (scope_at circuit 0).variables
