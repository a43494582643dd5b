-- The words as arguments: one argument more, and where the words before `--` end.
use Rattle.std.proofs.Common.{◌≡◌, ℕ, ◌+◌, ◌-◌, ◌≤◌, ◌⊎◌, inl, inr, List, [], ◌∷◌, ◌++◌, take, drop, map, length, Bool, true, false, cond, min, refl, sym, ap, ◌∙◌, arith, Option, Some, None, option_map, append_assoc, unwrap_or, nat_lt, slice_index_or}
use Rattle.std.proofs.lemmas.Bool.{ltb-true, ltb-false}
use Rattle.std.proofs.lemmas.List.{take-map, drop-map, take_all, drop_all, length-drop, map-append}
use Rattle.std.proofs.lemmas.List.Sums.{prefix_len-le-length}
use Rattle.std.specs.Prelude.{not, position}
use Rattle.std.specs.List.{position_or_len, before_first, after_first}
use Rattle.fit_words.proofs.FrontLaws.{front_words}
use Rattle.fit_words.specs.declared.arguments.Argument as code
use Rattle.fit_words.specs.Arguments.{Argument, arguments_before}
use Rattle.fit_words.specs.ArgumentsSeen.{argument_seen, ComesFirst}

nat_le_total : (a b : ℕ) → (a ≤ b) ⊎ (b ≤ a)
nat_le_total a b =
    let by : (t : Bool) → nat_lt b a ≡ t → (a ≤ b) ⊎ (b ≤ a) =
    λ t. elim t as (λ v. nat_lt b a ≡ v → (a ≤ b) ⊎ (b ≤ a)) [ true ↦ λ e. inr (omega (arith, ltb-true b a e)) | false ↦ λ e. inl (ltb-false b a e) ] in
    by (nat_lt b a) refl

-- the arguments so far and one more
pub one_more : (total before rest : Option (List Argument)) (done : List Argument) (a : Argument) → total ≡ option_map (λ more. done ++ more) before → before ≡ option_map (λ more. a ∷ more) rest → total ≡ option_map (λ more. (done ++ a ∷ []) ++ more) rest
one_more total before None done a e f = e ∙ ap (λ b. option_map (λ more. done ++ more) b) f
one_more total before (Some more) done a e f = e ∙ ap (λ b. option_map (λ more. done ++ more) b) f ∙ ap (λ l. Some l) (sym (append_assoc done (a ∷ []) more))

-- a test of what the words hold finds the same place
pub same_place : {X : Type 0} (f : X → List ℕ) (p : List ℕ → Bool) (words : List X) → position_or_len (λ w. p (f w)) words ≡ position_or_len p (map f words)
same_place f p [] = refl
same_place f p (w ∷ ws) = ap (λ n. cond (not (p (f w))) (1 + n) 0) (same_place f p ws)

pub place_or_end : {X : Type 0} (p : X → Bool) (xs : List X) → unwrap_or (position p xs) (length xs) ≡ position_or_len p xs
place_or_end p xs =
    let by : (b : Bool) → nat_lt (position_or_len p xs) (length xs) ≡ b → unwrap_or (cond b (Some (position_or_len p xs)) None) (length xs) ≡ position_or_len p xs =
    λ b. elim b as (λ v. nat_lt (position_or_len p xs) (length xs) ≡ v → unwrap_or (cond v (Some (position_or_len p xs)) None) (length xs) ≡ position_or_len p xs) [
      | true ↦ λ e. refl
      | false ↦ λ e. omega (arith, ltb-false (position_or_len p xs) (length xs) e, prefix_len-le-length (λ x. not (p x)) xs)
    ] in
    by (nat_lt (position_or_len p xs) (length xs)) refl

pub place_within : {X : Type 0} (p : X → Bool) (xs : List X) → position_or_len p xs ≤ length xs
place_within p xs = prefix_len-le-length (λ x. not (p x)) xs

drop_min : {X : Type 0} (xs : List X) (n m : ℕ) → m ≡ min (length xs) n → drop m xs ≡ drop n xs
drop_min xs n m e = elim (nat_le_total (length xs) n) [
  | inl long ↦ drop_all m xs (omega arith) ∙ sym (drop_all n xs long)
  | inr short ↦ let same : m ≡ n = omega arith in ap (λ k. drop k xs) same
]

pub cut_before : {X : Type 0} (f : X → List ℕ) (p : List ℕ → Bool) (words : List X) (end : ℕ) → end ≡ position_or_len (λ w. p (f w)) words → map f (take end words) ≡ before_first p (map f words)
cut_before f p words end e = sym (take-map f end words) ∙ ap (λ n. take n (map f words)) (e ∙ same_place f p words)

pub cut_after : {X : Type 0} (f : X → List ℕ) (p : List ℕ → Bool) (words : List X) (end m : ℕ) → end ≡ position_or_len (λ w. p (f w)) words → m ≡ min (length words) (end + 1) → map f (take (length words - m) (drop m words)) ≡ after_first p (map f words)
cut_after f p words end m e h =
    let whole : take (length words - m) (drop m words) ≡ drop m words = take_all (length words - m) (drop m words) (omega (arith, length-drop m words)) in
    ap (map f) (whole ∙ drop_min words (end + 1) m h) ∙ sym (drop-map f (end + 1) words) ∙ ap (λ n. drop (n + 1) (map f words)) (e ∙ same_place f p words)

-- the loop has the arguments so far, and one more stands first
takes_one : (total : Option (List Argument)) (items now : List code.Argument) (a : code.Argument) (ws rest : List (List ℕ)) → total ≡ option_map (λ more. map argument_seen items ++ more) (arguments_before ws) → ComesFirst (argument_seen a) rest ws → now ≡ items ++ a ∷ [] → total ≡ option_map (λ more. map argument_seen now ++ more) (arguments_before rest)
takes_one total items now a ws rest e first n =
    one_more total (arguments_before ws) (arguments_before rest) (map argument_seen items) (argument_seen a) e first.reads
    ∙ ap (λ l. option_map (λ more. l ++ more) (arguments_before rest)) (sym (ap (map argument_seen) n ∙ map-append argument_seen items (a ∷ [])))

-- the same over the words that are left
pub takes_first : {W : Type 0} (f : W → List ℕ) (total : Option (List Argument)) (items now : List code.Argument) (a : code.Argument) (left : List W) (word : W) (text : List ℕ) (rest : List (List ℕ))
    → 1 ≤ length left → word ≡ slice_index_or left 0 word → text ≡ f word → total ≡ option_map (λ more. map argument_seen items ++ more) (arguments_before (map f left))
    → ComesFirst (argument_seen a) rest (text ∷ map f (take (length left - 1) (drop 1 left))) → now ≡ items ++ a ∷ [] → total ≡ option_map (λ more. map argument_seen now ++ more) (arguments_before rest)
takes_first f total items now a left word text rest some is spelled e first n =
    let words : map f left ≡ text ∷ map f (take (length left - 1) (drop 1 left)) = front_words f left word text some is spelled in
    takes_one total items now a (text ∷ map f (take (length left - 1) (drop 1 left))) rest (e ∙ ap (λ ws. option_map (λ more. map argument_seen items ++ more) (arguments_before ws)) words) first n
