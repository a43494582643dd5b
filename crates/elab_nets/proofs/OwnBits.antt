-- The bits of an instance take their numbers one after another.
use Rattle.std.specs.Prelude.{◌≡◌, ℕ, suc, ◌+◌, ◌<◌, ◌≤◌, List, [], ◌∷◌, ◌++◌, Bool, false, Option, Some, None, length, drop, refl, slice_index_or}
use Rattle.std.proofs.Common.{sym, ◌∙◌, ap, arith, add-one, add-zero, drop-cons}
use Rattle.std.proofs.lemmas.List.{drop_all}
use Rattle.sg_circuit.specs.declared.nets.Net.{Net}
use Rattle.sg_circuit.specs.declared.scopes.Port.TheVariants as port
use Rattle.elab_model.specs.Names.{Variable}
use Rattle.elab_laws.specs.Handing.{numbered, new_count}
use Rattle.elab_nets.specs.Own.{given_in, given_row, new_nets}
use Rattle.elab_nets.proofs.Counts.{piece-added, nothing-left, count-added}

-- what stands past the end of a row
abbrev pub blank : Variable × ℕ
blank = (record { name = []; range = None; is_reg = false; port = port.Inner }, 0)

-- what the bits from a place on are given
abbrev pub given_from : Bool → List (Variable × ℕ) → List (Option ℕ) → ℕ → List (Option ℕ)
given_from leaf bs os i = given_row leaf (drop i bs) (drop i os)

pub given-next : (leaf : Bool) (bs : List (Variable × ℕ)) (os : List (Option ℕ)) (i : ℕ) (d : Variable × ℕ) (o : Option ℕ) → i < length bs → i < length os
    → given_from leaf bs os i ≡ given_in leaf (slice_index_or bs i d) (slice_index_or os i o) ∷ given_from leaf bs os (i + 1)
given-next leaf bs os i d o lt below =
    let n : suc i ≡ i + 1 = omega arith in
    ap (λ xs. given_row leaf xs (drop i os)) (drop-cons bs i d lt) ∙ ap (λ xs. given_row leaf (slice_index_or bs i d ∷ drop (suc i) bs) xs) (drop-cons os i o below)
    ∙ ap (λ k. given_in leaf (slice_index_or bs i d) (slice_index_or os i o) ∷ given_from leaf bs os k) n

pub given-none : (leaf : Bool) (bs : List (Variable × ℕ)) (os : List (Option ℕ)) (i : ℕ) → length os ≤ i → length os ≡ length bs → given_from leaf bs os i ≡ []
given-none leaf bs os i le e = let f : length bs ≤ i = omega arith in ap (λ xs. given_row leaf xs (drop i os)) (drop_all i bs f)

-- one bit, and those behind it
pub numbered-cons : (n : ℕ) (g : Option ℕ) (gs : List (Option ℕ)) → numbered n (g ∷ gs) ≡ numbered n (g ∷ []) ++ numbered (n + new_count (g ∷ [])) gs
numbered-cons n None gs = ap (λ k. n ∷ numbered k gs) (sym (add-one n))
numbered-cons n (Some k) gs = ap (λ m. k ∷ numbered m gs) (sym (add-zero n))

pub nets-cons : (scope : ℕ) (b : Variable × ℕ) (bs : List (Variable × ℕ)) (g : Option ℕ) (gs : List (Option ℕ)) → new_nets scope (b ∷ bs) (g ∷ gs) ≡ new_nets scope (b ∷ []) (g ∷ []) ++ new_nets scope bs gs
nets-cons scope b bs None gs = refl
nets-cons scope b bs (Some k) gs = refl

pub count-cons : (g : Option ℕ) (gs : List (Option ℕ)) → new_count (g ∷ gs) ≡ new_count (g ∷ []) + new_count gs
count-cons None gs = omega arith
count-cons (Some k) gs = omega arith

pub net-count : (scope : ℕ) (b : Variable × ℕ) (g : Option ℕ) → length (new_nets scope (b ∷ []) (g ∷ [])) ≡ new_count (g ∷ [])
net-count scope b None = refl
net-count scope b (Some k) = refl

-- what has been added so far, of what is to be added in all
pub record AreAdded (scope : ℕ) (leaf : Bool) (bs : List (Variable × ℕ)) (os : List (Option ℕ)) (first : List ℕ) (before : List Net) (i : ℕ) (inner : List ℕ) (nets : List Net) : Type 0 where
  pub numbers : inner ++ numbered (length nets) (given_from leaf bs os i) ≡ first ++ numbered (length before) (given_row leaf bs os)
  pub made : nets ++ new_nets scope (drop i bs) (given_from leaf bs os i) ≡ before ++ new_nets scope bs (given_row leaf bs os)
  pub count : length nets + new_count (given_from leaf bs os i) ≡ length before + new_count (given_row leaf bs os)

-- one bit more
pub bit-added : (scope : ℕ) (leaf : Bool) (bs : List (Variable × ℕ)) (os : List (Option ℕ)) (first : List ℕ) (before : List Net) (i : ℕ) (inner : List ℕ) (nets : List Net) (d : Variable × ℕ) (o g : Option ℕ)
    (more : List ℕ) (later : List Net) → i < length bs → i < length os → g ≡ given_in leaf (slice_index_or bs i d) (slice_index_or os i o)
    → more ≡ inner ++ numbered (length nets) (g ∷ []) → later ≡ nets ++ new_nets scope (slice_index_or bs i d ∷ []) (g ∷ []) → AreAdded scope leaf bs os first before i inner nets
    → AreAdded scope leaf bs os first before (i + 1) more later
bit-added scope leaf bs os first before i inner nets d o g more later lt below is m l h =
    let b = slice_index_or bs i d in
    let gs = given_from leaf bs os (i + 1) in
    let next : given_from leaf bs os i ≡ g ∷ gs = given-next leaf bs os i d o lt below ∙ ap (λ x. x ∷ gs) (sym is) in
    let n : suc i ≡ i + 1 = omega arith in
    let bits : drop i bs ≡ b ∷ drop (i + 1) bs = drop-cons bs i d lt ∙ ap (λ k. b ∷ drop k bs) n in
    let count : length later ≡ length nets + new_count (g ∷ []) = count-added nets (new_nets scope (b ∷ []) (g ∷ [])) later l ∙ ap (λ k. length nets + k) (net-count scope b g) in
    record {
      numbers = piece-added inner (numbered (length nets) (g ∷ [])) (numbered (length later) gs) more (numbered (length nets) (given_from leaf bs os i)) _
          (ap (numbered (length nets)) next ∙ numbered-cons (length nets) g gs ∙ ap (λ k. numbered (length nets) (g ∷ []) ++ numbered k gs) (sym count)) m h.numbers;
      made = piece-added nets (new_nets scope (b ∷ []) (g ∷ [])) (new_nets scope (drop (i + 1) bs) gs) later (new_nets scope (drop i bs) (given_from leaf bs os i)) _
          (ap (λ xs. new_nets scope xs (given_from leaf bs os i)) bits ∙ ap (new_nets scope (b ∷ drop (i + 1) bs)) next ∙ nets-cons scope b (drop (i + 1) bs) g gs) l h.made;
      count =
          let c : new_count (given_from leaf bs os i) ≡ new_count (g ∷ []) + new_count gs = ap new_count next ∙ count-cons g gs in
          let k = h.count in
          omega arith;
    }

-- all are there
pub all-added : (scope : ℕ) (leaf : Bool) (bs : List (Variable × ℕ)) (os : List (Option ℕ)) (first : List ℕ) (before : List Net) (i : ℕ) (inner : List ℕ) (nets : List Net) → length os ≤ i → length os ≡ length bs
    → AreAdded scope leaf bs os first before i inner nets
    → (inner ≡ first ++ numbered (length before) (given_row leaf bs os)) × (nets ≡ before ++ new_nets scope bs (given_row leaf bs os))
all-added scope leaf bs os first before i inner nets le e h =
    let none = given-none leaf bs os i le e in
    let past : length bs ≤ i = omega arith in (
      nothing-left inner (numbered (length nets) (given_from leaf bs os i)) _ (ap (numbered (length nets)) none) h.numbers,
      nothing-left nets (new_nets scope (drop i bs) (given_from leaf bs os i)) _ (ap (λ xs. new_nets scope xs (given_from leaf bs os i)) (drop_all i bs past)) h.made,
    )

-- and so many there would be where one more is too many
pub would-be : (scope : ℕ) (leaf : Bool) (bs : List (Variable × ℕ)) (os : List (Option ℕ)) (first : List ℕ) (before : List Net) (i : ℕ) (inner : List ℕ) (nets : List Net) (d : Variable × ℕ) (o g : Option ℕ)
    → i < length bs → i < length os → g ≡ given_in leaf (slice_index_or bs i d) (slice_index_or os i o) → AreAdded scope leaf bs os first before i inner nets
    → length nets + new_count (g ∷ []) + new_count (given_from leaf bs os (i + 1)) ≡ length before + new_count (given_row leaf bs os)
would-be scope leaf bs os first before i inner nets d o g lt below is h =
    let gs = given_from leaf bs os (i + 1) in
    let next : given_from leaf bs os i ≡ g ∷ gs = given-next leaf bs os i d o lt below ∙ ap (λ x. x ∷ gs) (sym is) in
    let c : new_count (given_from leaf bs os i) ≡ new_count (g ∷ []) + new_count gs = ap new_count next ∙ count-cons g gs in
    let k = h.count in
    omega arith
