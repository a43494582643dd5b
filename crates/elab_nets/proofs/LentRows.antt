-- A row that is lent from behind others, and put back.
use Rattle.std.specs.Prelude.{◌≡◌, ℕ, ◌+◌, ◌-◌, List, [], ◌++◌, take, drop, length}
use Rattle.std.proofs.Common.{sym, ◌∙◌, ap, arith, append-nil, length-append}
use Rattle.std.proofs.lemmas.List.{take_all, take_at, drop_all, drop_at}
use borrow.Rule.Slice.PartMut.{post_of}

-- the part behind what was there
pub tail-is : {A : Type 0} (old row items whole : List A) (first : ℕ) → items ≡ old ++ row → whole ≡ items → first ≡ length old → take (length whole - first) (drop first whole) ≡ row
tail-is old row items whole first is same at =
    let behind : drop first whole ≡ row = ap (drop first) (same ∙ is) ∙ drop_at old row first (sym at) in
    let size : length whole ≡ length old + length row = ap length (same ∙ is) ∙ length-append old row in
    ap (take (length whole - first)) behind ∙ take_all (length whole - first) row (omega arith)

-- and the whole, when another of the same length is put there
pub tail-put : {A : Type 0} (old row new items whole : List A) (first len : ℕ) → items ≡ old ++ row → whole ≡ items → first ≡ length old → len ≡ length items → length new ≡ length row
    → take len ((take first whole ++ (new ++ post_of first (length whole - first) whole)) ++ drop (length (take first whole ++ (new ++ post_of first (length whole - first) whole))) items) ≡ old ++ new
tail-put old row new items whole first len is same at size wide =
    let front : take first whole ≡ old = ap (take first) (same ∙ is) ∙ take_at old row first (sym at) in
    let behind : drop first whole ≡ row = ap (drop first) (same ∙ is) ∙ drop_at old row first (sym at) in
    let long : length whole ≡ length old + length row = ap length (same ∙ is) ∙ length-append old row in
    let none : post_of first (length whole - first) whole ≡ [] = ap (drop (length whole - first)) behind ∙ drop_all (length whole - first) row (omega arith) in
    let put : take first whole ++ (new ++ post_of first (length whole - first) whole) ≡ old ++ new = ap (λ xs. xs ++ (new ++ post_of first (length whole - first) whole)) front
    ∙ ap (λ xs. old ++ (new ++ xs)) none ∙ ap (λ xs. old ++ xs) (append-nil new) in
    let count : length items ≡ length old + length row = ap length is ∙ length-append old row in
    let made : length (old ++ new) ≡ length old + length new = length-append old new in
    let rest : drop (length (old ++ new)) items ≡ [] = drop_all (length (old ++ new)) items (omega arith) in
    ap (λ xs. take len (xs ++ drop (length xs) items)) put ∙ ap (λ xs. take len ((old ++ new) ++ xs)) rest ∙ ap (take len) (append-nil (old ++ new)) ∙ take_all len (old ++ new) (omega arith)
