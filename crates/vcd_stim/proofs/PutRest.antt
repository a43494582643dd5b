-- A value is put to the nets of one variable more.
use Rattle.std.specs.Prelude.{ℕ, ◌-◌, ◌≡◌, ◌≤◌, List, [], ◌∷◌, ◌++◌, length, map, take, drop, flat_map, slice_index_or, refl}
use Rattle.std.specs.Borrow.{Bor}
use Rattle.std.proofs.Common.{sym, ◌∙◌, ap, arith}
use Rattle.sg_logic.specs.declared.values.Value.{Value}
use Rattle.vcd_stim.specs.Steps.{nets_faults, nets_given, put_all}
use Rattle.vcd_stim.proofs.PutLaws.{put_append}

all-taken : {A : Type 0} (xs : List A) → take (length xs) xs ≡ xs
all-taken [] = refl
all-taken (x ∷ xs) = ap (λ l. x ∷ l) (all-taken xs)

behind-first : {A : Type 0} (x : A) (xs : List A) → take (length (x ∷ xs) - 1) xs ≡ xs
behind-first x xs =
    let n : length (x ∷ xs) - 1 ≡ length xs = omega arith in
    ap (λ m. take m xs) n ∙ all-taken xs

pub rest-put : (bits : List ℕ) (old new : List (ℕ × Value)) (rest : List (Bor (List ℕ))) (d : Bor (List ℕ)) → 1 ≤ length rest → new ≡ put_all old (nets_given bits (slice_index_or rest 0 d).now)
    → put_all old (flat_map (nets_given bits) (map (λ n. n.now) rest)) ≡ put_all new (flat_map (nets_given bits) (map (λ n. n.now) (take (length rest - 1) (drop 1 rest))))
rest-put bits old new [] d le n = absurd (omega (arith, le))
rest-put bits old new (x ∷ xs) d le n =
    put_append old (nets_given bits x.now) (flat_map (nets_given bits) (map (λ n. n.now) xs)) ∙ ap (λ es. put_all es (flat_map (nets_given bits) (map (λ n. n.now) xs))) (sym n)
    ∙ ap (λ l. put_all new (flat_map (nets_given bits) (map (λ n. n.now) l))) (sym (behind-first x xs))

pub rest-faults : (byte : ℕ) (bits : List ℕ) (rest : List (Bor (List ℕ))) (d : Bor (List ℕ)) → 1 ≤ length rest → nets_faults byte bits (slice_index_or rest 0 d).now ≡ []
    → flat_map (nets_faults byte bits) (map (λ n. n.now) rest) ≡ flat_map (nets_faults byte bits) (map (λ n. n.now) (take (length rest - 1) (drop 1 rest)))
rest-faults byte bits [] d le e = absurd (omega (arith, le))
rest-faults byte bits (x ∷ xs) d le e =
    ap (λ l. l ++ flat_map (nets_faults byte bits) (map (λ n. n.now) xs)) e ∙ ap (λ l. flat_map (nets_faults byte bits) (map (λ n. n.now) l)) (sym (behind-first x xs))
