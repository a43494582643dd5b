-- What rows tell, one after another.
use Rattle.std.proofs.Common.{◌≡◌, ◌∙◌, sym, ap, refl, ℕ, zero, suc, ◌+◌, ◌<◌, ◌≤◌, List, [], ◌∷◌, ◌++◌, length, map, drop, append_assoc, arith}
use Rattle.std.proofs.lemmas.List.{append-nil, map-append}
use Rattle.std.specs.Prelude.{Result, Ok, Err, slice_index_or}
use Rattle.std.specs.Borrow.{Bor}
use Rattle.tally_violations.specs.Rows.{Row, passed, told, faulty, told_from, then_more, with_one, words}
use Rattle.tally_violations.specs.Seen.{AddsRow, row_seen}
use Rattle.tally_violations.specs.declared.rows.Row as code
use Rattle.tally_violations.specs.declared.rows.Row.TheVariants as row
use Rattle.tally_violations.specs.declared.rows.Unread.TheVariants as unread

-- what was told before the rest
abbrev pub behind : {X : Type 0} → List X → Result (List X) ℕ → Result (List X) ℕ
behind xs (Ok ys) = Ok (xs ++ ys)
behind xs (Err line) = Err line

behind-none : {X : Type 0} (r : Result (List X) ℕ) → behind [] r ≡ r
behind-none (Ok ys) = refl
behind-none (Err line) = refl

behind-one : {X : Type 0} (xs : List X) (x : X) (r : Result (List X) ℕ) → behind (xs ++ x ∷ []) r ≡ behind xs (with_one x r)
behind-one xs x (Ok ys) = ap (λ l. Ok l) (append_assoc xs (x ∷ []) ys)
behind-one xs x (Err line) = refl

module _ {Y : Type 0} (says : ℕ → List (List ℕ) → Row Y) where
  pub none_told : (xs : List Y) (rows : List (Bor (List ℕ))) → xs ≡ [] → behind xs (told_from says 1 (map (λ r. r.now) rows)) ≡ told_from says 1 (map (λ r. r.now) rows)
  none_told xs rows e = ap (λ l. behind l (told_from says 1 (map (λ (r : Bor (List ℕ)). r.now) rows))) e ∙ behind-none (told_from says 1 (map (λ (r : Bor (List ℕ)). r.now) rows))

  next_row : (n i : ℕ) (rows : List (Bor (List ℕ))) (d : Bor (List ℕ)) → i < length rows
      → told_from says n (map (λ r. r.now) (drop i rows)) ≡ then_more n (says n (words (slice_index_or rows i d).now)) (told_from says (suc n) (map (λ r. r.now) (drop (suc i) rows)))
  next_row n i [] d lt = absurd (omega arith)
  next_row n zero (r ∷ rows) d lt = refl
  next_row n (suc i) (r ∷ rows) d lt = next_row n i rows d (omega arith)

  pub all_told : (xs : List Y) (i : ℕ) (rows : List (Bor (List ℕ))) (total : Result (List Y) ℕ) → length rows ≤ i → behind xs (told_from says (suc i) (map (λ r. r.now) (drop i rows))) ≡ total → total ≡ Ok xs
  all_told xs i rows total le e = sym e ∙ by (drop i rows) (none i rows le)
    where
      none : (i : ℕ) (rows : List (Bor (List ℕ))) → length rows ≤ i → drop i rows ≡ []
      none zero [] le = refl
      none (suc i) [] le = refl
      none zero (r ∷ rows) le = absurd (omega arith)
      none (suc i) (r ∷ rows) le = none i rows (omega arith)

      by : (left : List (Bor (List ℕ))) → left ≡ [] → behind xs (told_from says (suc i) (map (λ r. r.now) left)) ≡ Ok xs
      by [] e = ap (λ l. Ok l) (append-nil xs)
      by (r ∷ left) e = absurd cc

  module _ {X : Type 0} (f : X → Y) (items new : List X) (line i next : ℕ) (rows : List (Bor (List ℕ))) (d : Bor (List ℕ)) (r : code.Row X) (ws : List (List ℕ)) (total : Result (List Y) ℕ)
      (lt : i < length rows) (is_line : line ≡ suc i) (is_next : next ≡ suc i) (there : ws ≡ words (slice_index_or rows i d).now) (seen : row_seen f r ≡ says line ws)
      (so_far : behind (map f items) (told_from says (suc i) (map (λ r. r.now) (drop i rows))) ≡ total) where
    abbrev rest : Result (List Y) ℕ
    rest = told_from says (suc (suc i)) (map (λ (r : Bor (List ℕ)). r.now) (drop (suc i) rows))

    here : behind (map f items) (then_more (suc i) (row_seen f r) rest) ≡ total
    here =
        ap (λ x. behind (map f items) (then_more (suc i) x rest)) (seen ∙ (ap (λ n. says n ws) is_line ∙ ap (says (suc i)) there))
        ∙ (ap (behind (map f items)) (sym (next_row (suc i) i rows d lt)) ∙ so_far)

    told_so : (q : code.Row X) → AddsRow q line items new (Ok tt) → behind (map f items) (then_more (suc i) (row_seen f q) rest) ≡ total → behind (map f new) rest ≡ total
    told_so row.Passed a e = ap (λ l. behind (map f l) rest) a ∙ e
    told_so (row.Told x) a e = ap (λ l. behind (map f l) rest) a ∙ (ap (λ l. behind l rest) (map-append f items (x ∷ [])) ∙ (behind-one (map f items) (f x) rest ∙ e))
    told_so row.Faulty a e = absurd a

    pub row_told : AddsRow r line items new (Ok tt) → behind (map f new) (told_from says (suc next) (map (λ r. r.now) (drop next rows))) ≡ total
    row_told adds = ap (λ n. behind (map f new) (told_from says (suc n) (map (λ (r : Bor (List ℕ)). r.now) (drop n rows)))) is_next ∙ told_so r adds here

    stops_so : (q : code.Row X) (n : ℕ) → q ≡ row.Faulty → n ≡ line → behind (map f items) (then_more (suc i) (row_seen f q) rest) ≡ total → total ≡ Err n
    stops_so row.Faulty n q e h = sym h ∙ ap (λ k. Err k) (sym (e ∙ is_line))
    stops_so row.Passed n q e h = absurd cc
    stops_so (row.Told x) n q e h = absurd cc

    pub row_stops : (n : ℕ) → r ≡ row.Faulty → n ≡ line → total ≡ Err n
    row_stops n q e = stops_so r n q e here
