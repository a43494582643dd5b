-- Passing over tokens with paired parentheses, as a loop does that counts those that are open.
use Rattle.std.proofs.Common.{◌≡◌, ℕ, suc, ◌+◌, ◌-◌, ◌<◌, ◌≤◌, Bool, true, false, List, length, Some, None, Result, Ok, Err, refl, arith}
use Rattle.std.specs.Prelude.{◌==◌, if◌then◌else◌}
use Rattle.grammar.specs.Reading.{◌>>=◌}
use Rattle.grammar.specs.Rule.{one, stands}
use Rattle.grammar.specs.States.{many_by}
use Rattle.grammar.proofs.Laws.{one-exact}
use Rattle.grammar.proofs.Loops.{stands_within}
use Rattle.grammar.proofs.LoopsBy.{state_goes_on, state_ends, state_refused, by_advances}
use Rattle.sdf_lex.specs.Tokens.{Lexeme}
use Rattle.sdf_tree.specs.Kinds.{kind_of, is_left, is_right}
use Rattle.sdf_tree.specs.Rules.{Grammar}
use Rattle.sdf_tree.specs.Values.{is_inside, unclosed_after, balanced_continue, balanced_parts, balanced}
use Rattle.sdf_terms.specs.Balanced.{StepTaken}

abbrev inside : ℕ → Grammar Lexeme
inside n = one kind_of (is_inside n)

abbrev ended : ℕ → Bool
ended n = n == 0

module _ (ts : List Lexeme) where
  abbrev forgotten : List Lexeme × ℕ → Result (Unit {0} × ℕ) ℕ
  forgotten y = Ok (tt, y.1)

  -- what is left, which leaves no trace
  abbrev pub left_over : ℕ → ℕ → Result (Unit {0} × ℕ) ℕ
  left_over unclosed i = (many_by kind_of balanced_continue inside unclosed_after ended unclosed).read ts i >>= forgotten

  pub begun : (i : ℕ) → left_over 0 i ≡ balanced.read ts i
  unfolding balanced_parts
  begun i = refl

  module _ (unclosed i : ℕ) where
    there : (after : ℕ) → StepTaken ts i unclosed (Some after) → stands kind_of (is_inside unclosed) ts i ≡ true
    there after s = rw s.1 s.2

    taken : (after : ℕ) (s : StepTaken ts i unclosed (Some after)) → (inside unclosed).read ts i ≡ Ok (s.0, i + 1)
    taken after s = rw s.1 (rw s.2 refl)

    pub token_goes_on : (total : Result (Unit {0} × ℕ) ℕ) (after : ℕ) → StepTaken ts i unclosed (Some after) → left_over unclosed i ≡ total → left_over after (i + 1) ≡ total
    token_goes_on total after s so_far =
        let more = state_goes_on kind_of balanced_continue inside unclosed_after ended (λ n. one-exact kind_of (is_inside n)) (λ n. refl) ts (λ (x : Lexeme). x) forgotten total unclosed i s.0 (i + 1) (there after s) (taken after s) so_far in
        rw (← s.3) more

    pub token_advances : (after : ℕ) → StepTaken ts i unclosed (Some after) → length ts - (i + 1) < length ts - i
    token_advances after s = by_advances kind_of balanced_continue inside unclosed_after ended (λ n. one-exact kind_of (is_inside n)) (λ n. refl) ts (λ (x : Lexeme). x) unclosed i s.0 (i + 1) (there after s) (taken after s)

    pub token_within : (after : ℕ) → StepTaken ts i unclosed (Some after) → i < length ts
    token_within after s = stands_within kind_of (inside unclosed) (one-exact kind_of (is_inside unclosed)) refl ts (is_inside unclosed) i (there after s)

    if_few : (b : Bool) → (if b then unclosed - 1 else unclosed) ≤ unclosed + 1
    if_few true = omega arith
    if_few false = omega arith

    few : (b c : Bool) → (if b then suc unclosed else (if c then unclosed - 1 else unclosed)) ≤ unclosed + 1
    few true c = omega arith
    few false c = if_few c

    pub token_few : (after : ℕ) → StepTaken ts i unclosed (Some after) → after ≤ unclosed + 1
    token_few after s = rw (← s.3) (few (is_left (kind_of s.0)) (is_right (kind_of s.0)))

    pub tokens_end : (total : Result (Unit {0} × ℕ) ℕ) → StepTaken ts i unclosed None → unclosed ≡ 0 → left_over unclosed i ≡ total → total ≡ Ok (tt, i)
    tokens_end total none e so_far = state_ends kind_of balanced_continue inside unclosed_after ended (λ n. one-exact kind_of (is_inside n)) (λ n. refl) ts (λ (x : Lexeme). x) forgotten total unclosed i none (rw e refl) so_far

    pub tokens_refused : (total : Result (Unit {0} × ℕ) ℕ) → StepTaken ts i unclosed None → (unclosed == 0) ≡ false → left_over unclosed i ≡ total → total ≡ Err i
    tokens_refused total none e so_far = state_refused kind_of balanced_continue inside unclosed_after ended (λ n. one-exact kind_of (is_inside n)) (λ n. refl) ts (λ (x : Lexeme). x) forgotten total unclosed i none e so_far
