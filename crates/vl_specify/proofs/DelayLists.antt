-- Reading the delays of a list, as a loop does that keeps them.
use Rattle.std.proofs.Common.{◌≡◌, ℕ, suc, ◌-◌, ◌<◌, Bool, true, false, List, [], ◌∷◌, ◌++◌, length, map, Option, Some, None, Result, Ok, Err, refl, sym, subst, ◌∙◌, arith}
use Rattle.std.specs.Prelude.{◌||◌, nat_lt, not, slice_get}
use Rattle.std.proofs.lemmas.List.{length-append}
use Rattle.grammar.specs.Reading.{Fails}
use Rattle.grammar.specs.Rule.{is_of, only_if, stands}
use Rattle.grammar.specs.declared.ReadFault.{ReadFault}
use Rattle.grammar.specs.declared.ReadFault.TheVariants as faults
use Rattle.grammar.proofs.LoopsBy.{rest_of_by, by_goes_on, by_fails, by_ends, by_refused, by_advances}
use Rattle.vl_token.specs.Tokens.{Lexeme}
use Rattle.vl_tree.specs.Amounts.{delays_continue, may_close, next_delay}
use Rattle.vl_tree.specs.Kinds.{kind_of}
use Rattle.vl_tree.specs.Tree.{Amounts}
use Rattle.vl_specify.specs.Delays.{comma_delay}
use Rattle.vl_tree.proofs.AmountsExact.{next_delay-exact, next_delay-full}

module _ {X : Type 0} (limited : Bool) (ts : List Lexeme) (view : X → Amounts) where
  -- what is read behind so many delays, together with those that are kept
  abbrev pub rest_behind : List X → ℕ → ℕ → Result (List Amounts × ℕ) ℕ
  rest_behind items n i = rest_of_by kind_of delays_continue (next_delay limited) (λ n _. suc n) (may_close limited) ts view items n i

  never : (o : Option Lexeme) → is_of kind_of (λ k. false) o ≡ true → ⊥
  never None h = cc
  never (Some t) h = cc

  one_read : (n i : ℕ) → stands kind_of (next_delay limited n).starts ts i ≡ true → (next_delay limited n).read ts i ≡ comma_delay.read ts i
  one_read n i does = go (not limited || nat_lt n 12) does
    where
      go : (b : Bool) → stands kind_of (only_if b comma_delay).starts ts i ≡ true → (only_if b comma_delay).read ts i ≡ comma_delay.read ts i
      go true does = refl
      go false does = absurd (never (slice_get ts i) does)

  module _ (i count : ℕ) (items : List X) (is : count ≡ length items) where
    pub delays_go_on : (total : Result (List Amounts × ℕ) ℕ) (x : X) (j : ℕ) → stands kind_of (next_delay limited count).starts ts i ≡ true → comma_delay.read ts i ≡ Ok (view x, j) → rest_behind items (length items) i ≡ total
        → rest_behind (items ++ x ∷ []) (length (items ++ x ∷ [])) j ≡ total
    delays_go_on total x j does h so_far =
        let here : rest_behind items count i ≡ total = subst (λ (n : ℕ). rest_behind items n i ≡ total) (sym is) so_far in
        let more = by_goes_on kind_of delays_continue (next_delay limited) (λ n _. suc n) (may_close limited) (next_delay-exact limited) (next_delay-full limited) ts view total items count i x j does (one_read count i does ∙ h) here in
        let e : suc count ≡ length (items ++ x ∷ []) = omega (arith, is, length-append items (x ∷ [])) in
        subst (λ (n : ℕ). rest_behind (items ++ x ∷ []) n j ≡ total) e more

    pub delays_fail : (total : Result (List Amounts × ℕ) ℕ) (f : ReadFault) → stands kind_of (next_delay limited count).starts ts i ≡ true → Fails f (comma_delay.read ts i) → rest_behind items (length items) i ≡ total → Fails f total
    delays_fail total faults.Memory does h so_far = tt
    delays_fail total (faults.At e) does h so_far =
        let here : rest_behind items count i ≡ total = subst (λ (n : ℕ). rest_behind items n i ≡ total) (sym is) so_far in
        by_fails kind_of delays_continue (next_delay limited) (λ n _. suc n) (may_close limited) (next_delay-exact limited) (next_delay-full limited) ts view total items count i (faults.At e) does (one_read count i does ∙ h) here

    pub delays_advance : (x : X) (j : ℕ) → stands kind_of (next_delay limited count).starts ts i ≡ true → comma_delay.read ts i ≡ Ok (view x, j) → length ts - j < length ts - i
    delays_advance x j does h = by_advances kind_of delays_continue (next_delay limited) (λ n _. suc n) (may_close limited) (next_delay-exact limited) (next_delay-full limited) ts view count i (view x) j does (one_read count i does ∙ h)

    module _ (total : Result (List Amounts × ℕ) ℕ) (other : ℕ) (also : other ≡ length items) (none : stands kind_of (next_delay limited count).starts ts i ≡ false) (so_far : rest_behind items (length items) i ≡ total) where
      here : rest_behind items count i ≡ total
      here = subst (λ (n : ℕ). rest_behind items n i ≡ total) (sym is) so_far

      same : other ≡ count
      same = also ∙ sym is

      pub delays_end : may_close limited other ≡ true → total ≡ Ok (map view items, i)
      delays_end closes =
          let may : may_close limited count ≡ true = subst (λ (n : ℕ). may_close limited n ≡ true) same closes in
          by_ends kind_of delays_continue (next_delay limited) (λ n _. suc n) (may_close limited) (next_delay-exact limited) (next_delay-full limited) ts view total items count i none may here

      pub delays_refused : may_close limited other ≡ false → total ≡ Err i
      delays_refused closes =
          let may : may_close limited count ≡ false = subst (λ (n : ℕ). may_close limited n ≡ false) same closes in
          by_refused kind_of delays_continue (next_delay limited) (λ n _. suc n) (may_close limited) (next_delay-exact limited) (next_delay-full limited) ts view total items count i none may here
