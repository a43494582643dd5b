-- Reading the delays of a list, as a loop does that keeps them.
use Rattle.std.proofs.Common.{◌≡◌, ℕ, suc, ◌-◌, ◌<◌, Bool, true, false, List, [], ◌∷◌, ◌++◌, length, map, Option, Some, None, Result, Ok, Err, refl, sym, subst, ◌∙◌, arith}
use Rattle.std.specs.Prelude.{slice_get}
use Rattle.std.proofs.lemmas.List.{length-append}
use Rattle.grammar.specs.Reading.{Fails}
use Rattle.grammar.specs.Rule.{is_of, only_if, stands}
use Rattle.grammar.specs.declared.ReadFault.{ReadFault}
use Rattle.grammar.specs.declared.ReadFault.TheVariants as faults
use Rattle.grammar.proofs.LoopsBy.{rest_of_by, by_begins, by_goes_on, by_fails, by_ends, by_refused, by_advances}
use Rattle.sdf_lex.specs.Tokens.{Lexeme}
use Rattle.sdf_tree.specs.Kinds.{kind_of, is_left}
use Rattle.sdf_tree.specs.Values.{delay, may_come, may_end, list_parts, list}
use Rattle.sdf_tree.specs.Written.{Delay}
use Rattle.sdf_tree.proofs.ValuesExact.{next_delay-exact, next_delay-full}

module _ {X : Type 0} (limited : Bool) (ts : List Lexeme) (view : X → Delay) where
  -- what is read behind so many delays, together with those that are kept
  abbrev pub rest_behind : List X → ℕ → ℕ → Result (List Delay × ℕ) ℕ
  rest_behind items n i = rest_of_by kind_of is_left (λ n. only_if (may_come limited n) delay) (λ n _. suc n) (may_end limited) ts view items n i

  pub delays_begin : (i : ℕ) → rest_behind [] 0 i ≡ (list limited).read ts i
  unfolding list_parts
  delays_begin i = by_begins kind_of is_left (λ n. only_if (may_come limited n) delay) (λ n _. suc n) (may_end limited) (next_delay-exact limited) (next_delay-full limited) ts view 0 i

  never : (o : Option Lexeme) → is_of kind_of (λ k. false) o ≡ true → ⊥
  never None h = cc
  never (Some t) h = cc

  one_read : (n i : ℕ) → stands kind_of (only_if (may_come limited n) delay).starts ts i ≡ true → (only_if (may_come limited n) delay).read ts i ≡ delay.read ts i
  one_read n i does = go (may_come limited n) does
    where
      go : (b : Bool) → stands kind_of (only_if b delay).starts ts i ≡ true → (only_if b delay).read ts i ≡ delay.read ts i
      go true does = refl
      go false does = absurd (never (slice_get ts i) does)

  module _ (i count : ℕ) (items : List X) (is : count ≡ length items) where
    pub delays_go_on : (total : Result (List Delay × ℕ) ℕ) (x : X) (j : ℕ) → stands kind_of (only_if (may_come limited count) delay).starts ts i ≡ true → delay.read ts i ≡ Ok (view x, j) → rest_behind items (length items) i ≡ total
        → rest_behind (items ++ x ∷ []) (length (items ++ x ∷ [])) j ≡ total
    delays_go_on total x j does h so_far =
        let here : rest_behind items count i ≡ total = subst (λ (n : ℕ). rest_behind items n i ≡ total) (sym is) so_far in
        let more = by_goes_on kind_of is_left (λ n. only_if (may_come limited n) delay) (λ n _. suc n) (may_end limited) (next_delay-exact limited) (next_delay-full limited) ts view total items count i x j does (one_read count i does ∙ h) here in
        let e : suc count ≡ length (items ++ x ∷ []) = omega (arith, is, length-append items (x ∷ [])) in
        subst (λ (n : ℕ). rest_behind (items ++ x ∷ []) n j ≡ total) e more

    pub delays_fail : (total : Result (List Delay × ℕ) ℕ) (f : ReadFault) → stands kind_of (only_if (may_come limited count) delay).starts ts i ≡ true → Fails f (delay.read ts i) → rest_behind items (length items) i ≡ total → Fails f total
    delays_fail total faults.Memory does h so_far = tt
    delays_fail total (faults.At e) does h so_far =
        let here : rest_behind items count i ≡ total = subst (λ (n : ℕ). rest_behind items n i ≡ total) (sym is) so_far in
        by_fails kind_of is_left (λ n. only_if (may_come limited n) delay) (λ n _. suc n) (may_end limited) (next_delay-exact limited) (next_delay-full limited) ts view total items count i (faults.At e) does (one_read count i does ∙ h) here

    pub delays_advance : (x : X) (j : ℕ) → stands kind_of (only_if (may_come limited count) delay).starts ts i ≡ true → delay.read ts i ≡ Ok (view x, j) → length ts - j < length ts - i
    delays_advance x j does h = by_advances kind_of is_left (λ n. only_if (may_come limited n) delay) (λ n _. suc n) (may_end limited) (next_delay-exact limited) (next_delay-full limited) ts view count i (view x) j does (one_read count i does ∙ h)

    module _ (total : Result (List Delay × ℕ) ℕ) (other : ℕ) (also : other ≡ length items) (none : stands kind_of (only_if (may_come limited count) delay).starts ts i ≡ false) (so_far : rest_behind items (length items) i ≡ total) where
      here : rest_behind items count i ≡ total
      here = subst (λ (n : ℕ). rest_behind items n i ≡ total) (sym is) so_far

      same : other ≡ count
      same = also ∙ sym is

      pub delays_end : may_end limited other ≡ true → total ≡ Ok (map view items, i)
      delays_end closes =
          let may : may_end limited count ≡ true = subst (λ (n : ℕ). may_end limited n ≡ true) same closes in
          by_ends kind_of is_left (λ n. only_if (may_come limited n) delay) (λ n _. suc n) (may_end limited) (next_delay-exact limited) (next_delay-full limited) ts view total items count i none may here

      pub delays_refused : may_end limited other ≡ false → total ≡ Err i
      delays_refused closes =
          let may : may_end limited count ≡ false = subst (λ (n : ℕ). may_end limited n ≡ false) same closes in
          by_refused kind_of is_left (λ n. only_if (may_come limited n) delay) (λ n _. suc n) (may_end limited) (next_delay-exact limited) (next_delay-full limited) ts view total items count i none may here
