-- How far a block goes, and where it is refused.
use Rattle.std.proofs.Common.{◌≡◌, ℕ, ◌+◌, ◌≤◌, true, false, List, Ok, Err, refl, arith, inl, inr}
use Rattle.std.specs.Prelude.{◌↔◌, slice_get}
use Rattle.std.proofs.lemmas.Bool.{cases_lt}
use Rattle.sg_text.specs.declared.places.Place.{Place}
use Rattle.sg_text.specs.declared.refusals.Refused.TheVariants.{Fault}
use Rattle.grammar.specs.ReadsFrom.{FailsFrom}
use Rattle.grammar.proofs.Extents.{Begins-le}
use Rattle.grammar.proofs.ReadsFrom.{one_from, from_failed}
use Rattle.vl_token.specs.Tokens.{Lexeme}
use Rattle.vl_tree.specs.Kinds.{kind_of}
use Rattle.vl_tree.specs.Specify.{block}
use Rattle.vl_tree.specs.Tree.{SpecifyBlock}
use Rattle.vl_tree.proofs.SpecifyExact.{block-exact}
use Rattle.vl_specify.specs.Faults.{KindStands}
use Rattle.vl_specify.specs.Reading.{RefusalStands, fault_place}
use Rattle.vl_specify.specs.declared.faults.SpecifyKind.{SpecifyKind}

module _ (ts : List Lexeme) (i : ℕ) where
  -- tokens from i up to n begin the block without limits, and no more do
  abbrev pub Reaches : ℕ → Type 0
  Reaches n = (k : ℕ) → i ≤ k → (block false).language.Begins ts i k ↔ (k ≤ n)

  abbrev pub Begun : ℕ → Type 0
  Begun k = (block false).language.Begins ts i k

  reaches : (n : ℕ) → Begun n → (Begun (n + 1) → ⊥) → Reaches n
  reaches n does fails k le = (
    λ b. elim (cases_lt n k) [
      | inl lt ↦ absurd (fails ((block-exact false).front ts i k (n + 1) b (omega (arith, Begins-le kind_of (block false) (block-exact false) ts i n does)) (omega arith)))
      | inr ge ↦ ge
    ],
    λ up. (block-exact false).front ts i n k does le up,
  )

  pub reach_if_read : (x : SpecifyBlock) (n : ℕ) → (block false).read ts i ≡ Ok (x, n) → Reaches n
  reach_if_read x n h =
      let f = (block-exact false).found ts i x n h in
      reaches n ((block-exact false).whole ts i x n f.0) f.1

  pub reach_if_failed : (n : ℕ) → (block false).read ts i ≡ Err n → Reaches n
  reach_if_failed n h = let f = (block-exact false).failed ts i n h in reaches n f.0 f.1

  -- ---- the block with its limits

  pub only_block : (x : SpecifyBlock) (n : ℕ) (y : SpecifyBlock) (j : ℕ) → (block true).read ts i ≡ Ok (x, n) → (block true).language.Spells ts i y j → (x ≡ y) × (n ≡ j)
  only_block x n y j h s = one_from kind_of (block true) (block-exact true) (λ k. refl) ts i x n y j ((block-exact true).found ts i x n h).0 s

  pub failing : (e : ℕ) → (block true).read ts i ≡ Err e → FailsFrom (block true).language ts i e
  failing e h = from_failed kind_of (block true) (block-exact true) (λ k. refl) ts i e h

  pub refused : (e : ℕ) (end place : Place) (kind : SpecifyKind) → (block true).read ts i ≡ Err e → place ≡ fault_place end (slice_get ts e) → KindStands ts i e kind → RefusalStands ts i end (Fault kind place)
  refused e end place kind h p k = (e, failing e h, p, k)
