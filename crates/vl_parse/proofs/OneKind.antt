-- A netlist that fails at a token has one kind of fault there.
use Rattle.std.proofs.Common.{◌≡◌, ℕ, List, Option, Some, None, sym, ap, ◌∙◌, subst, inl, inr}
use Rattle.std.specs.Prelude.{slice_get}
use Rattle.vl_token.specs.Tokens.{Lexeme}
use Rattle.vl_specify.specs.declared.faults.SpecifyKind.{SpecifyKind}
use Rattle.vl_specify.specs.Faults as block
use Rattle.vl_specify.specs.Faults.{IsTold, IsKindOf}
use Rattle.vl_parse.specs.Parsed.{Kind, of_block, left_out, IsKind, KindStands, InBlock}
use Rattle.vl_parse.proofs.OpenBlock.{one-open}

told-once : (o : Option SpecifyKind) (l k m : SpecifyKind) (Begins : Type 0) → IsTold o l Begins k → IsTold o l Begins m → k ≡ m
told-once (Some t) l k m Begins a b = a ∙ sym b
told-once None l k m Begins (inl a) (inl b) = a.1 ∙ sym b.1
told-once None l k m Begins (inl a) (inr b) = absurd (b.0 a.0)
told-once None l k m Begins (inr a) (inl b) = absurd (a.0 b.0)
told-once None l k m Begins (inr a) (inr b) = a.1 ∙ sym b.1

of-token-once : (o : Option Lexeme) (k m : SpecifyKind) (Begins : Type 0) → IsKindOf o Begins k → IsKindOf o Begins m → k ≡ m
of-token-once None k m Begins a b = a ∙ sym b
of-token-once (Some t) k m Begins a b = told-once _ _ k m Begins a b

in-block-once : (ts : List Lexeme) (e : ℕ) (k m : Kind) → InBlock ts e k → InBlock ts e m → k ≡ m
in-block-once ts e k m a b =
    let same : a.start ≡ b.start = one-open ts e a.start b.start a.open_there b.open_there in
    let why : a.why ≡ b.why = of-token-once (slice_get ts e) a.why b.why _ (subst (λ s. block.KindStands ts s e a.why) same a.stands_there) b.stands_there in
    a.is ∙ ap of_block why ∙ sym b.is

kind-once : (ts : List Lexeme) (e : ℕ) (o : Option (List ℕ)) (k m : Kind) → IsKind ts e o k → IsKind ts e o m → k ≡ m
kind-once ts e (Some word) k m a b = a ∙ sym b
kind-once ts e None k m (inl a) (inl b) = in-block-once ts e k m a b
kind-once ts e None k m (inl a) (inr b) = absurd (b.0 a.start a.open_there)
kind-once ts e None k m (inr a) (inl b) = absurd (a.0 b.start b.open_there)
kind-once ts e None k m (inr a) (inr b) = a.1 ∙ sym b.1

pub one-kind : (ts : List Lexeme) (e : ℕ) (k m : Kind) → KindStands ts e k → KindStands ts e m → k ≡ m
one-kind ts e k m a b = kind-once ts e (left_out (slice_get ts e)) k m a b
