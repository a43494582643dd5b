-- What it means that a test passes or fails.
use Rattle.std.specs.Prelude.{◌≡◌, ◌↔◌, Bool, true, false, IsTrue, refl}
use Rattle.std.proofs.Common.{sym, ◌∙◌}
use Rattle.std.proofs.lemmas.Bool.{false≢true}

pub shown : (P : Type 0) → P → (IsTrue true ↔ P)
shown P p = (λ _. p, λ _. refl)

pub refuted : (P : Type 0) → (P → ⊥) → (IsTrue false ↔ P)
refuted P h = (λ e. absurd (false≢true e), λ p. absurd (h p))

-- a fact for another that it is as good as
pub moved : (b : Bool) (P Q : Type 0) → (P → Q) → (Q → P) → (IsTrue b ↔ P) → (IsTrue b ↔ Q)
moved b P Q there back h = (λ e. there (h.0 e), λ q. h.1 (back q))

-- what doesn't hold where a test fails
pub fails : (b : Bool) (P : Type 0) → (IsTrue b ↔ P) → b ≡ false → P → ⊥
fails b P h e p = false≢true (sym e ∙ h.1 p)

pub refuted_at : (b : Bool) (P : Type 0) → b ≡ false → (P → ⊥) → (IsTrue b ↔ P)
refuted_at b P e h = (λ t. absurd (false≢true (sym e ∙ t)), λ p. absurd (h p))
