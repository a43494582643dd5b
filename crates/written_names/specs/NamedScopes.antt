-- What the scopes of a circuit have, and their variables, where they are written.
use Rattle.std.specs.Prelude.{◌≡◌, ℕ, ◌<◌, All, length, None, IsSome}
use Rattle.sg_circuit.specs.Circuit.{Circuit, scope_at}
use Rattle.written_reading.specs.Named.{AreApart, IsNameText, IsTick, IsVariableText}

pub record HasNamedScopes (c : Circuit) : Type 0 where
  -- instances
  pub top : (scope_at c 0).parent ≡ None
  pub others : (s : ℕ) → 0 < s → s < length c.scopes → IsSome (scope_at c s).parent
  pub scope_names : (s : ℕ) → 0 < s → s < length c.scopes → IsNameText (scope_at c s).name
  pub siblings : (s t : ℕ) → s < length c.scopes → t < length c.scopes → (scope_at c s).parent ≡ (scope_at c t).parent → (scope_at c s).name ≡ (scope_at c t).name → s ≡ t
  -- variables
  pub variables : All (λ s. All IsVariableText s.variables) c.scopes
  pub apart : All (λ s. AreApart s.variables) c.scopes
  -- the unit of a tick
  pub tick : IsTick c.tick
