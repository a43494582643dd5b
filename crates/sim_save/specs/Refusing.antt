-- Words of contracts: a half that is no body, and the elements of primitives.
use Rattle.std.specs.Prelude.{ℕ, ◌≡◌, ◌++◌, ◌≤◌, Bool, true, false, List, length}
use Rattle.sg_circuit.specs.declared.elements.ElementKind.{ElementKind}
use Rattle.sg_circuit.specs.declared.elements.ElementKind.TheVariants.{Udp}
use Rattle.sg_text.specs.declared.refusals.Refused.{Refused}
use Rattle.sg_text.specs.declared.refusals.Refused.TheVariants as refused
use Rattle.sim_save.specs.Faults.{IsNoBody, most_bytes}
use Rattle.sim_save.specs.Steps.{Head, RunsOut}
use Rattle.sim_save.specs.declared.kinds.SaveKind.{SaveKind}
use Rattle.sim_save.specs.declared.kinds.SaveKind.TheVariants as save

-- the place is in the half
abbrev pub RefusesHalf : List ℕ → Refused SaveKind → Type 0
RefusesHalf half (refused.Fault kind place) = (kind ≡ save.Syntax) × (place.file ≡ 0) × IsNoBody half place.byte
RefusesHalf half refused.NoMemory = RunsOut Head half

-- a text of two equal halves, each a head's line, a line that may come somewhere behind it, and a rest
pub record HasLineBehindHead (bytes : List ℕ) : Type 0 where
  pub small : length bytes ≤ most_bytes
  pub half : List ℕ
  pub twice : bytes ≡ half ++ half
  pub behind : RunsOut Head half

-- only of such a text want of memory is answered
abbrev pub Wants : List ℕ → Refused SaveKind → Type 0
Wants bytes (refused.Fault kind place) = Unit {0}
Wants bytes refused.NoMemory = HasLineBehindHead bytes

abbrev pub is_udp_kind : ElementKind → Bool
is_udp_kind (Udp udp delays) = true
is_udp_kind _ = false
