-- Names of ports as sets, and where they stand in a text.
use Rattle.std.specs.Prelude.{◌≡◌, ℕ, ◌+◌, ◌-◌, ◌<◌, ◌&&◌, ◌||◌, Bool, false, List, bytes_eq, drop, length, reverse, slice_index_or, take}
use Rattle.name_trie.specs.Tree.{has, IsTree}
use Rattle.elab_model.specs.Names.{Variable}
use Rattle.specify_model.specs.PulseLimits.{is_port}
use Rattle.specify_values.specs.declared.port_names.PortNames.{PortNames}

-- the names are those that pass the test
pub record AreNames (test : List ℕ → Bool) (names : PortNames) : Type 0 where
  pub forwards : (n : List ℕ) → has names.forwards n ≡ test n
  pub backwards : (n : List ℕ) → has names.backwards (reverse n) ≡ test n

pub record AreTrees (names : PortNames) : Type 0 where
  pub first : IsTree names.forwards
  pub second : IsTree names.backwards

-- a name more, where it is to be added
pub record AddsIf (is : Bool) (name : List ℕ) (old new : PortNames) : Type 0 where
  pub trees : AreTrees new
  pub names : (test : List ℕ → Bool) → AreNames test old → AreNames (λ n. (is && bytes_eq name n) || test n) new

-- before and behind which bytes of a text ports stand
pub record AreMarks (vs : List Variable) (text : List ℕ) (before behind : List Bool) : Type 0 where
  pub before_are : (k : ℕ) → k < length text → slice_index_or before k false ≡ is_port vs (take k text)
  pub behind_are : (k : ℕ) → k < length text → slice_index_or behind (length text - 1 - k) false ≡ is_port vs (drop (k + 1) text)
