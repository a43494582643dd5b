-- A text as it is gone through.
use Rattle.std.specs.Prelude.{ℕ, List, reverse}
use Rattle.name_trie.specs.declared.ways.Way.{Way}
use Rattle.name_trie.specs.declared.ways.Way.TheVariants.{Forwards, Backwards}

abbrev pub turned : Way → List ℕ → List ℕ
turned Forwards text = text
turned Backwards text = reverse text
