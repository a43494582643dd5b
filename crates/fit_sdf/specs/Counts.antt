-- What is told of the entries of SDF files: a line a word.
use Rattle.std.specs.Prelude.{ℕ, ◌++◌, List, codes, decimal, flat_map}
use Rattle.fit_sdf.specs.declared.counts.Count as code

-- the entries of a word: how many find their places in the netlist, and how many there are
pub record SdfCount : Type 0 where
  pub word : List ℕ
  pub found : ℕ
  pub all : ℕ

abbrev pub count_seen : code.Count → SdfCount
count_seen c = record { word = c.word.now; found = c.found; all = c.all }

abbrev pub sdf_count_text : SdfCount → List ℕ
sdf_count_text c = codes "annotates " ++ c.word ++ codes " " ++ decimal c.found ++ codes " of " ++ decimal c.all ++ codes "\n"

abbrev pub sdf_counts_text : List SdfCount → List ℕ
sdf_counts_text counts = flat_map sdf_count_text counts
