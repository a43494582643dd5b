-- Words of the functions that write blocks, which know a variable by its bits' nets.
use Rattle.std.specs.Prelude.{ℕ, List, [], ◌++◌, codes, flat_map, slice_index_or}
use Rattle.sg_logic.specs.declared.values.Value.{Value}
use Rattle.wave_out.specs.Texts.{line, by_number}
use Rattle.wave_out.specs.Vcd.{code, time_line, value_text, values_at}

-- the value of the k-th variable
abbrev pub bits_line : List Value → ℕ → List ℕ → List ℕ
bits_line values k bits = line (value_text (values_at bits values) ++ code k)

-- the values of all variables, as the first block has them
abbrev pub first_text : ℕ → List (List ℕ) → List Value → List ℕ
first_text time bits values = time_line time ++ line (codes "$dumpvars") ++ by_number (bits_line values) 0 bits ++ line (codes "$end")

-- the values of these variables
abbrev pub lines_of : List (List ℕ) → List ℕ → List Value → List ℕ
lines_of bits work values = flat_map (λ k. bits_line values k (slice_index_or bits k [])) work

abbrev pub later_text : ℕ → List (List ℕ) → List ℕ → List Value → List ℕ
later_text time bits work values = time_line time ++ lines_of bits work values
