-- The files of the generated case of n stages: a chain of n inverters, their delays, and a pulse through them.
use Rattle.std.specs.Prelude.{ℕ, ◌+◌, ◌-◌, ◌*◌, ◌%◌, ◌==◌, List, ◌++◌, codes, decimal, flat_map, if◌then◌else◌}
use Rattle.std.specs.List.{range_with_len}

-- what stands before the stages of a netlist: the cell, and the head of the chain
unfoldable pub netlist_head : List ℕ
netlist_head =
    codes "`timescale 1ns/1ps\n" ++
    codes "`celldefine\n" ++
    codes "module INV (Y, A);\n" ++
    codes "output Y; input A;\n" ++
    codes "not (Y, A);\n" ++
    codes "specify (A => Y) = 1; endspecify\n" ++
    codes "endmodule\n" ++
    codes "`endcelldefine\n" ++
    codes "module chain (a, y);\n" ++
    codes "input a; output y;\n"

-- the net behind the i-th of n stages; before the first is the input
abbrev pub net_of : ℕ → ℕ → List ℕ
net_of n i = if i == 0 then codes "a" else if i == n then codes "y" else codes "n" ++ decimal i

-- the i-th of n stages
abbrev pub inverter_line : ℕ → ℕ → List ℕ
inverter_line n i = codes "INV u" ++ decimal i ++ codes " (.Y(" ++ net_of n i ++ codes "), .A(" ++ net_of n (i - 1) ++ codes "));\n"

-- the netlist
unfoldable pub netlist_of : ℕ → List ℕ
netlist_of n = netlist_head ++ flat_map (inverter_line n) (range_with_len 1 n) ++ codes "endmodule\n"

-- the delays of the i-th stage
abbrev pub cell_line : ℕ → List ℕ
cell_line i =
    codes "(CELL (CELLTYPE \"INV\") (INSTANCE u" ++ decimal i ++ codes ") (DELAY (ABSOLUTE (IOPATH A Y (" ++
    decimal (100 + 10 * (i % 7)) ++ codes ") (" ++ decimal (100 + 10 * (i % 5)) ++ codes ")))))\n"

-- the SDF file
unfoldable pub sdf_of : ℕ → List ℕ
sdf_of n = codes "(DELAYFILE (TIMESCALE 1ps)\n" ++ flat_map cell_line (range_with_len 1 n) ++ codes ")\n"

-- the stimulus
unfoldable pub stimulus_of : ℕ → List ℕ
stimulus_of n =
    codes "unit 1ps\n" ++
    codes "at 0 a=0\n" ++
    codes "at 1000 a=1\n" ++
    codes "at 2000 a=0\n" ++
    codes "end " ++ decimal (3000 + 200 * n) ++ codes "\n"
