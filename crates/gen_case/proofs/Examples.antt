-- The whole texts of one stage and of two.
use Rattle.std.specs.Prelude.{◌≡◌, ◌++◌, codes, refl}
use Rattle.std.specs.Fmt.{digits}
use Rattle.gen_case.specs.Case.{netlist_head, netlist_of, sdf_of, stimulus_of}

pub netlist_of_one : netlist_of 1 ≡
    codes "`timescale 1ns/1ps\n`celldefine\nmodule INV (Y, A);\noutput Y; input A;\nnot (Y, A);\nspecify (A => Y) = 1; endspecify\nendmodule\n`endcelldefine\n" ++
    codes "module chain (a, y);\ninput a; output y;\nINV u1 (.Y(y), .A(a));\nendmodule\n"
unfolding netlist_of netlist_head digits
netlist_of_one = refl

pub netlist_of_two : netlist_of 2 ≡
    codes "`timescale 1ns/1ps\n`celldefine\nmodule INV (Y, A);\noutput Y; input A;\nnot (Y, A);\nspecify (A => Y) = 1; endspecify\nendmodule\n`endcelldefine\n" ++
    codes "module chain (a, y);\ninput a; output y;\nINV u1 (.Y(n1), .A(a));\nINV u2 (.Y(y), .A(n1));\nendmodule\n"
unfolding netlist_of netlist_head digits
netlist_of_two = refl

pub sdf_of_one : sdf_of 1 ≡
    codes "(DELAYFILE (TIMESCALE 1ps)\n" ++
    codes "(CELL (CELLTYPE \"INV\") (INSTANCE u1) (DELAY (ABSOLUTE (IOPATH A Y (110) (110)))))\n" ++
    codes ")\n"
unfolding sdf_of digits
sdf_of_one = refl

pub sdf_of_two : sdf_of 2 ≡
    codes "(DELAYFILE (TIMESCALE 1ps)\n" ++
    codes "(CELL (CELLTYPE \"INV\") (INSTANCE u1) (DELAY (ABSOLUTE (IOPATH A Y (110) (110)))))\n" ++
    codes "(CELL (CELLTYPE \"INV\") (INSTANCE u2) (DELAY (ABSOLUTE (IOPATH A Y (120) (120)))))\n" ++
    codes ")\n"
unfolding sdf_of digits
sdf_of_two = refl

pub stimulus_of_one : stimulus_of 1 ≡ codes "unit 1ps\nat 0 a=0\nat 1000 a=1\nat 2000 a=0\nend 3200\n"
unfolding stimulus_of digits
stimulus_of_one = refl

pub stimulus_of_two : stimulus_of 2 ≡ codes "unit 1ps\nat 0 a=0\nat 1000 a=1\nat 2000 a=0\nend 3400\n"
unfolding stimulus_of digits
stimulus_of_two = refl
