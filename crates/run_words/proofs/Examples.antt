-- Worked examples of the words.
use Rattle.std.proofs.Common.{◌≡◌, [], ◌∷◌, Some, None, codes, refl}
use Rattle.sg_delay.specs.declared.corners.Corner.TheVariants.{Max}
use Rattle.run_words.specs.Words.{a_case, a_rest, a_run, a_stop, a_stimulus, a_wave, asked_of, default_corner, default_rounds, default_wheel, names_in, a_writing, the_bounds}

-- `run --stim=s --vcd v -- -a.v`
behind_the_end : asked_of (codes "run" ∷ codes "--stim=s" ∷ codes "--vcd" ∷ codes "v" ∷ codes "--" ∷ codes "-a.v" ∷ [])
    ≡ Some (a_run (record { design = record { netlists = codes "-a.v" ∷ []; sdf = None; top = None; corner = default_corner }; input = a_stimulus (codes "s"); vcd = codes "v"; rounds = default_rounds; wheel = default_wheel }))
behind_the_end = refl

-- `run a.v --stim s b.v --vcd v c.v`
three_netlists : names_in (asked_of (codes "run" ∷ codes "a.v" ∷ codes "--stim" ∷ codes "s" ∷ codes "b.v" ∷ codes "--vcd" ∷ codes "v" ∷ codes "c.v" ∷ []))
    ≡ codes "a.v" ∷ codes "b.v" ∷ codes "c.v" ∷ codes "s" ∷ codes "v" ∷ []
three_netlists = refl

-- `run a.v --stim=-s --vcd v --corner max --rounds 0000007`
value_with_a_dash : asked_of (codes "run" ∷ codes "a.v" ∷ codes "--stim=-s" ∷ codes "--vcd" ∷ codes "v" ∷ codes "--corner" ∷ codes "max" ∷ codes "--rounds" ∷ codes "0000007" ∷ [])
    ≡ Some (a_run (record { design = record { netlists = codes "a.v" ∷ []; sdf = None; top = None; corner = Max }; input = a_stimulus (codes "-s"); vcd = codes "v"; rounds = 7; wheel = default_wheel }))
value_with_a_dash = refl

-- `run a.v --sdf=d.sdf --vcd v --stim s`
with_delays : names_in (asked_of (codes "run" ∷ codes "a.v" ∷ codes "--sdf=d.sdf" ∷ codes "--vcd" ∷ codes "v" ∷ codes "--stim" ∷ codes "s" ∷ []))
    ≡ codes "a.v" ∷ codes "d.sdf" ∷ codes "s" ∷ codes "v" ∷ []
with_delays = refl

-- no words; an option twice; no netlist; a wheel of 0; eight digits
no_words : asked_of [] ≡ None
no_words = refl

stimulus_twice : asked_of (codes "run" ∷ codes "a.v" ∷ codes "--stim" ∷ codes "s" ∷ codes "--stim" ∷ codes "t" ∷ codes "--vcd" ∷ codes "v" ∷ []) ≡ None
stimulus_twice = refl

no_netlist : asked_of (codes "run" ∷ codes "--stim" ∷ codes "s" ∷ codes "--vcd" ∷ codes "v" ∷ []) ≡ None
no_netlist = refl

wheel_of_none : asked_of (codes "run" ∷ codes "a.v" ∷ codes "--stim" ∷ codes "s" ∷ codes "--vcd" ∷ codes "v" ∷ codes "--wheel" ∷ codes "0" ∷ []) ≡ None
wheel_of_none = refl

eight_digits : asked_of (codes "run" ∷ codes "a.v" ∷ codes "--stim" ∷ codes "s" ∷ codes "--vcd" ∷ codes "v" ∷ codes "--wheel" ∷ codes "00000008" ∷ []) ≡ None
eight_digits = refl

sdf_twice : asked_of (codes "run" ∷ codes "a.v" ∷ codes "--stim" ∷ codes "s" ∷ codes "--vcd" ∷ codes "v" ∷ codes "--sdf" ∷ codes "d" ∷ codes "--sdf" ∷ codes "e" ∷ []) ≡ None
sdf_twice = refl

empty_sdf : asked_of (codes "run" ∷ codes "a.v" ∷ codes "--stim" ∷ codes "s" ∷ codes "--vcd" ∷ codes "v" ∷ codes "--sdf=" ∷ []) ≡ None
empty_sdf = refl

-- `-` as a netlist; `-` as the next word's value; an empty value; a name cut short; `--` as a value
dash_alone : asked_of (codes "run" ∷ codes "-" ∷ codes "--stim" ∷ codes "s" ∷ codes "--vcd" ∷ codes "v" ∷ []) ≡ None
dash_alone = refl

dash_as_value : asked_of (codes "run" ∷ codes "a.v" ∷ codes "--stim" ∷ codes "-" ∷ codes "--vcd" ∷ codes "v" ∷ []) ≡ None
dash_as_value = refl

empty_value : asked_of (codes "run" ∷ codes "a.v" ∷ codes "--stim=" ∷ codes "--vcd" ∷ codes "v" ∷ []) ≡ None
empty_value = refl

short_name : asked_of (codes "run" ∷ codes "a.v" ∷ codes "--sti" ∷ codes "s" ∷ codes "--vcd" ∷ codes "v" ∷ []) ≡ None
short_name = refl

end_as_value : asked_of (codes "run" ∷ codes "a.v" ∷ codes "--stim" ∷ codes "s" ∷ codes "--vcd" ∷ codes "--" ∷ codes "v" ∷ []) ≡ None
end_as_value = refl

-- `run a.v --wave w --vcd v --scope tb.dut`, and without a scope; both files; neither; a scope with a stimulus
with_a_wave : asked_of (codes "run" ∷ codes "a.v" ∷ codes "--wave" ∷ codes "w" ∷ codes "--vcd" ∷ codes "v" ∷ codes "--scope" ∷ codes "tb.dut" ∷ [])
    ≡ Some (a_run (record { design = record { netlists = codes "a.v" ∷ []; sdf = None; top = None; corner = default_corner }; input = a_wave (codes "w") (Some (codes "tb.dut")); vcd = codes "v"; rounds = default_rounds; wheel = default_wheel }))
with_a_wave = refl

without_a_scope : names_in (asked_of (codes "run" ∷ codes "a.v" ∷ codes "--wave" ∷ codes "w" ∷ codes "--vcd" ∷ codes "v" ∷ [])) ≡ codes "a.v" ∷ codes "w" ∷ codes "v" ∷ []
without_a_scope = refl

stimulus_and_wave : asked_of (codes "run" ∷ codes "a.v" ∷ codes "--wave" ∷ codes "w" ∷ codes "--stim" ∷ codes "s" ∷ codes "--vcd" ∷ codes "v" ∷ []) ≡ None
stimulus_and_wave = refl

neither_of_both : asked_of (codes "run" ∷ codes "a.v" ∷ codes "--vcd" ∷ codes "v" ∷ []) ≡ None
neither_of_both = refl

scope_of_a_stimulus : asked_of (codes "run" ∷ codes "a.v" ∷ codes "--stim" ∷ codes "s" ∷ codes "--vcd" ∷ codes "v" ∷ codes "--scope" ∷ codes "t" ∷ []) ≡ None
scope_of_a_stimulus = refl

-- `gen 000100`; a case of no stage, of one too many, and of seven digits; two numbers; `gen` alone
a_hundred_stages : asked_of (codes "gen" ∷ codes "000100" ∷ []) ≡ Some (a_case 100)
a_hundred_stages = refl

most_of_all : asked_of (codes "gen" ∷ codes "100000" ∷ []) ≡ Some (a_case 100000)
most_of_all = refl

no_stage : asked_of (codes "gen" ∷ codes "0" ∷ []) ≡ None
no_stage = refl

one_too_many : asked_of (codes "gen" ∷ codes "100001" ∷ []) ≡ None
one_too_many = refl

seven_digits : asked_of (codes "gen" ∷ codes "0000100" ∷ []) ≡ None
seven_digits = refl

two_numbers : asked_of (codes "gen" ∷ codes "1" ∷ codes "2" ∷ []) ≡ None
two_numbers = refl

gen_alone : asked_of (codes "gen" ∷ []) ≡ None
gen_alone = refl

-- and `generate 1`
another_word : asked_of (codes "generate" ∷ codes "1" ∷ []) ≡ None
another_word = refl

-- `settle a.v --sdf d --corner max`; without a netlist; with an option of a run
bounds_of_a_netlist : asked_of (codes "settle" ∷ codes "a.v" ∷ codes "--sdf" ∷ codes "d" ∷ codes "--corner" ∷ codes "max" ∷ []) ≡ Some (the_bounds (record { netlists = codes "a.v" ∷ []; sdf = Some (codes "d"); top = None; corner = Max }))
bounds_of_a_netlist = refl

bounds_of_nothing : asked_of (codes "settle" ∷ codes "--sdf" ∷ codes "d" ∷ []) ≡ None
bounds_of_nothing = refl

bounds_with_a_dump : asked_of (codes "settle" ∷ codes "a.v" ∷ codes "--vcd" ∷ codes "v" ∷ []) ≡ None
bounds_with_a_dump = refl

names_of_bounds : names_in (asked_of (codes "settle" ∷ codes "a.v" ∷ codes "b.v" ∷ codes "--sdf" ∷ codes "d" ∷ [])) ≡ codes "a.v" ∷ codes "b.v" ∷ codes "d" ∷ []
names_of_bounds = refl

-- `annotate a.v --out o.sdf`; without the file for it
a_file_of_delays : asked_of (codes "annotate" ∷ codes "a.v" ∷ codes "--out" ∷ codes "o.sdf" ∷ []) ≡ Some (a_writing (record { design = record { netlists = codes "a.v" ∷ []; sdf = None; top = None; corner = default_corner }; out = codes "o.sdf" }))
a_file_of_delays = refl

delays_for_no_file : asked_of (codes "annotate" ∷ codes "a.v" ∷ []) ≡ None
delays_for_no_file = refl

names_of_a_writing : names_in (asked_of (codes "annotate" ∷ codes "a.v" ∷ codes "--out" ∷ codes "o.sdf" ∷ codes "--sdf" ∷ codes "d" ∷ [])) ≡ codes "a.v" ∷ codes "d" ∷ codes "o.sdf" ∷ []
names_of_a_writing = refl

-- `run a.v --stim s --vcd v --stop 5000 --save f`, and its names; each of both options alone; a save that is the dump
a_stopped_run : asked_of (codes "run" ∷ codes "a.v" ∷ codes "--stim" ∷ codes "s" ∷ codes "--vcd" ∷ codes "v" ∷ codes "--stop" ∷ codes "5000" ∷ codes "--save" ∷ codes "f" ∷ [])
    ≡ Some (a_stop (record { design = record { netlists = codes "a.v" ∷ []; sdf = None; top = None; corner = default_corner }; input = a_stimulus (codes "s"); vcd = codes "v"; rounds = default_rounds; wheel = default_wheel }) (record { time = 5000; save = codes "f" }))
a_stopped_run = refl

names_of_a_stop : names_in (asked_of (codes "run" ∷ codes "a.v" ∷ codes "--stim" ∷ codes "s" ∷ codes "--vcd" ∷ codes "v" ∷ codes "--stop" ∷ codes "5000" ∷ codes "--save" ∷ codes "f" ∷ [])) ≡ codes "a.v" ∷ codes "s" ∷ codes "v" ∷ codes "f" ∷ []
names_of_a_stop = refl

stop_without_a_save : asked_of (codes "run" ∷ codes "a.v" ∷ codes "--stim" ∷ codes "s" ∷ codes "--vcd" ∷ codes "v" ∷ codes "--stop" ∷ codes "5000" ∷ []) ≡ None
stop_without_a_save = refl

save_without_a_stop : asked_of (codes "run" ∷ codes "a.v" ∷ codes "--stim" ∷ codes "s" ∷ codes "--vcd" ∷ codes "v" ∷ codes "--save" ∷ codes "f" ∷ []) ≡ None
save_without_a_stop = refl

saved_in_the_dump : asked_of (codes "run" ∷ codes "a.v" ∷ codes "--stim" ∷ codes "s" ∷ codes "--vcd" ∷ codes "v" ∷ codes "--stop" ∷ codes "5000" ∷ codes "--save" ∷ codes "v" ∷ []) ≡ None
saved_in_the_dump = refl

-- a time of nineteen digits, and one of eighteen zeros
nineteen_digits : asked_of (codes "run" ∷ codes "a.v" ∷ codes "--stim" ∷ codes "s" ∷ codes "--vcd" ∷ codes "v" ∷ codes "--stop" ∷ codes "1234567890123456789" ∷ codes "--save" ∷ codes "f" ∷ []) ≡ None
nineteen_digits = refl

eighteen_zeros : asked_of (codes "run" ∷ codes "a.v" ∷ codes "--stim" ∷ codes "s" ∷ codes "--vcd" ∷ codes "v" ∷ codes "--stop" ∷ codes "000000000000000000" ∷ codes "--save" ∷ codes "f" ∷ [])
    ≡ Some (a_stop (record { design = record { netlists = codes "a.v" ∷ []; sdf = None; top = None; corner = default_corner }; input = a_stimulus (codes "s"); vcd = codes "v"; rounds = default_rounds; wheel = default_wheel }) (record { time = 0; save = codes "f" }))
eighteen_zeros = refl

-- `resume a.v --state s --stim t --vcd v`, and its names; without a state; with a stop
the_rest : asked_of (codes "resume" ∷ codes "a.v" ∷ codes "--state" ∷ codes "s" ∷ codes "--stim" ∷ codes "t" ∷ codes "--vcd" ∷ codes "v" ∷ [])
    ≡ Some (a_rest (record { design = record { netlists = codes "a.v" ∷ []; sdf = None; top = None; corner = default_corner }; input = a_stimulus (codes "t"); vcd = codes "v"; rounds = default_rounds; wheel = default_wheel }) (codes "s"))
the_rest = refl

names_of_a_rest : names_in (asked_of (codes "resume" ∷ codes "a.v" ∷ codes "--state" ∷ codes "s" ∷ codes "--stim" ∷ codes "t" ∷ codes "--vcd" ∷ codes "v" ∷ [])) ≡ codes "a.v" ∷ codes "t" ∷ codes "s" ∷ codes "v" ∷ []
names_of_a_rest = refl

rest_of_no_state : asked_of (codes "resume" ∷ codes "a.v" ∷ codes "--stim" ∷ codes "t" ∷ codes "--vcd" ∷ codes "v" ∷ []) ≡ None
rest_of_no_state = refl

rest_with_a_stop : asked_of (codes "resume" ∷ codes "a.v" ∷ codes "--state" ∷ codes "s" ∷ codes "--stim" ∷ codes "t" ∷ codes "--vcd" ∷ codes "v" ∷ codes "--stop" ∷ codes "5000" ∷ codes "--save" ∷ codes "f" ∷ []) ≡ None
rest_with_a_stop = refl
