-- Worked examples of refusals.
use Rattle.std.specs.Prelude.{◌≡◌, ◌++◌, [], ◌∷◌, None, Ok, Err, codes, refl}
use Rattle.std.specs.Fmt.{digits}
use Rattle.netlist_read.specs.Kinds.{of_syntax}
use Rattle.sdf_read.specs.declared.faults.SdfKind.TheVariants as delays
use Rattle.sg_circuit.specs.Circuit.{Circuit}
use Rattle.sg_delay.specs.declared.corners.Corner.{Corner}
use Rattle.sim_save.specs.declared.kinds.SaveKind.TheVariants as saved
use Rattle.stim_read.specs.declared.kinds.StimKind.TheVariants as stim
use Rattle.wave_out.specs.Texts.{line}
use Rattle.run_report.specs.Texts.{line_of}
use Rattle.signoff_phases.specs.Phases.{AnnotatedOutcome, FilesOutcome, goes_on, stops, missing, netlist, save, sdf, stimulus, refusal_line, refused_at, save_kind, sdf_kind, stimulus_kind, too_large_kind}

-- a line feed ends the line on which it stands
breaks : line_of (codes "ab" ++ 10 ∷ codes "c") 2 ≡ 1
breaks = refl

after_a_break : line_of (codes "ab" ++ 10 ∷ codes "c") 3 ≡ 2
after_a_break = refl

-- a fault of the second file, on its first line
in_the_second : refused_at (codes "a.v" ∷ codes "b.v" ∷ []) ((codes "module t;" ++ 10 ∷ []) ∷ codes "end" ∷ []) of_syntax (record { file = 1; byte = 2 }) ≡ netlist (codes "b.v") 1 (codes "Syntax")
in_the_second = refl

netlist_line : refusal_line [] (netlist (codes "b.v") 12 (codes "Syntax")) ≡ line (codes "netlist refused: b.v:12: Syntax")
unfolding digits
netlist_line = refl

stimulus_line : refusal_line [] (stimulus (codes "t.st") 3 (stimulus_kind stim.NoEnd)) ≡ line (codes "stimulus refused: t.st:3: NoEnd")
unfolding digits
stimulus_line = refl

sdf_line : refusal_line [] (sdf (codes "t.sdf") 7 (sdf_kind delays.LimitsCross)) ≡ line (codes "sdf refused: t.sdf:7: LimitsCross")
unfolding digits
sdf_line = refl

too_large_line : refusal_line [] (sdf (codes "t.sdf") 10 too_large_kind) ≡ line (codes "sdf refused: t.sdf:10: TooLarge")
unfolding digits
too_large_line = refl

save_line : refusal_line [] (save (codes "f") 1 (save_kind saved.TooLarge)) ≡ line (codes "save refused: f:1: TooLarge")
unfolding digits
save_line = refl

-- without an SDF file the circuit is as it was, and nothing is unmatched
without_sdf : (corner : Corner) (circuit : Circuit) → AnnotatedOutcome None corner [] circuit (Ok (record { circuit = circuit; unmatched = [] }))
without_sdf corner circuit = refl

-- the first file that isn't held is missing
one_is_held : FilesOutcome (codes "a.v" ∷ codes "b.v" ∷ codes "c.v" ∷ []) (record { name = codes "a.v"; bytes = 32 ∷ [] } ∷ []) (Err (missing (codes "b.v")))
one_is_held = goes_on (32 ∷ []) (Err (missing (codes "b.v"))) refl (stops (missing (codes "b.v")) (stops (missing (codes "b.v")) refl))
