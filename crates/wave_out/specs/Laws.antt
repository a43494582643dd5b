-- The laws that join the texts of calls to the text of a run.
use Rattle.std.specs.Prelude.{ℕ, suc, ◌≡◌, ◌<◌, ◌≤◌, ◌++◌, All, List, [], ◌∷◌, Option, Some, None, drop, length}
use Rattle.sg_circuit.specs.Circuit.{Circuit, Variable}
use Rattle.sg_model.specs.Machine.{Snapshot}
use Rattle.sim_times.specs.Watching.{AreTruthful, Call, end_call}
use Rattle.sim_times.specs.Runs.{Origin, Setting, AllCalls, AllCallsFrom, CallsFor, CallsFrom, IsOrigin, run_for, run_from, times_to}
use Rattle.wave_out.specs.Nested.{nested, nested_header, nested_calls, nested_dump}
use Rattle.wave_out.specs.Vcd.{dump, dump_text, end_line, first_block, header, vcd_begun, vcd_rest, vcd_text}
use Rattle.wave_out.specs.Writing.{text_after, text_behind}

-- the calls of a whole run are truthful, and their text is that of the run
abbrev pub WholeRunIsWritten : Type 0
WholeRunIsWritten = (circuit : Circuit) (s : Setting) (made : List Call) → (run_for s (suc s.end)).spent ≡ None → AllCalls s made
    → AreTruthful made × (text_after circuit made ≡ vcd_text circuit s.end (run_for s (suc s.end)))

-- so are the calls of a run that is spent at a time, and their text is that of the run
abbrev pub SpentRunIsWritten : Type 0
SpentRunIsWritten = (circuit : Circuit) (s : Setting) (spent : ℕ × Option ℕ) (made : List Call) → (run_for s (suc s.end)).spent ≡ Some spent → CallsFor s spent.0 made
    → AreTruthful made × (text_after circuit made ≡ vcd_text circuit s.end (run_for s (suc s.end)))

-- what is written after the calls of a run's first times is the beginning of its text
abbrev pub FirstTimesAreWritten : Type 0
FirstTimesAreWritten = (circuit : Circuit) (s : Setting) (n : ℕ) (made : List Call) → n ≤ suc s.end → (run_for s n).spent ≡ None → CallsFor s n made
    → AreTruthful made × ((rest : List ℕ) × (vcd_text circuit s.end (run_for s (suc s.end)) ≡ text_after circuit made ++ rest))

-- the calls of a run that is stopped are truthful, and their text is that of the blocks so far
abbrev pub StoppedRunIsWritten : Type 0
StoppedRunIsWritten = (circuit : Circuit) (s : Setting) (n : ℕ) (made : List Call) → n ≤ suc s.end → (run_for s n).spent ≡ None → CallsFor s n made
    → AreTruthful made × (text_after circuit made ≡ vcd_begun circuit (run_for s n))

-- so are those of one that is spent before, and what is written after the calls of its first times is the beginning of its text
abbrev pub SpentStopIsWritten : Type 0
SpentStopIsWritten = (circuit : Circuit) (s : Setting) (n : ℕ) (spent : ℕ × Option ℕ) (made : List Call) → (run_for s n).spent ≡ Some spent → CallsFor s spent.0 made
    → AreTruthful made × (text_after circuit made ≡ vcd_begun circuit (run_for s n))

abbrev pub FirstTimesOfStopAreWritten : Type 0
FirstTimesOfStopAreWritten = (circuit : Circuit) (s : Setting) (n k : ℕ) (made : List Call) → n ≤ k → (run_for s n).spent ≡ None → CallsFor s n made
    → AreTruthful made × ((rest : List ℕ) × (vcd_begun circuit (run_for s k) ≡ text_after circuit made ++ rest))

-- blocks up to a time depend on those before another by the values then alone: what is written of times up to a stop, and what is written of later ones from the last snapshot alone, are what is written of all
abbrev pub RestMakesTheWhole : Type 0
RestMakesTheWhole = (variables : List Variable) (end : ℕ) (later : List Snapshot) (last : Snapshot) (older : List Snapshot) → All (λ s. last.time < s.time) later → All (λ s. s.time ≤ last.time) older → last.time < end
    → dump_text (dump variables (later ++ last ∷ older)) ++ end_line end (dump variables (later ++ last ∷ older))
    ≡ dump_text (dump variables (last ∷ older)) ++ drop (length (first_block variables last)) (dump_text (dump variables (later ++ last ∷ [])) ++ end_line end (dump variables (later ++ last ∷ [])))

-- a run that goes on from a snapshot before the end, and was told of that alone
pub record GoesOnFrom (s : Setting) (o : Origin) (last : Snapshot) : Type 0 where
  pub origin : IsOrigin s.end o
  pub snapshots : o.run.snapshots ≡ last ∷ []
  pub told : o.told ≡ end_call last.time last.values ∷ []
  pub first : o.first ≡ last.values
  pub earlier : last.time < s.end

-- calls that go on truthfully from those that were told, and are all later than the snapshot
pub record CallsGoOn (o : Origin) (last : Snapshot) (made : List Call) : Type 0 where
  pub truthful : AreTruthful (o.told ++ made)
  pub later : All (λ c. last.time < c.time) made

-- what is written after the calls of a run that goes on is the rest of the run's text: of a whole run, of one that is spent, and, of the next times, the beginning of it
abbrev pub WholeRestIsWritten : Type 0
WholeRestIsWritten = (circuit : Circuit) (s : Setting) (o : Origin) (last : Snapshot) (made : List Call) → GoesOnFrom s o last → (run_from s o o.left).spent ≡ None → AllCallsFrom s o made
    → CallsGoOn o last made × (text_behind circuit o.told (o.told ++ made) ≡ vcd_rest circuit s.end last (run_from s o o.left))

abbrev pub SpentRestIsWritten : Type 0
SpentRestIsWritten = (circuit : Circuit) (s : Setting) (o : Origin) (last : Snapshot) (spent : ℕ × Option ℕ) (made : List Call) → GoesOnFrom s o last → (run_from s o o.left).spent ≡ Some spent → CallsFrom s o (times_to o.from spent.0) made
    → CallsGoOn o last made × (text_behind circuit o.told (o.told ++ made) ≡ vcd_rest circuit s.end last (run_from s o o.left))

abbrev pub NextTimesAreWritten : Type 0
NextTimesAreWritten = (circuit : Circuit) (s : Setting) (o : Origin) (last : Snapshot) (n : ℕ) (made : List Call) → GoesOnFrom s o last → n ≤ o.left → (run_from s o n).spent ≡ None → CallsFrom s o n made
    → CallsGoOn o last made × ((rest : List ℕ) × (vcd_rest circuit s.end last (run_from s o o.left) ≡ text_behind circuit o.told (o.told ++ made) ++ rest))

-- the texts of the worked example
abbrev pub NestedTexts : Type 0
NestedTexts = (header nested ≡ nested_header) × (text_after nested nested_calls ≡ nested_dump)
