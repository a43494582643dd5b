-- What a report is given of the SDF's entries, and what its call does to a sink.
use Rattle.std.specs.Prelude.{ℕ, ◌≡◌, ◌≤◌, ◌⊎◌, List, length, Result, Err}
use Rattle.sg_io.specs.Put.{Puts, SinkTold}
use Rattle.sg_io.specs.declared.outside.ShelfError.{ShelfError}
use Rattle.sg_io.specs.declared.outside.ShelfError.TheVariants as shelf
use Rattle.sdf_annotate.specs.declared.unmatched.Unmatched as code_unmatched
use Rattle.run_report.specs.declared.unmatched.Reached.{Reached}
use Rattle.run_report.specs.Report.{Unmatched}
use Rattle.run_report.specs.Texts.{line_of}

-- an unmatched entry of a file with these bytes
abbrev pub unmatched_seen : List ℕ → code_unmatched.Unmatched → Unmatched
unmatched_seen sdf u = record { line = line_of sdf u.place.byte; word = u.word }

-- a text was put by one call; or there was no memory for it, and the sink wasn't called
abbrev pub PutsMade : List ℕ → SinkTold → SinkTold → Result Unit ShelfError → Type 0
PutsMade text old new result = Puts text old new result ⊎ ((result ≡ Err shelf.NoMemory) × (new ≡ old))

-- so many of a file's bytes were looked through, and the next one is on this line
pub record IsReached (sdf : List ℕ) (r : Reached) : Type 0 where
  pub within : r.end ≤ length sdf
  pub line : r.line ≡ line_of sdf r.end
