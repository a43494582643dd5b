-- The files before this one were read, and nothing else was changed.
use Rattle.std.proofs.Common.{◌≡◌, List, drop, map}
use Rattle.std.specs.Prelude.{Some}
use Rattle.sg_io.specs.Files.{File}
use Rattle.fit_top.specs.Answer.{files_of}
use Rattle.fit_top.specs.Work.{input_seen}
use Rattle.fit_top.proofs.Reading.{after}
use Rattle.fit_top.proofs.inputs.read_files.Given as goal

abbrev pub invariant-loop-name : goal.invariant-loop-name
invariant-loop-name g l =
    let s = g.S.Shelf in
    record {
      held : s.files l.shelf ≡ s.files l.fn.shelf;
      faults : s.fault_count l.shelf ≡ s.fault_count l.fn.shelf;
      read : (files : List File) → s.files l.fn.shelf ≡ Some files → files_of (map (λ n. n.now) l.names) files ≡ after (map input_seen l.inputs.items) (files_of (map (λ n. n.now) (drop l.name-index l.names)) files);
    }
