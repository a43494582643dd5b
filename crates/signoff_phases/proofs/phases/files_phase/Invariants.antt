-- The files before this one were read, and nothing else was changed.
use Rattle.std.proofs.Common.{◌≡◌, List, length, map, take}
use Rattle.std.specs.Prelude.{Some}
use Rattle.sg_io.specs.Files.{File}
use Rattle.signoff_phases.proofs.FilesRead.{AreRead}
use Rattle.signoff_phases.proofs.phases.files_phase.Given as goal

abbrev pub invariant-loop-name : goal.invariant-loop-name
invariant-loop-name g l =
    let s = g.S.Shelf in
    record {
      held : s.files l.shelf ≡ s.files l.fn.shelf;
      faults : s.fault_count l.shelf ≡ s.fault_count l.fn.shelf;
      count : length l.texts.items ≡ l.name-index;
      read : (files : List File) → s.files l.fn.shelf ≡ Some files → AreRead (map (λ n. n.now) (take l.name-index l.names)) files (map (λ f. f.items) l.texts.items);
    }
