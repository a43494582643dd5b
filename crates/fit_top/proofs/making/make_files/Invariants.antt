-- The files before this one were made, and no call failed.
use Rattle.std.proofs.Common.{◌≡◌, map, take}
use Rattle.sg_io.specs.Files.{BothTell}
use Rattle.fit_top.specs.Promises.{FilesAfter}
use Rattle.fit_top.specs.Work.{made_seen}
use Rattle.fit_top.proofs.making.make_files.Given as goal

abbrev pub invariant-loop-file : goal.invariant-loop-file
invariant-loop-file g l =
    let s = g.S.Shelf in
    record {
      files : BothTell (s.files l.fn.shelf) (s.files l.shelf) (FilesAfter (map made_seen (take l.file-index l.made)));
      faults : s.fault_count l.shelf ≡ s.fault_count l.fn.shelf;
    }
