-- The files so far, followed by those that are left, are all.
use Rattle.std.proofs.Common.{◌≡◌, ◌++◌, drop, length, map}
use Rattle.std.specs.Prelude.{zip}
use Rattle.fit_top.specs.Answer.{made_file}
use Rattle.fit_top.specs.Work.{made_seen}
use Rattle.fit_top.proofs.ToldLaws.{named}
use Rattle.fit_top.proofs.making.add_files.Given as goal

abbrev pub invariant-loop-name : goal.invariant-loop-name
invariant-loop-name l = record {
  steps : (goal.iterator-loop-name).can_next l.name-iterator;
  ends : (goal.iterator-loop-name).is_finite l.name-iterator;
  left : map made_seen l.initial.made.items ++ map (made_file l.folder) (map named (zip l.names l.texts))
      ≡ map made_seen l.made.items ++ map (made_file l.folder) (map named (drop (length l.yielded) (zip l.names l.texts)));
}
