-- What was picked is marked, and then nothing is.
use Rattle.std.proofs.Common.{◌<◌, length, subst}
use Rattle.std.proofs.lemmas.List.Elements.{All-same}
use Rattle.annotation_finder.proofs.MarkLaws.{AreUnset, picked_of, picked-within, picked-unset}
use Rattle.annotation_finder.proofs.marks.pick_each.Goals as goal

pub unset-requires : goal.unset-requires
unset-requires g c =
    All-same (λ k. k < length c.pick.new.marks) c.deref.result.now c.pick.new.found.items c.deref.ensures.value
    (picked-within (g.T.Test.test c.args.test.now) c.args.candidates.now c.pick.new.marks c.pick.new.found.items
    (picked_of (g.T.Test.test c.args.test.now) c.args.candidates.now c.new-found.result.items c.pick.new.found.items c.args.marks.now c.pick.new.marks c.requires.clear c.new-found.ensures.items c.in_ok-pick.ensures))

pub returns : goal.returns
returns g c =
    let h = picked_of (g.T.Test.test c.args.test.now) c.args.candidates.now c.new-found.result.items c.pick.new.found.items c.args.marks.now c.pick.new.marks c.requires.clear c.new-found.ensures.items c.in_ok-pick.ensures in
    record {
      picked = (c.pick.new.marks, h);
      clear = picked-unset (g.T.Test.test c.args.test.now) c.args.candidates.now c.pick.new.marks c.pick.new.found.items c.unset.new.marks h
          (subst (λ ks. AreUnset c.pick.new.marks ks c.unset.new.marks) c.deref.ensures.value c.unset.ensures);
    }
