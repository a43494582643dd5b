-- The name that is known stands for the one that was asked for.
use Rattle.std.specs.Prelude.{Some, None}
use Rattle.std.proofs.Common.{◌∙◌}
use Rattle.annotation_index.proofs.IndexLaws.{found_list}
use Rattle.annotation_index.proofs.index.Index.get.Goals as goal

pub returns-in-Some-get : goal.returns-in-Some-get
returns-in-Some-get c =
    c.deref.ensures.value
    ∙ found_list c.args.self.now c.args.owner c.args.name.now c.in-Some.known.now (Some c.in-Some-get.list.now) c.in-Some.ensures.key c.in-Some-get.ensures.value

pub returns-in-None : goal.returns-in-None
returns-in-None c = found_list c.args.self.now c.args.owner c.args.name.now c.in-Some.known.now None c.in-Some.ensures.key c.in-None.ensures.value
