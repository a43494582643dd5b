-- The code is numbered.
use Rattle.written_faults.proofs.ClassLaws.{number-added}
use Rattle.written_faults.proofs.classes.add_class.Goals as goal

pub returns : goal.returns
returns c = λ codes are.
    number-added codes c.args.seen.now.keys c.insert_full.new.self.keys c.args.classes.now.items c.push.new.self.items c.args.code c.in_ok-class.class are c.in_ok-class.ensures.keys c.in_ok-class.ensures.unique
    c.in_ok-class.ensures.stored c.in_ok-push.ensures.items
