use Rattle.std.proofs.Common.{refl}
use Rattle.signoff_phases.proofs.TellingLaws.{made_tells}
use Rattle.signoff_top.proofs.report.tell_unsaved.Goals as goal

pub returns : goal.returns
returns g c =
    made_tells c.save_refusal.result _ _ _ (g.K.Sink.told c.args.report.now) (g.K.Sink.told c.put_made.new.report) c.put_made.result c.save_refusal.ensures refl c.put_made.ensures.ok c.put_made.ensures.err
