use Rattle.sim_rounds.specs.MomentsSeen.{moment_seen}
use Rattle.signoff_top.proofs.Stopped.{save_wants, text_saved, too_large_saved, unsaved_leaves}
use Rattle.signoff_top.proofs.work.save_moment.Goals as goal

pub write_save-requires : goal.write_save-requires
write_save-requires g c = text_saved c.args.done c.args.save.now (moment_seen c.args.moment.now) c.in-Ok.text.items c.deref.result.now c.requires c.in-Ok.ensures.text c.in-Ok.ensures.small c.deref.ensures.value

pub returns-in-Err-TooLarge-clause-left : goal.returns-in-Err-TooLarge-clause-left
returns-in-Err-TooLarge-clause-left g c = λ ws old from.
    unsaved_leaves ws c.args.done (record { save = c.args.save }) old _ from
    (too_large_saved c.args.done c.args.save.now (moment_seen c.args.moment.now) c.requires (c.in-Err-TooLarge.ensures.too_large c.in-Err-TooLarge.field-0-is))

pub returns-clause-left : goal.returns-clause-left
returns-clause-left g c = λ ws old from. save_wants ws c.args.done c.args.save.now old _ from
