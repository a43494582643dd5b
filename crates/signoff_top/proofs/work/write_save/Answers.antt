use Rattle.signoff_top.proofs.Stopped.{failed_at_save, saved_leaves, saving_fails, saving_wants}
use Rattle.signoff_top.proofs.work.write_save.Goals as goal

pub returns-in-Ok-clause-left : goal.returns-in-Ok-clause-left
returns-in-Ok-clause-left g c = λ ws old from. saved_leaves ws c.args.done c.args.save.now c.args.text.now old _ _ from c.requires c.in-Ok.ensures.file

pub returns-in-Err-Failed-clause-left : goal.returns-in-Err-Failed-clause-left
returns-in-Err-Failed-clause-left g c = λ ws old from. saving_fails ws c.args.done c.args.save.now c.args.text.now old _ _ from c.requires c.in-Err-Failed.ensures.file

pub returns-in-Err-Failed-clause-named : goal.returns-in-Err-Failed-clause-named
returns-in-Err-Failed-clause-named g c =
    let named = rw c.in-Err-Failed.field-0-is at c.in-Err-Failed.ensures.named in
    λ ws asked old e among from. failed_at_save ws c.args.done c.args.save.now c.args.text.now old _ _ from c.requires c.in-Err-Failed.ensures.file asked _ e among named

pub returns-clause-left : goal.returns-clause-left
returns-clause-left g c = λ ws old from. saving_wants ws c.args.done c.args.save.now c.args.text.now old _ _ from c.requires c.in-Err-NoMemory.ensures.file
