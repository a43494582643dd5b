-- What is read is what the text says.
use Rattle.std.proofs.Common.{refl, sym}
use Rattle.stim_read.proofs.FormLaws.{are-decimals, time-is}
use Rattle.stim_read.proofs.forms.time_of.Goals as goal

pub returns-in-Ok : goal.returns-in-Ok
returns-in-Ok c = time-is c.args.text.now _ _ (sym c.if-has_sign.ensures) (c.in-Ok.ensures.only _ (are-decimals c.args.text.now)) refl

pub returns-in-Err : goal.returns-in-Err
returns-in-Err c = time-is c.args.text.now _ _ (sym c.if-has_sign.ensures) (c.in-Err.ensures.only _ (are-decimals c.args.text.now)) refl
