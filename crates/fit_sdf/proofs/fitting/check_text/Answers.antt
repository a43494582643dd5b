use Rattle.fit_sdf.proofs.RefusalLaws.{fault_read}
use Rattle.fit_sdf.proofs.fitting.check_text.Goals as goal

pub returns-in-Err-Fault-clause-refused : goal.returns-in-Err-Fault-clause-refused
returns-in-Err-Fault-clause-refused c =
    let f = c.in-Err-Fault in
    record { place = f.place; reads = fault_read c.args.text.now c.read_sdf.result f.field-0 f.kind f.place f.is f.field-0-is c.read_sdf.ensures.found; is_line = c.line_of.ensures }
