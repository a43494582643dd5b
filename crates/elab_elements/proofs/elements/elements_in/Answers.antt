-- One instance more has its elements, and a refusal on the way is one of all.
use Rattle.std.proofs.Common.{◌<◌, arith, length, get_or}
use Rattle.std.proofs.lemmas.Result.{err_from_is_err_and}
use Rattle.elab_model.specs.Hierarchy.{instances, top_instance}
use Rattle.elab_elements.proofs.AllInstances.{at-next, one-more, all-hold, one-refused}
use Rattle.elab_elements.proofs.Putting.{exit-by}
use Rattle.elab_elements.proofs.elements.elements_in.Goals as goal

pub add_instance-requires-clause-at : goal.add_instance-requires-clause-at
add_instance-requires-clause-at c = (
  c.requires.read.0,
  (
    c.requires.read.1.0,
    (
      get_or (instances c.args.definitions.now c.requires.read.0) c.loop-number.number (top_instance c.requires.read.0),
      at-next c.args.definitions.now c.requires.read.0 c.requires.read.1.0 c.args.instances.now c.args.library.now c.args.rows.now c.loop-number.number c.requires.read.1.1
          (omega (arith, c.loop-number-test.true, c.requires.few)),
    ),
  ),
)

pub loop-number-preserved : goal.loop-number-preserved
loop-number-preserved c =
    let lt : c.loop-number.number < length c.args.instances.now = omega (arith, c.loop-number-test.true, c.requires.few) in
    record {
      few = c.add_instance.ensures.few;
      hold = λ top corner read.
          one-more c.args.library.now.gate_delays.items c.args.library.now.udps.items c.args.definitions.now top corner c.args.instances.now c.args.library.now c.args.rows.now c.loop-number.number
          c.loop-number.made c.add_instance.new.made read lt (c.loop-number.invariant.hold top corner read)
          (c.in_ok-add_instance.ensures.elements top corner (get_or (instances c.args.definitions.now top) c.loop-number.number (top_instance top))
          (at-next c.args.definitions.now top corner c.args.instances.now c.args.library.now c.args.rows.now c.loop-number.number read lt));
    }

pub returns-in_err-add_instance-clause-refused : goal.returns-in_err-add_instance-clause-refused
returns-in_err-add_instance-clause-refused c =
    let lt : c.loop-number.number < length c.args.instances.now = omega (arith, c.loop-number-test.true, c.requires.few) in
    exit-by _ c.from_residual.result c.in_err-add_instance.field-0.0 (err_from_is_err_and c.from_residual.result c.from_residual.ensures.1)
    (λ top corner read.
    one-refused c.args.library.now.gate_delays.items c.args.library.now.udps.items c.args.definitions.now top corner c.args.instances.now c.args.library.now c.args.rows.now c.loop-number.number
    c.loop-number.made c.in_err-add_instance.field-0.0 read lt (c.loop-number.invariant.hold top corner read)
    (c.in_err-add_instance.ensures.refused top corner (get_or (instances c.args.definitions.now top) c.loop-number.number (top_instance top))
    (at-next c.args.definitions.now top corner c.args.instances.now c.args.library.now c.args.rows.now c.loop-number.number read lt)))

pub returns-clause-elements : goal.returns-clause-elements
returns-clause-elements c = λ top corner read.
    all-hold c.args.library.now.gate_delays.items c.args.library.now.udps.items c.args.definitions.now top corner c.args.instances.now c.args.library.now c.args.rows.now c.loop-number.number
    c.loop-number.made read (omega (arith, c.loop-number-test.false, c.requires.few)) c.loop-number.invariant.few (c.loop-number.invariant.hold top corner read)
