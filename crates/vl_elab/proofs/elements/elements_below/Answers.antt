-- The elements are those of the circuit, and each refusal stands.
use Rattle.std.proofs.Common.{refl}
use Rattle.std.proofs.lemmas.Result.{err_from_is_err_and}
use Rattle.vl_elab.proofs.Below.{leaves, elements-refused, many_paths-refused, paths-refused}
use Rattle.vl_elab.proofs.GivenLates.{few-lent, lates-given}
use Rattle.vl_elab.proofs.Steps.{elements-of, given-of, read-of}
use Rattle.vl_elab.proofs.elements.elements_below.Goals as goal

pub elements_in-requires-clause-read : goal.elements_in-requires-clause-read
elements_in-requires-clause-read c =
    let m = c.requires.nets.0 in
    (m, (c.args.corner, read-of c.args.definitions.now m c.args.corner c.args.tick c.args.instances.now c.args.library.now c.args.rows.now c.requires.nets.1))

pub elements_in-requires-clause-few : goal.elements_in-requires-clause-few
elements_in-requires-clause-few c = c.requires.nets.1.below.few

pub returns-in_err-placing-clause-refused : goal.returns-in_err-placing-clause-refused
returns-in_err-placing-clause-refused c =
    leaves _ c.from_residual.result c.in_err-placing.field-0.0 (err_from_is_err_and c.from_residual.result c.from_residual.ensures.1)
    (λ m h. elements-refused c.args.definitions.now m c.args.corner c.in_err-placing.field-0.0
    (c.in_err-placing.ensures.refused m c.args.corner (read-of c.args.definitions.now m c.args.corner c.args.tick c.args.instances.now c.args.library.now c.args.rows.now h)))

pub lates_by_scope-requires : goal.lates_by_scope-requires
lates_by_scope-requires c =
    let m = c.requires.nets.0 in
    let elements =
    c.in_ok-placing.ensures.elements m c.args.corner (read-of c.args.definitions.now m c.args.corner c.args.tick c.args.instances.now c.args.library.now c.args.rows.now c.requires.nets.1) in
    few-lent c.deref.result.now c.in_ok-placing.placing.elements.items c.deref.ensures.value elements.few

pub module_paths-requires : goal.module_paths-requires
module_paths-requires c = let h = c.requires.nets.1 in record { read = (c.requires.nets.0, h.below.are_placed, h.below.tick_is, h.is_ready) }

pub returns-in_err-modules-clause-refused : goal.returns-in_err-modules-clause-refused
returns-in_err-modules-clause-refused c =
    leaves _ c.from_residual-in_err-modules.result c.in_err-modules.field-0.0 (err_from_is_err_and c.from_residual-in_err-modules.result c.from_residual-in_err-modules.ensures.1)
    (λ m h. paths-refused c.args.definitions.now m c.args.corner c.in_err-modules.field-0.0 (c.in_err-modules.ensures.refused m h.below.are_placed h.below.tick_is h.is_ready))

pub add_paths-requires : goal.add_paths-requires
add_paths-requires c =
    let m = c.requires.nets.0 in
    let h = c.requires.nets.1 in
    let d = c.args.definitions.now in
    let elements = c.in_ok-placing.ensures.elements m c.args.corner (read-of d m c.args.corner c.args.tick c.args.instances.now c.args.library.now c.args.rows.now h) in
    let paths = c.in_ok-modules.ensures.paths m h.below.are_placed h.below.tick_is h.is_ready in
    record { given = (d, (m, (c.args.corner, given-of d m c.args.corner c.args.tick c.args.instances.now c.args.library.now c.args.rows.now h _ _ _ elements c.no_delay.ensures paths))) }

pub returns-in_err-paths-clause-refused : goal.returns-in_err-paths-clause-refused
returns-in_err-paths-clause-refused c =
    leaves _ c.from_residual-in_err-paths.result c.in_err-paths.field-0.0 (err_from_is_err_and c.from_residual-in_err-paths.result c.from_residual-in_err-paths.ensures.1)
    (λ m h.
    let d = c.args.definitions.now in
    let elements = c.in_ok-placing.ensures.elements m c.args.corner (read-of d m c.args.corner c.args.tick c.args.instances.now c.args.library.now c.args.rows.now h) in
    let paths = c.in_ok-modules.ensures.paths m h.below.are_placed h.below.tick_is h.is_ready in
    many_paths-refused d m c.args.corner c.in_err-paths.field-0.0
    (c.in_err-paths.ensures.refused d m c.args.corner (given-of d m c.args.corner c.args.tick c.args.instances.now c.args.library.now c.args.rows.now h _ _ _ elements c.no_delay.ensures paths)))

pub returns-clause-elements : goal.returns-clause-elements
returns-clause-elements c = λ m h.
    let d = c.args.definitions.now in
    let elements = c.in_ok-placing.ensures.elements m c.args.corner (read-of d m c.args.corner c.args.tick c.args.instances.now c.args.library.now c.args.rows.now h) in
    let paths = c.in_ok-modules.ensures.paths m h.below.are_placed h.below.tick_is h.is_ready in
    let given = given-of d m c.args.corner c.args.tick c.args.instances.now c.args.library.now c.args.rows.now h _ _ _ elements c.no_delay.ensures paths in
    elements-of d m c.args.corner c.args.library.now c.in_ok-modules.modules _ _ refl refl paths (c.in_ok-paths.ensures.paths d m c.args.corner given)
    (lates-given d m c.args.corner c.args.library.now c.args.instances.now c.in_ok-placing.placing _ c.in_ok-lates.lates h.below.are_placed elements c.deref.ensures.value c.in_ok-lates.ensures.lates
    c.in_ok-lates.ensures.scopes)

pub returns-clause-spelled : goal.returns-clause-spelled
returns-clause-spelled c = let h = c.requires.nets.1 in (c.in_ok-modules.ensures.paths c.requires.nets.0 h.below.are_placed h.below.tick_is h.is_ready).read
