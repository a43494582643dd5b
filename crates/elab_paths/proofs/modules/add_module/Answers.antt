-- The outputs of one module more, or a fault of it.
use Rattle.std.specs.Prelude.{◌≡◌, ◌<◌, Some, length}
use Rattle.std.proofs.Common.{rules, arith}
use Rattle.std.proofs.lemmas.Result.{err_from_is_err_and}
use Rattle.elab_hierarchy.proofs.Whole.{refuses}
use Rattle.elab_elements.specs.Ready.TheVariants as ready
use Rattle.elab_paths.proofs.OwnModule.{found-module, no-primitive, not-none, ready-within, is-prepared, has-fits}
use Rattle.elab_paths.proofs.SoFar.{longer-none, some-there, place-within, ready-more, put-there, put-stays}
use Rattle.elab_paths.proofs.modules.add_module.Goals as goal

pub returns-then-is_some-clause-there : goal.returns-then-is_some-clause-there
returns-then-is_some-clause-there c =
    some-there c.args.outputs.now c.args.place c.index-outputs-place.result c.is_some.result
    (place-within c.args.definitions.now c.args.corner c.args.tick.power c.args.outputs.now c.args.shelves.now c.args.place c.requires.stands.own c.requires.stands.stands c.requires.ready)
    c.is_some.ensures c.if-is_some.true

pub returns-then-is_some-clause-longer : goal.returns-then-is_some-clause-longer
returns-then-is_some-clause-longer c = longer-none c.args.shelves.now

pub index-requires : goal.index-requires
index-requires c =
    let lt : c.args.place < length c.args.library.now.parts.items = ready-within c.args.definitions.now c.args.tick.power c.args.library.now.parts.items c.args.place c.requires.stands in
    omega (arith, lt, c.args.library.now.parts.ok.0)

pub returns-in-Some-Primitive-clause-there : goal.returns-in-Some-Primitive-clause-there
returns-in-Some-Primitive-clause-there c =
    let e = found-module c.args.definitions.now c.args.tick.power c.args.library.now.parts.items c.args.place c.index.result.now c.requires.stands c.index.ensures in
    let there : c.index.result.now ≡ Some (ready.Primitive c.in-Some-Primitive.field-0-0) = search rules in
    absurd (no-primitive c.index.result.now c.requires.stands.prepared c.in-Some-Primitive.field-0-0 e there)

pub returns-in-Some-Primitive-clause-longer : goal.returns-in-Some-Primitive-clause-longer
returns-in-Some-Primitive-clause-longer c = longer-none c.args.shelves.now

pub returns-in-None-clause-there : goal.returns-in-None-clause-there
returns-in-None-clause-there c =
    let e = found-module c.args.definitions.now c.args.tick.power c.args.library.now.parts.items c.args.place c.index.result.now c.requires.stands c.index.ensures in
    absurd (not-none c.index.result.now c.requires.stands.prepared e c.in-None.is)

pub returns-in-None-clause-longer : goal.returns-in-None-clause-longer
returns-in-None-clause-longer c = longer-none c.args.shelves.now

pub outputs_of-requires-clause-is : goal.outputs_of-requires-clause-is
outputs_of-requires-clause-is c =
    let there : c.index.result.now ≡ Some (ready.Module c.in-Some-Module.prepared) = search rules in (
      c.requires.stands.own,
      is-prepared c.args.definitions.now c.args.tick.power c.args.library.now.parts.items c.args.place c.index.result.now c.in-Some-Module.prepared c.requires.stands.own
          c.requires.stands c.index.ensures there c.requires.stands.stands,
    )

pub outputs_of-requires-clause-fits : goal.outputs_of-requires-clause-fits
outputs_of-requires-clause-fits c =
    let there : c.index.result.now ≡ Some (ready.Module c.in-Some-Module.prepared) = search rules in
    has-fits c.args.definitions.now c.args.tick.power c.args.library.now.parts.items c.args.place c.index.result.now c.in-Some-Module.prepared c.requires.stands c.index.ensures there

pub returns-in_err-outputs_of-clause-refused : goal.returns-in_err-outputs_of-clause-refused
returns-in_err-outputs_of-clause-refused c =
    let there : c.index.result.now ≡ Some (ready.Module c.in-Some-Module.prepared) = search rules in
    refuses _ c.from_residual.result c.in_err-outputs_of.field-0.0 (err_from_is_err_and c.from_residual.result c.from_residual.ensures.1) (λ m at.
    c.in_err-outputs_of.ensures.told m
    (is-prepared c.args.definitions.now c.args.tick.power c.args.library.now.parts.items c.args.place c.index.result.now c.in-Some-Module.prepared m c.requires.stands c.index.ensures there at))

pub returns-clause-ready : goal.returns-clause-ready
returns-clause-ready c =
    let there : c.index.result.now ≡ Some (ready.Module c.in-Some-Module.prepared) = search rules in
    ready-more c.args.definitions.now c.args.corner c.args.tick.power c.args.outputs.now c.args.shelves.now c.outputs_of.new.shelves c.args.place c.in_ok-outputs_of.field-0
    c.in_ok-outputs_of.ensures.longer (λ m at.
    let p = is-prepared c.args.definitions.now c.args.tick.power c.args.library.now.parts.items c.args.place c.index.result.now c.in-Some-Module.prepared m c.requires.stands c.index.ensures there at in
    record { are = c.in_ok-outputs_of.ensures.outputs m p; faultless = c.in_ok-outputs_of.ensures.told m p }) c.requires.ready

pub returns-clause-there : goal.returns-clause-there
returns-clause-there c =
    put-there c.args.outputs.now c.args.place c.in_ok-outputs_of.field-0
    (place-within c.args.definitions.now c.args.corner c.args.tick.power c.args.outputs.now c.args.shelves.now c.args.place c.requires.stands.own c.requires.stands.stands c.requires.ready)

pub returns-clause-stays : goal.returns-clause-stays
returns-clause-stays c = λ i has.
    put-stays c.args.outputs.now c.args.place c.in_ok-outputs_of.field-0
    (place-within c.args.definitions.now c.args.corner c.args.tick.power c.args.outputs.now c.args.shelves.now c.args.place c.requires.stands.own c.requires.stands.stands c.requires.ready) i has
