-- Nothing, a module or a primitive of that name.
use Rattle.std.proofs.Common.{Some, length, option_map, rules, arith, ap, sym, ◌≡◌, ◌∙◌}
use Rattle.std.proofs.lemmas.List.{length-map}
use Rattle.vl_tree.specs.Seen.{view_name, view_delay, view_instance, view_module, view_part, view_primitive}
use Rattle.elab_modules.proofs.MemberFaults.{defined-at, unknown-refused, module-tells, primitive-tells}
use Rattle.elab_modules.proofs.ReadyParts.{ready-module, ready-primitive}
use Rattle.elab_modules.proofs.instances.check_instance.Goals as goal

pub returns-in_default : goal.returns-in_default
returns-in_default c = λ m is corner tick.
    unknown-refused c.args.definitions.now corner tick m (view_name c.args.definition) (option_map view_delay c.args.delay.now) (view_instance c.args.instance.now) c.in_default.ensures

pub part-requires : goal.part-requires
part-requires c = (defined-at c.args.definitions.now c.args.definition.text.now c.in-Some.place c.in-Some.ensures).below

pub part_at-requires : goal.part_at-requires
part_at-requires c =
    let lt = (defined-at c.args.definitions.now c.args.definition.text.now c.in-Some.place c.in-Some.ensures).below in
    let same = c.requires.ready.0 in omega arith

pub returns-in-Module : goal.returns-in-Module
returns-in-Module c = λ m is.
    let r = ready-module c.args.definitions.now c.args.parts.now (view_name c.args.definition) c.in-Some.place c.part_at.result.now (view_module c.in-Module.field-0) c.requires.ready c.requires.named
    c.in-Some.ensures (c.part.ensures ∙ ap (λ p. Some (view_part p)) c.in-Module.is) c.part_at.ensures in
    module-tells c.args.definitions.now m r.definition c.args.table.now (view_name c.args.definition) (option_map view_delay c.args.delay.now) (view_instance c.args.instance.now)
    c.check_module.result r.defined is
    (c.check_module.ensures r.prepared r.definition r.is r.ready)

pub returns-in-Primitive : goal.returns-in-Primitive
returns-in-Primitive c = λ m is.
    let at = c.part.ensures ∙ ap (λ p. Some (view_part p)) c.in-Primitive.is in
    let n : c.len.result ≡ length c.in-Primitive.primitive.ports.items = search rules in
    primitive-tells c.args.definitions.now m (view_primitive c.in-Primitive.primitive) c.args.table.now (view_name c.args.definition) (option_map view_delay c.args.delay.now)
    (view_instance c.args.instance.now)
    c.len.result c.check_primitive_instance.result ((defined-at c.args.definitions.now c.args.definition.text.now c.in-Some.place c.in-Some.ensures).found ∙ at)
    (ready-primitive c.args.definitions.now c.args.parts.now (view_name c.args.definition) c.in-Some.place (view_primitive c.in-Primitive.primitive) c.requires.ready c.requires.named
    c.in-Some.ensures at) is
    (n ∙ sym (length-map c.in-Primitive.primitive.ports.items view_name)) c.check_primitive_instance.ensures
