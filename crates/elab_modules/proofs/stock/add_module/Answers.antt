-- One instance's module more, or a fault of it.
use Rattle.std.proofs.Common.{◌∙◌, sym, ap, subst, ◌<◌, length, map, Some}
use Rattle.std.proofs.lemmas.Result.{err_from_is_err_and}
use Rattle.vl_tree.specs.Seen.{view_part, view_module}
use Rattle.elab_model.specs.Faults.{RefusesOneOf}
use Rattle.elab_model.specs.Members.{members}
use Rattle.elab_model.specs.NameFaults.{declaration_faults}
use Rattle.elab_variables.specs.Seen.{view_member}
use Rattle.elab_hierarchy.proofs.Whole.{refuses}
use Rattle.elab_modules.specs.Reaching.{Stocked}
use Rattle.elab_modules.proofs.Faulty.{declarations-refused, members-refused, module-read}
use Rattle.elab_modules.proofs.Meeting.{met-more, met-module, some-ready}
use Rattle.elab_modules.proofs.Stocking.{no-module}
use Rattle.elab_modules.proofs.stock.add_module.Goals as goal

pub returns-then-is_some-clause-met : goal.returns-then-is_some-clause-met
returns-then-is_some-clause-met c = λ places h.
    let lt : c.args.place < length c.args.parts.now = subst (λ n. c.args.place < n) (sym c.requires.stock.ready.0) c.requires.within in
    met-more c.args.definitions.now c.args.parts.now c.args.udps.now.items places c.args.place
    (λ m at. some-ready c.args.parts.now c.args.place c.index-parts-place.result c.is_some.result lt c.is_some.ensures c.if-is_some.true) h

pub returns-in-Primitive-clause-met : goal.returns-in-Primitive-clause-met
returns-in-Primitive-clause-met c = λ places h.
    met-more c.args.definitions.now c.args.parts.now c.args.udps.now.items places c.args.place
    (λ m at. absurd (no-module c.args.definitions.now c.args.place m _ at (c.part.ensures ∙ ap (λ q. Some (view_part q)) c.in-Primitive.is))) h

pub returns-in_err-prepared-clause-refused : goal.returns-in_err-prepared-clause-refused
returns-in_err-prepared-clause-refused c =
    refuses _ c.from_residual.result c.in_err-prepared.field-0.0 (err_from_is_err_and c.from_residual.result c.from_residual.ensures.1)
    (λ m at.
    declarations-refused c.args.definitions.now m c.in_err-prepared.field-0.0
    (subst (λ n. RefusesOneOf (declaration_faults n) c.in_err-prepared.field-0.0)
    (module-read c.args.definitions.now c.args.place (view_part c.part.result.now) (view_module c.in-Module.module) m c.part.ensures (ap view_part c.in-Module.is) at)
    c.in_err-prepared.ensures.refused))

pub returns-in_err-add_primitives-clause-refused : goal.returns-in_err-add_primitives-clause-refused
returns-in_err-add_primitives-clause-refused c =
    refuses _ c.from_residual-in_err-add_primitives.result c.in_err-add_primitives.field-0.0
    (err_from_is_err_and c.from_residual-in_err-add_primitives.result c.from_residual-in_err-add_primitives.ensures.1)
    (λ m at.
    members-refused c.args.definitions.now m (map view_member c.deref.result.now) c.in_err-add_primitives.field-0.0
    (ap (map view_member) c.deref.ensures.value ∙ c.in_ok-prepared.ensures.prepared.members
    ∙ ap members (module-read c.args.definitions.now c.args.place (view_part c.part.result.now) (view_module c.in-Module.module) m c.part.ensures (ap view_part c.in-Module.is) at))
    c.in_err-add_primitives.ensures.refused)

pub returns-clause-met : goal.returns-clause-met
returns-clause-met c = λ places h.
    let lt : c.args.place < length c.add_primitives.new.parts = subst (λ n. c.args.place < n) (sym c.in_ok-add_primitives.ensures.stocked.stock.ready.0) c.requires.within in
    met-module c.args.definitions.now c.args.parts.now c.add_primitives.new.parts c.args.udps.now.items c.add_primitives.new.udps.items places c.args.place c.in_ok-prepared.prepared
    (view_module c.in-Module.module) (c.part.ensures ∙ ap (λ q. Some (view_part q)) c.in-Module.is) c.in_ok-prepared.ensures.prepared lt
    (subst (λ ms. Stocked c.args.definitions.now c.args.parts.now c.add_primitives.new.parts c.args.udps.now.items c.add_primitives.new.udps.items (map view_member ms)) c.deref.ensures.value
    c.in_ok-add_primitives.ensures.stocked) h
