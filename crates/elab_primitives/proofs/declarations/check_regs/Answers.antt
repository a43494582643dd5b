-- One of the names is that of another port than the first, or none is.
use Rattle.std.proofs.Common.{map, ap, sym, ◌∙◌, find}
use Rattle.std.specs.Option.{option_map}
use Rattle.vl_tree.specs.Seen.{view_name, view_primitive}
use Rattle.elab_model.specs.PrimitiveFaults.{is_in}
use Rattle.elab_primitives.proofs.SameFaults.{others-cut, regs-none, regs-some}
use Rattle.elab_primitives.proofs.declarations.check_regs.Goals as goal

pub returns-in-Some-clause-refused : goal.returns-in-Some-clause-refused
returns-in-Some-clause-refused c =
    let p = view_primitive c.args.primitive.now in
    let cut = others-cut c.first_and_others.result.1.now c.deref.result.now c.args.primitive.now.ports.items c.first_and_others.ensures.others c.deref.ensures.value in
    regs-some p p.ports (map view_name c.states.result.now) (view_name c.in-Some.name) (c.states.ensures p c.requires)
    (ap (λ ns. find (is_in ns) (map view_name c.states.result.now)) (sym cut) ∙ sym c.first_among.ensures ∙ ap (option_map view_name) c.in-Some.is)

pub returns-in-None-clause-faultless : goal.returns-in-None-clause-faultless
returns-in-None-clause-faultless c =
    let p = view_primitive c.args.primitive.now in
    let cut = others-cut c.first_and_others.result.1.now c.deref.result.now c.args.primitive.now.ports.items c.first_and_others.ensures.others c.deref.ensures.value in
    regs-none p p.ports (map view_name c.states.result.now) (c.states.ensures p c.requires)
    (ap (λ ns. find (is_in ns) (map view_name c.states.result.now)) (sym cut) ∙ sym c.first_among.ensures ∙ ap (option_map view_name) c.in-None.is)
