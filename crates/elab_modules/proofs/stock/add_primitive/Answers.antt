-- The primitive of a name stands ready, if it is one.
use Rattle.std.proofs.Common.{rules, ◌≡◌, ◌∙◌, sym, ap, subst, ◌<◌, ◌+◌, ◌-◌, ◌^◌, length, Some, arith}
use Rattle.std.proofs.lemmas.Result.{err_from_is_err_and}
use Rattle.vl_tree.specs.Seen.{view_part}
use Rattle.elab_model.specs.Definitions.{as_primitive}
use Rattle.elab_hierarchy.proofs.Found.{place-below}
use Rattle.elab_hierarchy.proofs.Whole.{refuses}
use Rattle.elab_modules.proofs.FirstUses.{first-had, first-other, first-primitive, first-undefined}
use Rattle.elab_modules.proofs.Stocking.{primitive-put, primitive-keeps, put-ready}
use Rattle.elab_modules.proofs.Meeting.{name-ready, name-refused, none-ready, some-ready}
use Rattle.elab_modules.proofs.stock.add_primitive.Goals as goal

pub part-requires : goal.part-requires
part-requires c = place-below c.args.definitions.now c.args.name.now c.in-Some.place (sym c.find.ensures ∙ c.in-Some.is)

pub bounds-parts-place : goal.bounds-parts-place
bounds-parts-place c =
    subst (λ n. c.in-Some.place < n) (sym c.requires.stock.ready.0) (place-below c.args.definitions.now c.args.name.now c.in-Some.place (sym c.find.ensures ∙ c.in-Some.is))

pub offset_bounds-parts-place : goal.offset_bounds-parts-place
offset_bounds-parts-place c =
    let lt : c.in-Some.place < length c.args.parts.now =
    subst (λ n. c.in-Some.place < n) (sym c.requires.stock.ready.0) (place-below c.args.definitions.now c.args.name.now c.in-Some.place (sym c.find.ensures ∙ c.in-Some.is)) in
    search (rules, lt)

pub returns-then-is_some-clause-named : goal.returns-then-is_some-clause-named
returns-then-is_some-clause-named c = name-ready c.args.definitions.now c.args.parts.now c.args.name.now c.in-Some.place (sym c.find.ensures ∙ c.in-Some.is)
    (some-ready c.args.parts.now c.in-Some.place c.index-parts-place.result c.is_some.result
    (subst (λ n. c.in-Some.place < n) (sym c.requires.stock.ready.0) (place-below c.args.definitions.now c.args.name.now c.in-Some.place (sym c.find.ensures ∙ c.in-Some.is)))
    c.is_some.ensures c.if-is_some.true)

pub returns-in_default-clause-first : goal.returns-in_default-clause-first
returns-in_default-clause-first c = λ met h.
    first-undefined c.args.definitions.now c.args.parts.now c.args.udps.now.items c.args.name.now met (sym c.find.ensures ∙ c.in_default.is) h

pub returns-in_default-part-clause-first : goal.returns-in_default-part-clause-first
returns-in_default-part-clause-first c = λ met h.
    first-other c.args.definitions.now c.args.parts.now c.args.udps.now.items c.args.name.now c.in-Some.place (view_part c.part.result.now) met (sym c.find.ensures ∙ c.in-Some.is) c.part.ensures
    (ap (λ p. as_primitive (view_part p)) c.in_default-part.is) h

pub returns-then-is_some-clause-first : goal.returns-then-is_some-clause-first
returns-then-is_some-clause-first c = λ met h.
    let placed = sym c.find.ensures ∙ c.in-Some.is in
    first-had c.args.definitions.now c.args.parts.now c.args.udps.now.items c.args.name.now c.in-Some.place _ met
    (record { placed = placed; there = c.part.ensures ∙ ap (λ p. Some (view_part p)) c.in-Primitive.is }) c.requires.stock.ready
    (some-ready c.args.parts.now c.in-Some.place c.index-parts-place.result c.is_some.result
    (subst (λ n. c.in-Some.place < n) (sym c.requires.stock.ready.0) (place-below c.args.definitions.now c.args.name.now c.in-Some.place placed)) c.is_some.ensures c.if-is_some.true) h

pub returns-in_err-udp-clause-refused : goal.returns-in_err-udp-clause-refused
returns-in_err-udp-clause-refused c =
    refuses _ c.from_residual.result c.in_err-udp.field-0.0 (err_from_is_err_and c.from_residual.result c.from_residual.ensures.1)
    (name-refused c.args.definitions.now c.args.name.now c.in-Some.place _ c.in_err-udp.field-0.0 (sym c.find.ensures ∙ c.in-Some.is) (c.part.ensures ∙ ap (λ p. Some (view_part p)) c.in-Primitive.is) c.in_err-udp.ensures.refused)

pub bounds-parts-place-2 : goal.bounds-parts-place-2
bounds-parts-place-2 c =
    subst (λ n. c.in-Some.place < n) (sym c.requires.stock.ready.0) (place-below c.args.definitions.now c.args.name.now c.in-Some.place (sym c.find.ensures ∙ c.in-Some.is))

pub offset_bounds-parts-place-2 : goal.offset_bounds-parts-place-2
offset_bounds-parts-place-2 c =
    let lt : c.in-Some.place < length c.args.parts.now =
    subst (λ n. c.in-Some.place < n) (sym c.requires.stock.ready.0) (place-below c.args.definitions.now c.args.name.now c.in-Some.place (sym c.find.ensures ∙ c.in-Some.is)) in
    search (rules, lt)

pub returns-clause-stock : goal.returns-clause-stock
returns-clause-stock c =
    let n : c.len-number.result ≡ length c.args.udps.now.items = search rules in
    let few : length c.args.udps.now.items + 1 < 2 ^ 31 = (let lt : c.len.result < 2 ^ 31 - 1 = c.if-len-ge-MOST_UDPS.false in let l : c.len.result ≡ length c.args.udps.now.items = search rules in omega arith) in
    primitive-put c.args.definitions.now c.args.parts.now c.in-Some.place c.len-number.result _ c.args.udps.now.items c.push.new.self.items c.in_ok-udp.udp c.requires.stock
    (c.part.ensures ∙ ap (λ p. Some (view_part p)) c.in-Primitive.is) c.in_ok-udp.ensures.faultless c.in_ok-udp.ensures.rows c.in_ok-udp.ensures.first n few c.in_ok-push.ensures.items

pub returns-clause-keeps : goal.returns-clause-keeps
returns-clause-keeps c =
    primitive-keeps c.args.parts.now c.in-Some.place c.len-number.result
    (subst (λ n. c.in-Some.place < n) (sym c.requires.stock.ready.0) (place-below c.args.definitions.now c.args.name.now c.in-Some.place (sym c.find.ensures ∙ c.in-Some.is)))

pub returns-clause-named : goal.returns-clause-named
returns-clause-named c =
    name-ready c.args.definitions.now _ c.args.name.now c.in-Some.place (sym c.find.ensures ∙ c.in-Some.is)
    (put-ready c.args.parts.now c.in-Some.place _
    (subst (λ n. c.in-Some.place < n) (sym c.requires.stock.ready.0) (place-below c.args.definitions.now c.args.name.now c.in-Some.place (sym c.find.ensures ∙ c.in-Some.is))))

pub returns-clause-first : goal.returns-clause-first
returns-clause-first c = λ met h.
    let placed = sym c.find.ensures ∙ c.in-Some.is in
    let lt : c.in-Some.place < length c.args.parts.now = subst (λ n. c.in-Some.place < n) (sym c.requires.stock.ready.0) (place-below c.args.definitions.now c.args.name.now c.in-Some.place placed) in
    first-primitive c.args.definitions.now c.args.parts.now c.in-Some.place c.len-number.result c.args.name.now _ c.args.udps.now.items c.push.new.self.items c.in_ok-udp.udp met
    (record { placed = placed; there = c.part.ensures ∙ ap (λ p. Some (view_part p)) c.in-Primitive.is }) lt
    (none-ready c.args.parts.now c.in-Some.place c.index-parts-place.result c.is_some.result lt c.is_some.ensures c.if-is_some.false) c.in_ok-udp.ensures.rows c.in_ok-udp.ensures.first
    c.in_ok-push.ensures.items h
