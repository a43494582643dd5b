-- The Paths are those of the definition.
use Rattle.std.proofs.Common.{◌≡◌, ◌≤◌, ◌<◌, ◌-◌, ◌∙◌, All, arith, ap, subst, sym, length, map, flat_map, drop, take, zip}
use Rattle.std.proofs.lemmas.Result.{on_ok_weaker}
use Rattle.elab_model.specs.Elements.{path_at}
use Rattle.elab_model.specs.Ends.{first_ends}
use Rattle.elab_model.specs.Nets.{nets}
use Rattle.elab_elements.specs.Words.{path_puts}
use Rattle.elab_elements.proofs.Meaning.{adds}
use Rattle.elab_elements.proofs.PathMeaning.{is-part, ends-part, member-paths, paths-within}
use Rattle.elab_elements.proofs.Putting.{if_err-weaker, refuses-count}
use Rattle.elab_elements.proofs.ReadHere.{ends-within, ends-here}
use Rattle.elab_elements.proofs.paths.add_own_paths.Goals as goal

pub part_between-bits-requires-clause-start : goal.part_between-bits-requires-clause-start
part_between-bits-requires-clause-start c =
    (is-part c.requires.at.0 c.requires.at.1.0 c.args.rows.now c.args.number c.args.prepared.now c.args.row.now c.args.at c.requires.at.1.1.1.0 c.requires.at.1.1.0 c.index-start.result.now
    c.index-end.result.now
    c.requires.at.1.1.1.1 c.index-start.ensures c.index-end.ensures).order

pub part_between-bits-requires-clause-end : goal.part_between-bits-requires-clause-end
part_between-bits-requires-clause-end c =
    subst (λ n. c.index-end.result.now ≤ n) (sym (ap length c.deref.ensures.value))
    (is-part c.requires.at.0 c.requires.at.1.0 c.args.rows.now c.args.number c.args.prepared.now c.args.row.now c.args.at c.requires.at.1.1.1.0 c.requires.at.1.1.0 c.index-start.result.now
    c.index-end.result.now
    c.requires.at.1.1.1.1 c.index-start.ensures c.index-end.ensures).bits_within

pub end_row-all-requires : goal.end_row-all-requires
end_row-all-requires c =
    let h = c.requires.at.1.1.1.1 in
    let n : c.len.result ≡ length c.args.prepared.now.ends.bits.items = omega (arith, c.len.ensures, c.args.prepared.now.ends.bits.ok.0) in
    ends-within c.requires.at.0 c.requires.at.1.0 c.args.rows.now h.before c.requires.at.1.1.0 c.args.number c.args.prepared.now.ends c.len.result h.place h.has_row h.is_prepared.ends n

pub part_between-ends-requires-clause-start : goal.part_between-ends-requires-clause-start
part_between-ends-requires-clause-start c =
    (is-part c.requires.at.0 c.requires.at.1.0 c.args.rows.now c.args.number c.args.prepared.now c.args.row.now c.args.at c.requires.at.1.1.1.0 c.requires.at.1.1.0 c.index-start.result.now
    c.index-end.result.now
    c.requires.at.1.1.1.1 c.index-start.ensures c.index-end.ensures).order

pub part_between-ends-requires-clause-end : goal.part_between-ends-requires-clause-end
part_between-ends-requires-clause-end c =
    let h = c.requires.at.1.1.1.1 in
    let n : c.len.result ≡ length c.args.prepared.now.ends.bits.items = omega (arith, c.len.ensures, c.args.prepared.now.ends.bits.ok.0) in
    (ends-part (nets c.requires.at.0 c.requires.at.1.0) c.args.prepared.now c.args.row.now c.end_row-all.result.now c.args.at c.requires.at.1.1.1.0 c.requires.at.1.1.0 c.index-start.result.now
    c.index-end.result.now
    h.is_prepared
    (is-part c.requires.at.0 c.requires.at.1.0 c.args.rows.now c.args.number c.args.prepared.now c.args.row.now c.args.at c.requires.at.1.1.1.0 c.requires.at.1.1.0 c.index-start.result.now
    c.index-end.result.now h
    c.index-start.ensures c.index-end.ensures)
    (ends-here c.requires.at.0 c.requires.at.1.0 c.args.rows.now h.before c.requires.at.1.1.0 c.args.number c.args.prepared.now.ends c.len.result c.end_row-all.result.now h.place h.has_row h.is_prepared.ends n
    c.end_row-all.ensures)).1

pub add_paths-requires-clause-row : goal.add_paths-requires-clause-row
add_paths-requires-clause-row c =
    subst (All (λ i. i < length c.args.row.now)) (sym (c.part_between-bits.ensures
    ∙ ap (λ xs. take (c.index-end.result.now - c.index-start.result.now) (drop c.index-start.result.now xs)) c.deref.ensures.value))
    (is-part c.requires.at.0 c.requires.at.1.0 c.args.rows.now c.args.number c.args.prepared.now c.args.row.now c.args.at c.requires.at.1.1.1.0 c.requires.at.1.1.0 c.index-start.result.now
    c.index-end.result.now
    c.requires.at.1.1.1.1 c.index-start.ensures c.index-end.ensures).in_row

pub returns-clause-elements : goal.returns-clause-elements
returns-clause-elements c =
    let n : c.len.result ≡ length c.args.prepared.now.ends.bits.items = omega (arith, c.len.ensures, c.args.prepared.now.ends.bits.ok.0) in
    on_ok_weaker c.add_paths.result
    (λ puts. λ delays udps source top s x h. adds delays udps (nets source top) c.args.made.now c.add_paths.new.made _ _
    (member-paths delays udps source top c.args.rows.now c.args.number c.args.prepared.now c.args.row.now c.part_between-bits.result.now c.part_between-ends.result.now c.end_row-all.result.now c.args.place
    c.args.at x s
    c.index-start.result.now c.index-end.result.now h c.index-start.ensures c.index-end.ensures
    (c.part_between-bits.ensures ∙ ap (λ xs. take (c.index-end.result.now - c.index-start.result.now) (drop c.index-start.result.now xs)) c.deref.ensures.value) c.part_between-ends.ensures
    (ends-here source top c.args.rows.now h.before s c.args.number c.args.prepared.now.ends c.len.result c.end_row-all.result.now h.place h.has_row h.is_prepared.ends n c.end_row-all.ensures))
    puts)
    c.add_paths.ensures.puts

pub returns-clause-refused : goal.returns-clause-refused
returns-clause-refused c =
    let n : c.len.result ≡ length c.args.prepared.now.ends.bits.items = omega (arith, c.len.ensures, c.args.prepared.now.ends.bits.ok.0) in
    if_err-weaker c.add_paths.result _ _
    (λ r refused. λ source top s x h. refuses-count c.args.made.now (flat_map (path_puts c.args.number c.args.place c.args.row.now) (zip c.part_between-bits.result.now c.part_between-ends.result.now))
    (map (path_at source s c.args.place) (first_ends s.step.definition (c.args.at, x))) r
    (paths-within source top c.args.rows.now c.args.number c.args.prepared.now c.args.row.now c.part_between-bits.result.now c.part_between-ends.result.now c.end_row-all.result.now c.args.place c.args.at x s
    c.index-start.result.now c.index-end.result.now h c.index-start.ensures c.index-end.ensures
    (c.part_between-bits.ensures ∙ ap (λ xs. take (c.index-end.result.now - c.index-start.result.now) (drop c.index-start.result.now xs)) c.deref.ensures.value) c.part_between-ends.ensures
    (ends-here source top c.args.rows.now h.before s c.args.number c.args.prepared.now.ends c.len.result c.end_row-all.result.now h.place h.has_row h.is_prepared.ends n c.end_row-all.ensures))
    refused)
    c.add_paths.ensures.refused
