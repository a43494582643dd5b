use Rattle.std.proofs.Common.{◌≡◌, ◌∙◌, ◌<◌, ◌-◌, length, sym, ap, arith, subst}
use Rattle.sg_circuit.specs.declared.elements.Element.{Element}
use Rattle.sg_circuit.specs.declared.paths.Path.{Path}
use Rattle.sg_circuit.specs.Circuit.{Circuit}
use Rattle.sg_circuit.specs.TimingsSeen.{leg_timing_seen}
use Rattle.circuit_open.specs.Open.{Open, changed_at, with_kind, with_path, place_in, HasPathIn}
use Rattle.circuit_open.proofs.OpenLaws.{path-had, path-set, place-within}
use Rattle.circuit_open.proofs.opened.OpenCircuit.set_path.Goals as goal

pub place_of-path-requires : goal.place_of-path-requires
place_of-path-requires c =
    subst (λ (x : Element). HasPathIn c.args.path x.kind) (sym c.index.ensures)
    (path-had c.self.inside.parts c.self.inside.room c.args.element c.args.path c.index.result.now c.args.self.now c.self.view_is c.requires.element c.requires.path c.self.invariant.1)

pub set_timing-requires : goal.set_timing-requires
set_timing-requires c =
    subst (λ n. n < length c.self.inside.parts.paths.items) (sym (c.place_of-path.ensures ∙ ap (λ (x : Element). place_in x.kind c.args.path) c.index.ensures))
    (place-within c.self.inside.parts c.self.inside.room c.args.element c.args.path c.index.result.now c.args.self.now c.self.view_is c.requires.element c.requires.path c.self.invariant.1)

pub invariant_of-self : goal.invariant_of-self
invariant_of-self c =
    let h = path-set c.self.inside.parts c.add_timing-place.new.timings c.set_timing.new.paths c.self.inside.room c.args.element c.args.path c.add_timing-place.result c.index.result.now c.args.timing c.args.self.now
    c.self.view_is c.requires.element c.requires.path c.requires.timing c.self.invariant.0 c.self.invariant.1 c.add_timing-place.ensures.items c.add_timing-place.ensures.place
    (c.set_timing.ensures ∙ ap (λ n. changed_at (λ (p : Path). record p { timing = c.add_timing-place.result }) n c.self.inside.parts.paths.items) (c.place_of-path.ensures ∙ ap (λ (x : Element). place_in x.kind c.args.path) c.index.ensures)) in
    let r : c.self.inside.room ≡ c.args.self.now.room = ap (λ (o : Open). o.room) c.self.view_is in (
      h.closed,
      h.indexed,
      omega (arith, c.requires.room, r, c.self.invariant.2, c.add_timing-place.ensures.len, c.add_timing-place.ensures.capacity),
      omega (arith, c.requires.room, r, c.self.invariant.3, c.add_timing-place.ensures.len),
    )

pub returns : goal.returns
returns c =
    let h = path-set c.self.inside.parts c.add_timing-place.new.timings c.set_timing.new.paths c.self.inside.room c.args.element c.args.path c.add_timing-place.result c.index.result.now c.args.timing c.args.self.now
    c.self.view_is c.requires.element c.requires.path c.requires.timing c.self.invariant.0 c.self.invariant.1 c.add_timing-place.ensures.items c.add_timing-place.ensures.place
    (c.set_timing.ensures ∙ ap (λ n. changed_at (λ (p : Path). record p { timing = c.add_timing-place.result }) n c.self.inside.parts.paths.items) (c.place_of-path.ensures ∙ ap (λ (x : Element). place_in x.kind c.args.path) c.index.ensures)) in
    let r : c.self.inside.room ≡ c.args.self.now.room = ap (λ (o : Open). o.room) c.self.view_is in
    ap (λ (k : Circuit). record { circuit = k; room = c.self.inside.room - 1 }) h.seen
    ∙ ap (λ (n : _). record { circuit = with_kind (with_path c.args.path (leg_timing_seen c.args.timing)) c.args.element c.args.self.now.circuit; room = n - 1 }) r
