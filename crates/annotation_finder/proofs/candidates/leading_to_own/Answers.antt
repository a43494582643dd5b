-- A port with a path before it is no scope's own.
use Rattle.std.proofs.Common.{◌≡◌, ℕ, ◌∙◌, ap, sym}
use Rattle.std.specs.Global.{Vec}
use Rattle.std.specs.List.{flat_map}
use Rattle.std.proofs.lemmas.Result.{IfOk-weaker}
use Rattle.sg_circuit.specs.Circuit.{scope_at}
use Rattle.sg_circuit.specs.Seen.{circuit_seen}
use Rattle.annotation_model.specs.Ports.{is_output, nets_named, own_nets}
use Rattle.annotation_places.specs.Places.{lookups_of}
use Rattle.annotation_finder.specs.Fitting.{leading_to}
use Rattle.annotation_finder.specs.Sought.{named_seen}
use Rattle.annotation_finder.proofs.CandidateSteps.{nothing-of, same-of}
use Rattle.annotation_finder.proofs.PortLaws.{is_own, not_own}
use Rattle.annotation_finder.proofs.candidates.leading_to_own.Goals as goal

pub returns-then-not-is_empty-clause-items : goal.returns-then-not-is_empty-clause-items
returns-then-not-is_empty-clause-items c =
    c.new.ensures.items
    ∙ sym (nothing-of (λ s. flat_map (lookups_of c.args.places.now).leading (own_nets (circuit_seen c.args.places.now.parts.now) is_output s (named_seen c.args.port.now).names c.args.port.now.bit)) c.args.scopes.now
    (λ s. ap (flat_map (lookups_of c.args.places.now).leading)
    (not_own (circuit_seen c.args.places.now.parts.now) is_output s c.args.port.now.name.items c.args.port.now.path.items c.args.port.now.bit c.args.port.now.path.len c.is_empty.result c.args.port.now.path.ok.0 c.is_empty.ensures c.if-not-is_empty.true)))

pub returns-clause-items : goal.returns-clause-items
returns-clause-items c = IfOk-weaker c.leading_to.result (λ (found : Vec ℕ). found.items ≡ flat_map (λ s. flat_map (lookups_of c.args.places.now).leading (nets_named is_output (scope_at (circuit_seen c.args.places.now.parts.now) s).variables c.args.port.now.name.items c.args.port.now.bit)) c.args.scopes.now)
    (λ (found : Vec ℕ). found.items ≡ leading_to (circuit_seen c.args.places.now.parts.now) (lookups_of c.args.places.now) (named_seen c.args.port.now) c.args.scopes.now)
    (λ found e. e ∙ same-of (λ s. flat_map (lookups_of c.args.places.now).leading (nets_named is_output (scope_at (circuit_seen c.args.places.now.parts.now) s).variables c.args.port.now.name.items c.args.port.now.bit))
    (λ s. flat_map (lookups_of c.args.places.now).leading (own_nets (circuit_seen c.args.places.now.parts.now) is_output s (named_seen c.args.port.now).names c.args.port.now.bit)) c.args.scopes.now
    (λ s. ap (flat_map (lookups_of c.args.places.now).leading)
    (sym (is_own (circuit_seen c.args.places.now.parts.now) is_output s c.args.port.now.name.items c.args.port.now.path.items c.args.port.now.bit c.args.port.now.path.len c.is_empty.result c.args.port.now.path.ok.0 c.is_empty.ensures c.if-not-is_empty.false)))) c.leading_to.ensures.items
