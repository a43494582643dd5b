-- What leads to the port in the scopes to which its path leads.
use Rattle.std.proofs.Common.{◌≡◌, ℕ, ◌∙◌, ap}
use Rattle.std.specs.Global.{Vec}
use Rattle.std.specs.List.{flat_map}
use Rattle.std.proofs.lemmas.Result.{IfOk-weaker}
use Rattle.sg_circuit.specs.Circuit.{scope_at}
use Rattle.sg_circuit.specs.Seen.{circuit_seen}
use Rattle.annotation_index.specs.Candidates.{to_named}
use Rattle.annotation_model.specs.Ports.{is_input, nets_named}
use Rattle.annotation_places.specs.Places.{lookups_of}
use Rattle.annotation_finder.specs.Sought.{named_seen}
use Rattle.annotation_finder.proofs.CandidateSteps.{scopes_named}
use Rattle.annotation_finder.proofs.candidates.leading_below.Goals as goal

pub returns-clause-items : goal.returns-clause-items
returns-clause-items c = IfOk-weaker c.leading_to.result
    (λ (found : Vec ℕ). found.items ≡ flat_map (λ s. flat_map (lookups_of c.args.places.now).leading (nets_named is_input (scope_at (circuit_seen c.args.places.now.parts.now) s).variables c.args.port.now.name.items c.args.port.now.bit)) c.deref-2.result.now)
    (λ (found : Vec ℕ). found.items ≡ to_named (circuit_seen c.args.places.now.parts.now) (lookups_of c.args.places.now) (named_seen c.args.port.now).names c.args.port.now.bit c.args.scopes.now)
    (λ found e. e ∙ ap (flat_map (λ s. flat_map (lookups_of c.args.places.now).leading (nets_named is_input (scope_at (circuit_seen c.args.places.now.parts.now) s).variables c.args.port.now.name.items c.args.port.now.bit)))
    (c.deref-2.ensures.value ∙ (c.in_ok-below.ensures.items ∙ scopes_named (lookups_of c.args.places.now) c.deref.result.now c.args.port.now.path.items c.args.scopes.now c.deref.ensures.value)))
    c.leading_to.ensures.items
