-- The constants in connections are what bits of ports are bound to, where no port is connected twice.
use Rattle.std.specs.Prelude.{◌≡◌, ℕ, ◌+◌, List, Option, Some, None, slice_get, refl}
use Rattle.std.specs.List.{AllByRecursion, enumerate_from}
use Rattle.std.specs.Option.{option_and_then}
use Rattle.std.proofs.Common.{◌∙◌, ap, arith, inl, subst}
use Rattle.sg_logic.specs.declared.values.Value.{Value}
use Rattle.sg_text.specs.declared.places.Place.{Place}
use Rattle.vl_tree.specs.Tree.{Named, Expression, Connections}
use Rattle.elab_model.specs.Bits.{Bit, net, constant, bits}
use Rattle.elab_model.specs.Connections.{connection_at, port_values}
use Rattle.elab_model.specs.Names.{Variable}
use Rattle.elab_laws.proofs.Lists.{In, in-flat, all-flat_in, all-weaker}
use Rattle.elab_laws.proofs.PartsApart.{places-are}
use Rattle.elab_laws.proofs.LegSources.{place-there, value-there}
use Rattle.elab_ports.specs.Bound.{bound_in}
use Rattle.elab_ports.specs.Constants.{BoundConstant, constant_at, connection_constants, constants_in}

abbrev pub IsBoundTo : List Variable → Connections → List Named → BoundConstant → Type 0
IsBoundTo vs x ps k = bound_in vs x ps k.port k.position ≡ Some (constant k.place k.value)

-- each constant is what its bit is bound to
bit-bound : (vs : List Variable) (x : Connections) (ps : List Named) (n : List ℕ) (e : Expression) → connection_at x ps n ≡ Some e → (b : ℕ × Bit) → slice_get (bits vs e) b.0 ≡ Some b.1
    → AllByRecursion (IsBoundTo vs x ps) (constant_at n b)
bit-bound vs x ps n e first (p, net m q) at = tt
bit-bound vs x ps n e first (p, constant there v) at = (ap (option_and_then (λ e. slice_get (bits vs e) p)) first ∙ at, tt)

pub constants-bound : (vs : List Variable) (x : Connections) (ps : List Named) → AllByRecursion (λ e. connection_at x ps e.0 ≡ Some e.1) (port_values x ps)
    → AllByRecursion (IsBoundTo vs x ps) (constants_in vs x ps)
constants-bound vs x ps first =
    all-flat_in (IsBoundTo vs x ps) (connection_constants vs) (port_values x ps)
    (all-weaker (λ e. connection_at x ps e.0 ≡ Some e.1) (λ e. AllByRecursion (IsBoundTo vs x ps) (connection_constants vs e)) (port_values x ps)
    (λ e is. all-flat_in (IsBoundTo vs x ps) (constant_at e.0) (enumerate_from 0 (bits vs e.1))
    (all-weaker (λ b. slice_get (bits vs e.1) b.0 ≡ Some b.1) (λ b. AllByRecursion (IsBoundTo vs x ps) (constant_at e.0 b)) (enumerate_from 0 (bits vs e.1))
    (λ b at. bit-bound vs x ps e.0 e.1 is b at) (places-are (bits vs e.1))))
    first)

abbrev pub bound_constant : List ℕ → ℕ → Place → Value → BoundConstant
bound_constant n p at v = record { port = n; position = p; place = at; value = v }

-- and each constant that a bit is bound to is among them
pub constant-among : (vs : List Variable) (x : Connections) (ps : List Named) (n : List ℕ) (p : ℕ) (at : Place) (v : Value) → bound_in vs x ps n p ≡ Some (constant at v)
    → In (bound_constant n p at v) (constants_in vs x ps)
constant-among vs x ps n p at v bound = by (connection_at x ps n) refl bound
  where
    by : (o : Option Expression) → connection_at x ps n ≡ o → option_and_then (λ e. slice_get (bits vs e) p) o ≡ Some (constant at v) → In (bound_constant n p at v) (constants_in vs x ps)
    by None e h = cc
    by (Some y) e h =
        let z : 0 + p ≡ p = omega arith in
        let place : In (p, constant at v) (enumerate_from 0 (bits vs y)) = subst (λ k. In (k, constant at v) (enumerate_from 0 (bits vs y))) z (place-there 0 (bits vs y) p (constant at v) h) in
        let one : In (bound_constant n p at v) (connection_constants vs (n, y)) = in-flat (constant_at n) (p, constant at v) (bound_constant n p at v) (enumerate_from 0 (bits vs y)) place (inl refl) in
        in-flat (connection_constants vs) (n, y) (bound_constant n p at v) (port_values x ps) (value-there x ps n y e) one
