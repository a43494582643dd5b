-- The constants at their places in the row are those of the connections.
use Rattle.std.specs.Prelude.{◌≡◌, ℕ, ◌+◌, ◌<◌, ◌≤◌, List, [], ◌∷◌, ◌++◌, length, map, flat_map, take, refl}
use Rattle.std.specs.List.{AllByRecursion, enumerate_from}
use Rattle.std.proofs.Common.{sym, ◌∙◌, ap, arith}
use Rattle.std.proofs.lemmas.List.{map-append}
use Rattle.sg_circuit.specs.Closed.{width_of}
use Rattle.sg_text.specs.declared.places.Place.{Place}
use Rattle.vl_tree.specs.Tree.{Named, Expression, Connections, Module}
use Rattle.elab_model.specs.Bits.{Bit, net, constant, bits}
use Rattle.elab_model.specs.Connections.{port_values}
use Rattle.elab_model.specs.Names.{Variable, variables}
use Rattle.elab_model.specs.Ports.{port_list}
use Rattle.elab_laws.specs.Handing.{all_bits}
use Rattle.elab_bits.specs.Seen.{bit_at}
use Rattle.elab_ports.specs.Bound.{AreConnected, AreOf}
use Rattle.elab_ports.specs.Constants.{constant_at, connection_constants, constants_in, view_constant}
use Rattle.elab_ports.specs.Placing.{placed_constant, placed_from, placed_constants}
use Rattle.elab_ports.proofs.BitPlaces.{bit-place}
use Rattle.elab_ports.proofs.Fitting.{values-fit}
use Rattle.elab_ports.proofs.Pairs.{pairs, values, values-are}
use Rattle.elab_ports.proofs.Rows.{split-at}
use Rattle.elab_ports.proofs.Updates.{Fits, room-there}

-- from here on the row has the bits of a variable of this name
abbrev HasBits : List Variable → List ℕ → ℕ → ℕ → Type 0
HasBits child n start width = (p : ℕ) → p < width → ((bit_at child (start + p)).0.name ≡ n) × ((bit_at child (start + p)).1 ≡ p)

bits-seen : (child : List Variable) (n : List ℕ) (start width k : ℕ) (bs : List Bit) → HasBits child n start width → k + length bs ≤ width
    → map (view_constant child) (flat_map (placed_constant start) (enumerate_from k bs)) ≡ flat_map (constant_at n) (enumerate_from k bs)
bits-seen child n start width k [] h le = refl
bits-seen child n start width k (net m q ∷ bs) h le = bits-seen child n start width (k + 1) bs h (omega arith)
bits-seen child n start width k (constant at v ∷ bs) h le =
    let b = h k (omega arith) in
    ap (λ m. record { port = m; position = (bit_at child (start + k)).1; place = at; value = v } ∷ map (view_constant child) (flat_map (placed_constant start) (enumerate_from (k + 1) bs))) b.0
    ∙ ap (λ p. record { port = n; position = p; place = at; value = v } ∷ map (view_constant child) (flat_map (placed_constant start) (enumerate_from (k + 1) bs))) b.1
    ∙ ap (λ cs. record { port = n; position = k; place = at; value = v } ∷ cs) (bits-seen child n start width (k + 1) bs h (omega arith))

connection-seen : (vs child : List Variable) (e : List ℕ × Expression) → Fits vs child e → map (view_constant child) (placed_constants vs child e) ≡ connection_constants vs e
connection-seen vs child e h =
    let s = split-at child e.0 h.place h.named in
    let w : length (bits vs e.1) ≡ width_of s.found.range = h.wide s in
    let has : HasBits child e.0 (length (all_bits (take h.place child))) (width_of s.found.range) =
    λ p lt. let b = bit-place child e.0 h.place p s h.named lt in (ap (λ x. x.0.name) b ∙ sym s.named, ap (λ x. x.1) b) in
    ap (λ o. map (view_constant child) (placed_from o (bits vs e.1))) (room-there vs child e h)
    ∙ bits-seen child e.0 (length (all_bits (take h.place child))) (width_of s.found.range) 0 (bits vs e.1) has (omega arith)

all-seen : (vs child : List Variable) (es : List (List ℕ × Expression)) → AllByRecursion (Fits vs child) es
    → map (view_constant child) (flat_map (placed_constants vs child) es) ≡ flat_map (connection_constants vs) es
all-seen vs child [] h = refl
all-seen vs child (e ∷ es) h =
    map-append (view_constant child) (placed_constants vs child e) (flat_map (placed_constants vs child) es)
    ∙ ap (λ xs. xs ++ map (view_constant child) (flat_map (placed_constants vs child) es)) (connection-seen vs child e h.0)
    ∙ ap (λ xs. connection_constants vs e ++ xs) (all-seen vs child es h.1)

module-constants : (vs : List Variable) (m : Module) (at : Place) (x : Connections) → AreConnected vs m at x
    → map (view_constant (variables m)) (flat_map (placed_constants vs (variables m)) (port_values x (port_list m))) ≡ constants_in vs x (port_list m)
module-constants vs m at x c =
    let e = values-are x (port_list m) in
    ap (λ es. map (view_constant (variables m)) (flat_map (placed_constants vs (variables m)) es)) (sym e)
    ∙ all-seen vs (variables m) (values (pairs x (port_list m))) (values-fit vs m at x c) ∙ ap (flat_map (connection_constants vs)) e

pub constants-are : (vs child : List Variable) (m : Module) (at : Place) (x : Connections) (ports : List Named) → AreOf m child ports → AreConnected vs m at x
    → map (view_constant child) (flat_map (placed_constants vs child) (port_values x ports)) ≡ constants_in vs x ports
constants-are vs child m at x ports o c = rw (o.table, o.list) (module-constants vs m at x c)
