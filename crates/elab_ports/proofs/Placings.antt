-- Constants that are added, one connection after another.
use Rattle.std.specs.Prelude.{◌≡◌, ℕ, ◌+◌, ◌<◌, ◌≤◌, List, [], ◌∷◌, ◌++◌, All, IfSome, Option, Some, length, map, flat_map, take, drop, refl, slice_index_or}
use Rattle.std.specs.List.{cons_option, enumerate_from}
use Rattle.std.specs.Option.{option_map}
use Rattle.std.proofs.Common.{sym, ◌∙◌, ap, subst, arith, append_assoc}
use Rattle.std.proofs.lemmas.Grind.{flat_map-append}
use Rattle.std.proofs.lemmas.List.{append-nil, length-map}
use Rattle.std.proofs.lemmas.List.Elements.{All-append, All-nil, All-cons}
use Rattle.sg_text.specs.declared.places.Place.{Place}
use Rattle.vl_tree.specs.declared.expressions.Expression as code_expression
use Rattle.vl_tree.specs.declared.items.NamedConnection as code_connection
use Rattle.vl_tree.specs.declared.names.Name as code_name
use Rattle.vl_tree.specs.Seen.{view_expression}
use Rattle.vl_tree.specs.Tree.{Named, Expression, Connections, Module}
use Rattle.elab_bits.specs.declared.bits.Bit as code_bit
use Rattle.elab_bits.specs.declared.bits.Bit.TheVariants as bit
use Rattle.elab_bits.specs.Seen.{view_bit}
use Rattle.elab_laws.specs.Handing.{all_bits}
use Rattle.elab_model.specs.Bits.{bits}
use Rattle.elab_model.specs.Connections.{with_port, port_values}
use Rattle.elab_model.specs.Names.{Variable}
use Rattle.elab_ports.specs.declared.constants.PortConstant as code
use Rattle.elab_ports.specs.Binding.{room_at}
use Rattle.elab_ports.specs.Placing.{code_constant, code_constants, placed_constant, placed_from, placed_constants, HavePlaces, Places}
use Rattle.elab_ports.specs.Bound.{AreConnected, AreOf}
use Rattle.elab_ports.specs.Constants.{constants_in, view_constant}
use Rattle.elab_ports.proofs.PlacedRow.{constants-are}
use Rattle.elab_ports.proofs.Bindings.{named_values, named-more, ordered_values, ordered-more}

-- ---- the bits of one connection

abbrev pub constants_left : ℕ → ℕ → List code_bit.Bit → List code.PortConstant
constants_left start k bs = flat_map (code_constant start) (enumerate_from k (drop k bs))

seen-same : (vs : List Variable) (start k : ℕ) (bs : List code_bit.Bit)
    → flat_map (code_constant start) (enumerate_from k bs) ≡ flat_map (placed_constant start) (enumerate_from k (map (view_bit vs) bs))
seen-same vs start k [] = refl
seen-same vs start k (bit.Net i ∷ bs) = seen-same vs start (k + 1) bs
seen-same vs start k (bit.Constant at v ∷ bs) = ap (λ cs. record { bit = start + k; place = at; value = v } ∷ cs) (seen-same vs start (k + 1) bs)

places-below : (total start k : ℕ) (bs : List code_bit.Bit) → start + (k + length bs) ≤ total → All (λ c. c.bit < total) (flat_map (code_constant start) (enumerate_from k bs))
places-below total start k [] h = All-nil (λ c. c.bit < total)
places-below total start k (bit.Net i ∷ bs) h = places-below total start (k + 1) bs (omega arith)
places-below total start k (bit.Constant at v ∷ bs) h =
    All-cons (λ c. c.bit < total) (record { bit = start + k; place = at; value = v }) (flat_map (code_constant start) (enumerate_from (k + 1) bs)) (omega arith)
    (places-below total start (k + 1) bs (omega arith))

-- ---- connections

pub places-then : (vs child : List Variable) (es fs : List (List ℕ × Expression)) (old list new : List code.PortConstant) → Places vs child es old list → Places vs child fs list new
    → Places vs child (es ++ fs) old new
places-then vs child es fs old list new a b = record {
  added = b.added ∙ ap (λ ys. ys ++ flat_map (placed_constants vs child) fs) a.added
      ∙ append_assoc old (flat_map (placed_constants vs child) es) (flat_map (placed_constants vs child) fs)
      ∙ ap (λ ys. old ++ ys) (sym (flat_map-append (placed_constants vs child) es fs));
  row = λ h. b.row (a.row h);
}

places-one : (vs child : List Variable) (n : List ℕ) (e : Expression) (start : ℕ) (bs : List code_bit.Bit) (old new : List code.PortConstant)
    → map (view_bit vs) bs ≡ bits vs e → Some start ≡ room_at child n (length bs) → start + length bs ≤ length (all_bits child) → new ≡ old ++ code_constants start bs
    → Places vs child ((n, e) ∷ []) old new
places-one vs child n e start bs old new b r le g =
    let n_is : length bs ≡ length (bits vs e) = sym (length-map bs (view_bit vs)) ∙ ap length b in
    let c : code_constants start bs ≡ placed_constants vs child (n, e) =
    seen-same vs start 0 bs ∙ ap (placed_from (Some start)) b ∙ ap (λ o. placed_from o (bits vs e)) (r ∙ ap (room_at child n) n_is) in
    record {
      added = g ∙ ap (λ ys. old ++ ys) (c ∙ sym (append-nil (placed_constants vs child (n, e))));
      row = λ h. subst (HavePlaces child) (sym g) (All-append (λ c. c.bit < length (all_bits child)) old (code_constants start bs) h (places-below (length (all_bits child)) start 0 bs (omega arith)));
    }

-- what may be connected
pub places-value : (vs child : List Variable) (n : List ℕ) (value : Option code_expression.Expression) (e : code_expression.Expression) (room : Option ℕ) (start : ℕ) (bs cs : List code_bit.Bit)
    (old new : List code.PortConstant) → value ≡ Some e → map (view_bit vs) bs ≡ bits vs (view_expression e) → room ≡ room_at child n (length bs) → room ≡ Some start
    → IfSome room (λ s. s + length bs ≤ length (all_bits child)) → cs ≡ bs → new ≡ old ++ code_constants start cs
    → Places vs child (cons_option (with_port n (option_map view_expression value)) []) old new
places-value vs child n value e room start bs cs old new v b r is le c g =
    let fits : start + length bs ≤ length (all_bits child) = subst (λ o. IfSome o (λ s. s + length bs ≤ length (all_bits child))) is le in
    subst (λ o. Places vs child (cons_option (with_port n (option_map view_expression o)) []) old new) (sym v)
    (places-one vs child n (view_expression e) start bs old new b (sym is ∙ r) fits (g ∙ ap (λ ys. old ++ code_constants start ys) c))

pub named-next : (vs child : List Variable) (x : code_connection.NamedConnection) (cs : List code_connection.NamedConnection) (i : ℕ) (old list new : List code.PortConstant) → i < length cs
    → x ≡ slice_index_or cs i x → Places vs child (named_values (take i cs)) old list → Places vs child (cons_option (with_port x.port.text.now (option_map view_expression x.value)) []) list new
    → Places vs child (named_values (take (i + 1) cs)) old new
named-next vs child x cs i old list new lt is a b =
    subst (λ es. Places vs child es old new) (named-more x cs i lt is)
    (places-then vs child (named_values (take i cs)) (cons_option (with_port x.port.text.now (option_map view_expression x.value)) []) old list new a b)

pub ordered-next : (vs child : List Variable) (ps : List code_name.Name) (es : List (Option code_expression.Expression)) (k : ℕ) (p : code_name.Name) (e : Option code_expression.Expression)
    (old list new : List code.PortConstant) → k < length ps → k < length es → p ≡ slice_index_or ps k p → e ≡ slice_index_or es k e
    → Places vs child (ordered_values k ps es) old list → Places vs child (cons_option (with_port p.text.now (option_map view_expression e)) []) list new
    → Places vs child (ordered_values (k + 1) ps es) old new
ordered-next vs child ps es k p e old list new lp le pe ee a b =
    subst (λ es. Places vs child es old new) (ordered-more ps es k p e lp le pe ee)
    (places-then vs child (ordered_values k ps es) (cons_option (with_port p.text.now (option_map view_expression e)) []) old list new a b)

pub constants-are_those : (vs child : List Variable) (m : Module) (at : Place) (x : Connections) (ports : List Named) (old new : List code.PortConstant) → old ≡ []
    → Places vs child (port_values x ports) old new
    → AreOf m child ports → AreConnected vs m at x → map (view_constant child) new ≡ constants_in vs x ports
constants-are_those vs child m at x ports old new e h o c =
    ap (map (view_constant child)) (h.added ∙ ap (λ ys. ys ++ flat_map (placed_constants vs child) (port_values x ports)) e) ∙ constants-are vs child m at x ports o c
