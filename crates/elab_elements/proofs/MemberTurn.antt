-- The elements that are added for a member are those of the definition.
use Rattle.std.specs.Prelude.{◌≡◌, ℕ, ◌+◌, List, Option, None, flat_map, length, map, refl}
use Rattle.std.proofs.Common.{sym, ◌∙◌, ap, subst}
use Rattle.std.proofs.lemmas.List.{append-nil}
use Rattle.sg_circuit.specs.Circuit.{Gate}
use Rattle.sg_circuit.specs.Seen.{delays_at}
use Rattle.sg_delay.specs.declared.corners.Corner.{Corner}
use Rattle.sg_logic.specs.declared.gates.GateKind.{GateKind}
use Rattle.sg_logic.specs.declared.values.Value.{Value}
use Rattle.sg_text.specs.declared.places.Place.{Place}
use Rattle.vl_tree.specs.Tree.{Named, Delay, Expression, signal, GateInstance, Join, SpecifyPath, Check, Module, Source}
use Rattle.elab_model.specs.Bits.{bits, constant, leaf_bits}
use Rattle.elab_model.specs.Delays.{tick_of}
use Rattle.elab_model.specs.Elements.{member_elements, output_count, late_at, pass_to, passes, path_at, terminal_elements}
use Rattle.elab_model.specs.Ends.{first_ends}
use Rattle.elab_model.specs.Hierarchy.{Instance, instances}
use Rattle.elab_model.specs.Lates.{own_copies}
use Rattle.elab_model.specs.Leaves.{whole}
use Rattle.elab_model.specs.Members.{Member, assignment, supply, gate, path, check}
use Rattle.elab_model.specs.Names.{Variable, variables}
use Rattle.elab_model.specs.Nets.{nets}
use Rattle.elab_hierarchy.specs.declared.instances.Placed.{Placed}
use Rattle.elab_nets.specs.Library.{Library}
use Rattle.elab_nets.specs.Prepared.{Prepared}
use Rattle.elab_nets.specs.ReadyOfModules.{IsPrepared}
use Rattle.elab_nets.specs.declared.rows.Rows.{Rows}
use Rattle.elab_elements.specs.Adding.{HasDriven, HasTerminals, IsHere}
use Rattle.elab_elements.specs.Next.{IsNext}
use Rattle.elab_elements.specs.Standing.{HasCopies, HasPaths, IsMember}
use Rattle.elab_elements.specs.Terminals.{outputs_of, inputs_of}
use Rattle.elab_elements.proofs.MemberLaws.{member-sound, gate-terminals}
use Rattle.elab_elements.proofs.NextChild.{passes-by}
use Rattle.elab_elements.proofs.ReadHere.{row-is}
use Rattle.elab_elements.proofs.StandingAt.{at-place}

module _ (source : Source) (top : Module) (corner : Corner) (ps : List Placed) (library : Library) (rows : Rows) (number : ℕ) (vs : List Variable) (row inside : List ℕ) (delays first next k : ℕ)
    (s : Instance) where
  pub assignment-elements : (j : Join) → IsMember source top corner ps library rows number vs row inside delays first next k (assignment j) s
      → passes source s j.place (bits vs j.left) (bits vs j.right) ≡ member_elements source corner (tick_of source top) s (k, assignment j)
  assignment-elements j h = ap (λ ws. passes source s j.place (bits ws j.left) (bits ws j.right)) h.here.numbers.table

  pub assignment-next : (j : Join) → IsMember source top corner ps library rows number vs row inside delays first next k (assignment j) s → IsNext source s (k + 1) next
  assignment-next j h = passes-by source s k next (assignment j) h.member refl h.is_next

  pub declared-elements : (n : Named) (e : Expression) → IsMember source top corner ps library rows number vs row inside delays first next k
      (assignment (record { place = n.place; left = signal n None; right = e })) s
      → passes source s n.place (leaf_bits vs (whole n)) (bits vs e) ≡ member_elements source corner (tick_of source top) s (k, assignment (record { place = n.place; left = signal n None; right = e }))
  declared-elements n e h =
      ap (λ ws. passes source s n.place (leaf_bits ws (whole n)) (bits ws e)) h.here.numbers.table
      ∙ ap (λ ls. passes source s n.place ls (bits (variables s.step.definition) e)) (sym (append-nil (leaf_bits (variables s.step.definition) (whole n))))

  pub supply-elements : (n : Named) (v : Value) → IsMember source top corner ps library rows number vs row inside delays first next k (supply n v) s
      → flat_map (λ b. pass_to source s n.place (b, constant n.place v)) (leaf_bits vs (whole n)) ≡ member_elements source corner (tick_of source top) s (k, supply n v)
  supply-elements n v h = ap (λ ws. flat_map (λ b. pass_to source s n.place (b, constant n.place v)) (leaf_bits ws (whole n))) h.here.numbers.table

  pub supply-next : (n : Named) (v : Value) → IsMember source top corner ps library rows number vs row inside delays first next k (supply n v) s → IsNext source s (k + 1) next
  supply-next n v h = passes-by source s k next (supply n v) h.member refl h.is_next

  pub gate-fits : (g : GateKind) (d : Option Delay) (i : GateInstance) → IsMember source top corner ps library rows number vs row inside delays first next k (gate g d i) s
      → HasTerminals (nets source top) s k first (outputs_of vs (output_count g (length i.terminals)) i.terminals) (inputs_of vs (output_count g (length i.terminals)) i.terminals)
  gate-fits g d i h =
      let n = output_count g (length i.terminals) in
      subst (λ ws. HasTerminals (nets source top) s k first (outputs_of ws n i.terminals) (inputs_of ws n i.terminals)) (sym h.here.numbers.table)
      (gate-terminals source top corner s k first g d i (member-sound source top corner s k (gate g d i) h.at.read.is_ready.sound (at-place (instances source top) number s h.at.there) h.member) h.numbered)

  pub gate-elements : (g : GateKind) (d : Option Delay) (i : GateInstance) → IsMember source top corner ps library rows number vs row inside delays first next k (gate g d i) s
      → terminal_elements source s i.place k (Gate g (delays_at library.gate_delays.items delays)) (outputs_of vs (output_count g (length i.terminals)) i.terminals)
      (inputs_of vs (output_count g (length i.terminals)) i.terminals) ≡ member_elements source corner (tick_of source top) s (k, gate g d i)
  gate-elements g d i h =
      let n = output_count g (length i.terminals) in
      λ j. terminal_elements source s i.place k (Gate g (h.ticks j)) (outputs_of (h.here.numbers.table j) n i.terminals) (inputs_of (h.here.numbers.table j) n i.terminals)

  pub gate-next : (g : GateKind) (d : Option Delay) (i : GateInstance) → IsMember source top corner ps library rows number vs row inside delays first next k (gate g d i) s → IsNext source s (k + 1) next
  gate-next g d i h = passes-by source s k next (gate g d i) h.member refl h.is_next

  -- ---- of a member that is one of these

  pub as-member : (x y : Member) → x ≡ y → IsMember source top corner ps library rows number vs row inside delays first next k x s
      → IsMember source top corner ps library rows number vs row inside delays first next k y s
  as-member x y e h = subst (λ z. IsMember source top corner ps library rows number vs row inside delays first next k z s) e h

  pub assignment-same : (x : Member) (j : Join) → x ≡ assignment j → IsMember source top corner ps library rows number vs row inside delays first next k x s
      → passes source s j.place (bits vs j.left) (bits vs j.right) ≡ member_elements source corner (tick_of source top) s (k, x)
  assignment-same x j e h = assignment-elements j (as-member x (assignment j) e h) ∙ ap (λ y. member_elements source corner (tick_of source top) s (k, y)) (sym e)

  pub assignment-after : (x : Member) (j : Join) → x ≡ assignment j → IsMember source top corner ps library rows number vs row inside delays first next k x s → IsNext source s (k + 1) next
  assignment-after x j e h = assignment-next j (as-member x (assignment j) e h)

  pub declared-same : (x : Member) (n : Named) (v : Expression) → x ≡ assignment (record { place = n.place; left = signal n None; right = v })
      → IsMember source top corner ps library rows number vs row inside delays first next k x s
      → passes source s n.place (leaf_bits vs (whole n)) (bits vs v) ≡ member_elements source corner (tick_of source top) s (k, x)
  declared-same x n v e h = declared-elements n v (as-member x _ e h) ∙ ap (λ y. member_elements source corner (tick_of source top) s (k, y)) (sym e)

  pub supply-same : (x : Member) (n : Named) (v : Value) → x ≡ supply n v → IsMember source top corner ps library rows number vs row inside delays first next k x s
      → flat_map (λ b. pass_to source s n.place (b, constant n.place v)) (leaf_bits vs (whole n)) ≡ member_elements source corner (tick_of source top) s (k, x)
  supply-same x n v e h = supply-elements n v (as-member x (supply n v) e h) ∙ ap (λ y. member_elements source corner (tick_of source top) s (k, y)) (sym e)

  pub supply-after : (x : Member) (n : Named) (v : Value) → x ≡ supply n v → IsMember source top corner ps library rows number vs row inside delays first next k x s → IsNext source s (k + 1) next
  supply-after x n v e h = supply-next n v (as-member x (supply n v) e h)

  -- by the list of terminals that the code has
  pub gate-fit : (x : Member) (g : GateKind) (d : Option Delay) (i : GateInstance) (es : List Expression) → es ≡ i.terminals → x ≡ gate g d i
      → IsMember source top corner ps library rows number vs row inside delays first next k x s
      → HasTerminals (nets source top) s k first (outputs_of vs (output_count g (length es)) es) (inputs_of vs (output_count g (length es)) es)
  gate-fit x g d i es same e h =
      subst (λ es. HasTerminals (nets source top) s k first (outputs_of vs (output_count g (length es)) es) (inputs_of vs (output_count g (length es)) es)) (sym same)
      (gate-fits g d i (as-member x (gate g d i) e h))

  pub gate-listed : (x : Member) (g : GateKind) (d : Option Delay) (i : GateInstance) (es : List Expression) → es ≡ i.terminals → x ≡ gate g d i
      → IsMember source top corner ps library rows number vs row inside delays first next k x s
      → terminal_elements source s i.place k (Gate g (delays_at library.gate_delays.items delays)) (outputs_of vs (output_count g (length es)) es) (inputs_of vs (output_count g (length es)) es)
      ≡ member_elements source corner (tick_of source top) s (k, x)
  gate-listed x g d i es same e h =
      ap (λ es. terminal_elements source s i.place k (Gate g (delays_at library.gate_delays.items delays)) (outputs_of vs (output_count g (length es)) es) (inputs_of vs (output_count g (length es)) es)) same
      ∙ gate-elements g d i (as-member x (gate g d i) e h) ∙ ap (λ y. member_elements source corner (tick_of source top) s (k, y)) (sym e)

  pub gate-after : (x : Member) (g : GateKind) (d : Option Delay) (i : GateInstance) → x ≡ gate g d i → IsMember source top corner ps library rows number vs row inside delays first next k x s
      → IsNext source s (k + 1) next
  gate-after x g d i e h = gate-next g d i (as-member x (gate g d i) e h)

  pub path-same : (x : Member) (p : SpecifyPath) (place : Place) → x ≡ path p → p.place ≡ place
      → map (path_at source s place) (first_ends s.step.definition (k, x)) ≡ member_elements source corner (tick_of source top) s (k, x)
  path-same x p place e at =
      ap (λ y. map (path_at source s place) (first_ends s.step.definition (k, y))) e ∙ ap (λ q. map (path_at source s q) (first_ends s.step.definition (k, path p))) (sym at)
      ∙ ap (λ y. member_elements source corner (tick_of source top) s (k, y)) (sym e)

  pub path-after : (x : Member) (p : SpecifyPath) → x ≡ path p → IsMember source top corner ps library rows number vs row inside delays first next k x s → IsNext source s (k + 1) next
  path-after x p e h = let own = as-member x (path p) e h in passes-by source s k next (path p) own.member refl own.is_next

  pub has-paths : (prepared : Prepared) (x : Member) → IsPrepared prepared s.step.definition → vs ≡ prepared.table → IsMember source top corner ps library rows number vs row inside delays first next k x s
      → HasPaths source top rows number prepared row k x s
  has-paths prepared x ready same h =
      let r = row-is source top corner ps library rows number s h.at in
      record { before = r.0; place = r.1; has_row = r.2; here = subst (λ ws. IsHere (nets source top) source s number ws row) same h.here; is_prepared = ready; member = h.member }

  pub check-same : (x : Member) (c : Check) → x ≡ check c → map (late_at source s) (own_copies s.step.definition (k, x)) ≡ member_elements source corner (tick_of source top) s (k, x)
  check-same x c e = ap (λ y. map (late_at source s) (own_copies s.step.definition (k, y))) e ∙ ap (λ y. member_elements source corner (tick_of source top) s (k, y)) (sym e)

  pub check-after : (x : Member) (c : Check) → x ≡ check c → IsMember source top corner ps library rows number vs row inside delays first next k x s → IsNext source s (k + 1) next
  check-after x c e h = let own = as-member x (check c) e h in passes-by source s k next (check c) own.member refl own.is_next

  pub has-copies : (prepared : Prepared) (x : Member) (c : Check) → x ≡ check c → IsPrepared prepared s.step.definition
      → IsMember source top corner ps library rows number vs row inside delays first next k x s → HasCopies source top number prepared row inside first k x s
  has-copies prepared x c e ready h =
      let own = as-member x (check c) e h in
      subst (λ y. HasCopies source top number prepared row inside first k y s) (sym e)
      (record {
        here = subst (λ ws. IsHere (nets source top) source s number ws row) h.here.numbers.table h.here;
        drives = subst (λ ws. HasDriven (nets source top) source s ws inside) h.here.numbers.table h.drives;
        is_prepared = ready;
        member = own.member;
        numbered = own.numbered;
      })
