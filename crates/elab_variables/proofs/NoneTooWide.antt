-- Where no vector is too wide, no row is.
use Rattle.std.specs.Prelude.{◌≡◌, ℕ, ◌≤◌, List, [], ◌∷◌, ◌++◌, Bool, true, false, Option, Some, None, map, flat_map, find, nat_lt, refl, bytes_eq}
use Rattle.std.specs.Borrow.{Bor}
use Rattle.std.specs.List.{AllByRecursion}
use Rattle.std.specs.Option.{option_map}
use Rattle.std.proofs.Common.{sym, subst, arith}
use Rattle.std.proofs.lemmas.Bool.{ltb-false}
use Rattle.std.proofs.lemmas.List.{map-append}
use Rattle.sg_circuit.specs.Closed.{width_of}
use Rattle.vl_tree.specs.declared.modules.PortDeclaration.{PortDeclaration}
use Rattle.vl_tree.specs.Seen.{view_port_declaration}
use Rattle.vl_tree.specs.Tree.{Item, Module}
use Rattle.elab_laws.proofs.Lists.{all-in, all-map_back, all-append, found-is}
use Rattle.elab_laws.proofs.NoFaults.{front, back}
use Rattle.elab_model.specs.Faults.{fault_if}
use Rattle.elab_model.specs.Names.{bounds}
use Rattle.elab_model.specs.NameFaults.{RangeText, port_range, net_range, range_texts, too_wide, width_limit}
use Rattle.elab_model.specs.Ports as model
use Rattle.elab_model.specs.declared.kinds.ElabKind.TheVariants.{TooMany}
use Rattle.elab_declared.specs.declared.nets.NetDeclaration.{NetDeclaration}
use Rattle.elab_declared.specs.Words.{view_net}
use Rattle.elab_variables.specs.Rows.{blank, said_by, net_said, port_said, row_said, rows_said}

abbrev IsNarrow : RangeText → Type 0
IsNarrow s = width_of s.range ≤ 65536

all-front : {A : Type 0} (P : A → Type 0) (xs ys : List A) → AllByRecursion P (xs ++ ys) → AllByRecursion P xs × AllByRecursion P ys
all-front P [] ys a = (tt, a)
all-front P (x ∷ xs) ys a = let r = all-front P xs ys a.1 in ((a.0, r.0), r.1)

narrow : (ss : List RangeText) → flat_map (λ s. fault_if (nat_lt width_limit (width_of s.range)) TooMany s.name.place) ss ≡ [] → AllByRecursion IsNarrow ss
narrow [] h = tt
narrow (s ∷ ss) h =
    let own = fault_if (nat_lt width_limit (width_of s.range)) TooMany s.name.place in
    let others = flat_map (λ s. fault_if (nat_lt width_limit (width_of s.range)) TooMany s.name.place) ss in
    (by (nat_lt width_limit (width_of s.range)) refl (front own others h), narrow ss (back own others h))
  where
    by : (b : Bool) → nat_lt width_limit (width_of s.range) ≡ b → fault_if b TooMany s.name.place ≡ [] → width_of s.range ≤ 65536
    by true e h = cc
    by false e h = ltb-false width_limit (width_of s.range) e

module _ (P : RangeText → Type 0) where
  -- what is so of the texts of items is so of the declarations of both kinds
  of-items : (is : List Item) → AllByRecursion P (flat_map (λ i. map port_range (model.ports_of_item i) ++ map net_range (model.nets_of_item i)) is)
      → AllByRecursion P (map port_range (flat_map model.ports_of_item is)) × AllByRecursion P (map net_range (flat_map model.nets_of_item is))
  of-items [] a = (tt, tt)
  of-items (i ∷ is) a =
      let p = all-front P (map port_range (model.ports_of_item i) ++ map net_range (model.nets_of_item i))
      (flat_map (λ i. map port_range (model.ports_of_item i) ++ map net_range (model.nets_of_item i)) is) a in
      let q = all-front P (map port_range (model.ports_of_item i)) (map net_range (model.nets_of_item i)) p.0 in
      let r = of-items is p.1 in (
        subst (AllByRecursion P) (sym (map-append port_range (model.ports_of_item i) (flat_map model.ports_of_item is)))
            (all-append P (map port_range (model.ports_of_item i)) (map port_range (flat_map model.ports_of_item is)) q.0 r.0),
        subst (AllByRecursion P) (sym (map-append net_range (model.nets_of_item i) (flat_map model.nets_of_item is)))
            (all-append P (map net_range (model.nets_of_item i)) (map net_range (flat_map model.nets_of_item is)) q.1 r.1),
      )

  of-module : (m : Module) → AllByRecursion P (range_texts m) → AllByRecursion P (map port_range (model.port_declarations m)) × AllByRecursion P (map net_range (model.net_declarations m))
  of-module m a =
      let p = all-front P (map port_range (model.ports_of_head m.head)) (flat_map (λ i. map port_range (model.ports_of_item i) ++ map net_range (model.nets_of_item i)) m.items) a in
      let r = of-items m.items p.1 in (
        subst (AllByRecursion P) (sym (map-append port_range (model.ports_of_head m.head) (flat_map model.ports_of_item m.items)))
            (all-append P (map port_range (model.ports_of_head m.head)) (map port_range (flat_map model.ports_of_item m.items)) p.0 r.0),
        r.1,
      )

said-narrow : (ports : List PortDeclaration) (nets : List NetDeclaration) → AllByRecursion (λ d. width_of (option_map bounds d.range) ≤ 65536) ports
    → AllByRecursion (λ d. width_of (option_map bounds d.range) ≤ 65536) nets
    → (n : List ℕ) → width_of (row_said ports nets n).range ≤ 65536
said-narrow ports nets a b n = by (find (λ d. bytes_eq n d.name.text.now) ports) refl (find (λ d. bytes_eq n d.name.text.now) nets) refl
  where
    by : (p : Option PortDeclaration) → find (λ d. bytes_eq n d.name.text.now) ports ≡ p → (d : Option NetDeclaration) → find (λ d. bytes_eq n d.name.text.now) nets ≡ d
        → width_of (said_by port_said p (said_by net_said d blank)).range ≤ 65536
    by (Some p) e d f = all-in (λ d. width_of (option_map bounds d.range) ≤ 65536) p ports a (found-is (λ d. bytes_eq n d.name.text.now) ports p e).there
    by None e (Some d) f = all-in (λ d. width_of (option_map bounds d.range) ≤ 65536) d nets b (found-is (λ d. bytes_eq n d.name.text.now) nets d f).there
    by None e None f = omega arith

pub rows-narrow : (m : Module) (ports : List PortDeclaration) (nets : List NetDeclaration) (keys : List (Bor (List ℕ))) → too_wide m ≡ [] → map view_port_declaration ports ≡ model.port_declarations m
    → map view_net nets ≡ model.net_declarations m → AllByRecursion (λ r. width_of r.range ≤ 65536) (rows_said ports nets keys)
rows-narrow m ports nets keys none ps ds =
    let p = of-module IsNarrow m (narrow (range_texts m) none) in
    let a = all-map_back (λ d. IsNarrow (port_range d)) view_port_declaration ports (subst (AllByRecursion (λ d. IsNarrow (port_range d))) (sym ps)
    (all-map_back IsNarrow port_range (model.port_declarations m) p.0)) in
    let b = all-map_back (λ d. IsNarrow (net_range d)) view_net nets (subst (AllByRecursion (λ d. IsNarrow (net_range d))) (sym ds) (all-map_back IsNarrow net_range (model.net_declarations m) p.1)) in
    each (said-narrow ports nets a b) keys
  where
    each : ((n : List ℕ) → width_of (row_said ports nets n).range ≤ 65536) → (ks : List (Bor (List ℕ))) → AllByRecursion (λ r. width_of r.range ≤ 65536) (rows_said ports nets ks)
    each h [] = tt
    each h (k ∷ ks) = (h k.now, each h ks)
