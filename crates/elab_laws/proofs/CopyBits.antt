-- What a delayed copy copies, and what the text names for it, are bits of variables of their module.
use Rattle.std.specs.Prelude.{List, [], ◌∷◌, Option, Some, None, filter_map, map, IfSome}
use Rattle.std.specs.List.{AllByRecursion}
use Rattle.sg_text.specs.declared.places.Place.{Place}
use Rattle.vl_tree.specs.Tree.{Named, signal, Event, one_limit_check, two_limit_check, width_check, period_check, Module}
use Rattle.elab_model.specs.Bits.{bits}
use Rattle.elab_model.specs.Lates.{DelayedCopy, one_bit, signal_bits, name_bits, copies_of, copies, module_copies}
use Rattle.elab_model.specs.Members.{Member, assignment, supply, gate, instance, path, check, members}
use Rattle.elab_model.specs.Names.{Variable, variables}
use Rattle.elab_model.specs.Terms.{NetBit, net_bit, term_bits}
use Rattle.elab_laws.proofs.Copies.{all_copies, in-all_copies}
use Rattle.elab_laws.proofs.EndBits.{HasNetBit, net-bits, term-below}
use Rattle.elab_laws.proofs.Lists.{all-in, all-append, all-from, all-flat, all-flat_in, all-map, all-weaker}
use Rattle.elab_laws.proofs.Places.{bits-below}

-- variables have the bits of a copy
pub record IsCopyOf (vs : List Variable) (c : DelayedCopy) : Type 0 where
  pub signal : HasNetBit vs c.signal
  pub named : IfSome c.named (HasNetBit vs)

abbrev IsCopyAt : List Variable → Place × DelayedCopy → Type 0
IsCopyAt vs c = IsCopyOf vs c.1

pub all-one_bit : (P : NetBit → Type 0) (bs : List NetBit) → AllByRecursion P bs → AllByRecursion P (one_bit bs)
all-one_bit P [] h = tt
all-one_bit P (b ∷ []) h = h
all-one_bit P (b ∷ c ∷ bs) h = tt

pub signals-below : (vs : List Variable) (e : Event) → AllByRecursion (HasNetBit vs) (signal_bits vs e)
signals-below vs e = all-one_bit (HasNetBit vs) (term_bits vs e.term) (term-below vs e.term)

pub names-below : (vs : List Variable) (n : Named) → AllByRecursion (HasNetBit vs) (name_bits vs n)
names-below vs n = all-one_bit (HasNetBit vs) (filter_map net_bit (bits vs (signal n None))) (net-bits vs (bits vs (signal n None)) (bits-below vs (signal n None)))

event-copies : (vs : List Variable) (p : Place) (e : Event) (n : Option Named) → AllByRecursion (IsCopyAt vs) (copies_of vs p e n)
event-copies vs p e None =
    all-map (IsCopyAt vs) (λ b. (p, record { signal = b; named = None })) (signal_bits vs e)
    (all-weaker (HasNetBit vs) (λ b. IsCopyOf vs (record { signal = b; named = None })) (signal_bits vs e) (λ b h. record { signal = h; named = tt }) (signals-below vs e))
event-copies vs p e (Some n) =
    all-flat_in (IsCopyAt vs) (λ b. map (λ d. (n.place, record { signal = b; named = Some d })) (name_bits vs n)) (signal_bits vs e)
    (all-weaker (HasNetBit vs) (λ b. AllByRecursion (IsCopyAt vs) (map (λ d. (n.place, record { signal = b; named = Some d })) (name_bits vs n))) (signal_bits vs e)
    (λ b h. all-map (IsCopyAt vs) (λ d. (n.place, record { signal = b; named = Some d })) (name_bits vs n)
    (all-weaker (HasNetBit vs) (λ d. IsCopyOf vs (record { signal = b; named = Some d })) (name_bits vs n) (λ d k. record { signal = h; named = k }) (names-below vs n))) (signals-below vs e))

member-copies : (vs : List Variable) (x : Member) → AllByRecursion (IsCopyAt vs) (copies vs x)
member-copies vs (assignment j) = tt
member-copies vs (supply n v) = tt
member-copies vs (gate g d i) = tt
member-copies vs (instance n d i) = tt
member-copies vs (path p) = tt
member-copies vs (check (one_limit_check p k r d l n)) = tt
member-copies vs (check (two_limit_check p k r d l m n f g)) = all-append (IsCopyAt vs) (copies_of vs p r f) (copies_of vs p d g) (event-copies vs p r f) (event-copies vs p d g)
member-copies vs (check (width_check p r l t n)) = tt
member-copies vs (check (period_check p r l n)) = tt

pub copies-below : (m : Module) → AllByRecursion (IsCopyAt (variables m)) (module_copies m)
copies-below m =
    all-from (IsCopyAt (variables m)) (module_copies m)
    (λ c h. all-in (IsCopyAt (variables m)) c (all_copies m) (all-flat (IsCopyAt (variables m)) (copies (variables m)) (members m) (member-copies (variables m))) (in-all_copies m c h))
