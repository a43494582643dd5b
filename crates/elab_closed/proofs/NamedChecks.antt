-- The bits that a timing check without fault names are bits of variables, and its notifier is a reg.
use Rattle.std.specs.Prelude.{◌≡◌, ◌<◌, ℕ, List, [], Option, Some, None, IfSome, bytes_eq, map, not, true, refl}
use Rattle.std.specs.List.{AllByRecursion}
use Rattle.std.specs.Option.{option_map}
use Rattle.std.proofs.Common.{arith}
use Rattle.std.proofs.lemmas.Bool.{not-false}
use Rattle.std.proofs.lemmas.Slice.Eq.{bytes_eq-Decides}
use Rattle.sg_circuit.specs.Closed.{width_of}
use Rattle.sg_circuit.specs.declared.scopes.Range.{Range}
use Rattle.sg_text.specs.declared.places.Place.{Place}
use Rattle.vl_tree.specs.Tree.{Named, Word, Event, Check}
use Rattle.elab_model.specs.declared.kinds.ElabKind.TheVariants.{BadTerminal}
use Rattle.elab_model.specs.Bits.{variable_named}
use Rattle.elab_model.specs.Lates.{DelayedCopy, copies}
use Rattle.elab_model.specs.Members.{check, delayed_names}
use Rattle.elab_model.specs.Names.{Variable}
use Rattle.elab_model.specs.Terms.{NetBit}
use Rattle.specify_model.specs.CheckFaults.{event_condition_faults, event_faults, found_notifier_faults, notifier_faults, some_event_faults, words_faults}
use Rattle.specify_model.specs.Checks.{check_copies, data_of, enabled_by, event_of, module_check, notifier_of, reference_of, reg_bit}
use Rattle.specify_model.specs.Conditions.{tokens}
use Rattle.specify_model.specs.Faults.{operand_faults}
use Rattle.specify_model.specs.Values.{Measure, Values}
use Rattle.elab_laws.proofs.Copies.{copy_of}
use Rattle.elab_laws.proofs.ElementWidths.{no-fault}
use Rattle.elab_laws.proofs.EndBits.{HasNetBit}
use Rattle.elab_laws.proofs.Lists.{In, found-is}
use Rattle.elab_laws.proofs.NoFaults.{back, front}
use Rattle.elab_closed.specs.NamedNets.{EachInCheck, EachInEvent, EachOperand}
use Rattle.elab_closed.proofs.CheckCopies.{IsName, HasTerminals, copies-asked}
use Rattle.elab_closed.proofs.KnownBits.{operand-known}
use Rattle.elab_closed.proofs.Operands.{words-known}
use Rattle.elab_closed.proofs.SoundChecks.{AreNone}

pub known-as : (vs : List Variable) (n : List ℕ) (v : Variable) → variable_named vs n ≡ Some v → In v vs × (n ≡ v.name)
known-as vs n v e = let r = found-is (λ w. bytes_eq n w.name) vs v e in (r.there, (bytes_eq-Decides n v.name).0 r.passes)

pub reg-found : (n : Named) (o : Option Variable) → found_notifier_faults n o ≡ [] → (v : Variable) × (o ≡ Some v) × (v.is_reg ≡ true)
reg-found n None h = cc
reg-found n (Some v) h = (v, refl, not-false v.is_reg (no-fault (not v.is_reg) BadTerminal n.place h))

pub some-bit : (r : Option Range) → 0 < width_of r
some-bit None = omega arith
some-bit (Some r) = omega arith

pub terminals-of : {signals : ℕ} {by : Measure} {vs : List Variable} {values : Values} {c : Check} → AreNone signals by vs values c → AllByRecursion (IsName vs) (delayed_names c) → HasTerminals vs c
terminals-of h names = record { refer = h.refer; datum = h.datum; named = names }

pub if-weaker : {A : Type 0} (P Q : A → Type 0) (o : Option A) → ((x : A) → P x → Q x) → IfSome o P → IfSome o Q
if-weaker P Q None f h = tt
if-weaker P Q (Some x) f h = f x h

module _ (vs : List Variable) (P : NetBit → Type 0) (known : (b : NetBit) → HasNetBit vs b → P b) where
  enabling-known : (p : Place) (o : Option (List Word)) → words_faults vs p o ≡ [] → IfSome (option_map (λ ws. enabled_by vs (tokens ws)) o) (λ c. EachOperand P c.1)
  enabling-known p None h = tt
  enabling-known p (Some ws) h = words-known vs P known p ws h

  event-known : (e : Event) → event_faults vs e ≡ [] → EachInEvent P (event_of vs e)
  event-known e h = record {
    bit = known _ (operand-known vs e.term (front (operand_faults vs e.term) (event_condition_faults vs e) h));
    condition = enabling-known e.place e.condition (back (operand_faults vs e.term) (event_condition_faults vs e) h);
  }

  datum-known : (o : Option Event) → some_event_faults vs o ≡ [] → IfSome (option_map (event_of vs) o) (EachInEvent P)
  datum-known None h = tt
  datum-known (Some e) h = event-known e h

  notifier-known : (o : Option Named) → notifier_faults vs o ≡ [] → IfSome (option_map reg_bit o) P
  notifier-known None h = tt
  notifier-known (Some n) h =
      let r = reg-found n (variable_named vs n.text) h in
      known (reg_bit n) (record { variable = r.0; found = r.1; below = some-bit r.0.range })

  pub check-known : (C : DelayedCopy → Type 0) (signals : ℕ) (by : Measure) (values : Values) (c : Check) → AreNone signals by vs values c → AllByRecursion (IsName vs) (delayed_names c)
      → ((d : DelayedCopy) → In d (map copy_of (copies vs (check c))) → C d) → EachInCheck P C (module_check by vs values c)
  check-known C signals by values c h names asked = record {
    refer = event-known (reference_of c) h.refer;
    datum = datum-known (data_of c) h.datum;
    notifier = notifier-known (notifier_of c) h.notifier;
    copies = if-weaker (λ ds. In ds.0 own × In ds.1 own) (λ ds. C ds.0 × C ds.1) (check_copies vs c) (λ ds k. (asked ds.0 k.0, asked ds.1 k.1)) (copies-asked vs c (terminals-of h names));
  }
    where
      own : List DelayedCopy
      own = map copy_of (copies vs (check c))
