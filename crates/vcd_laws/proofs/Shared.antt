-- What circuits share that differ in delays and limits alone.
use Rattle.std.specs.Prelude.{◌≡◌, ℕ, pos, ◌<◌, ◌&&◌, nat_lt, true, false, All, IfSome, List, [], ◌∷◌, length, map, slice_index_or, refl}
use Rattle.std.specs.List.{AllByRecursion, list_all}
use Rattle.std.proofs.Common.{sym, ◌∙◌, ap, subst, inl, inr}
use Rattle.std.proofs.lemmas.List.{get_or-map, length-map}
use Rattle.std.proofs.lemmas.List.Elements.{All-weaker}
use Rattle.std.specs.Prelude.{Option, Some, None}
use Rattle.sg_circuit.specs.declared.nets.Driver.TheVariants.{Nobody}
use Rattle.sg_circuit.specs.declared.nets.Net.{Net}
use Rattle.sg_circuit.specs.Circuit.{Circuit, Element, Pass, Scope, Variable, element_at, net_at}
use Rattle.sg_circuit.specs.Closed.{IsClosed, IsNotifier}
use Rattle.sg_stimulus.specs.Applied.{IsInput}
use Rattle.late_limits.specs.Adjusted.{IsAdjustedFrom, late_element}
use Rattle.stim_read.specs.Inputs.{is_input, is_stimulated}
use Rattle.run_laws.specs.Inputs.{HasDrivers}
use Rattle.vcd_laws.specs.Alike.{AreAlike, plain_element}
use Rattle.vcd_laws.proofs.Join.{IsOrdered}
use Rattle.vcd_laws.proofs.Own.{HasInputs, IsCovered, tops}
use Rattle.vcd_laws.proofs.Readable.{HasNames, IsWritten}
use Rattle.vcd_laws.proofs.Rows.{is_word}

pub record Shares (a b : Circuit) : Type 0 where
  pub tick : a.tick ≡ b.tick
  pub nets : a.nets ≡ b.nets
  pub outputs : map (λ (e : Element). e.output) a.elements ≡ map (λ (e : Element). e.output) b.elements
  pub checks : a.checks ≡ b.checks
  pub scopes : a.scopes ≡ b.scopes

pub shares_then : (a b c : Circuit) → Shares a b → Shares b c → Shares a c
shares_then a b c h k = record { tick = h.tick ∙ k.tick; nets = h.nets ∙ k.nets; outputs = h.outputs ∙ k.outputs; checks = h.checks ∙ k.checks; scopes = h.scopes ∙ k.scopes }

-- circuits that are alike
outputs_plain : (es : List Element) → map (λ (e : Element). e.output) (map plain_element es) ≡ map (λ (e : Element). e.output) es
outputs_plain [] = refl
outputs_plain (e ∷ es) = ap (λ ns. e.output ∷ ns) (outputs_plain es)

pub alike_shares : (a b : Circuit) → AreAlike a b → Shares a b
alike_shares a b e = record {
  tick = ap (λ (c : Circuit). c.tick) e;
  nets = ap (λ (c : Circuit). c.nets) e;
  outputs = sym (outputs_plain a.elements) ∙ (ap (λ (c : Circuit). map (λ (x : Element). x.output) c.elements) e ∙ outputs_plain b.elements);
  checks = ap (λ (c : Circuit). c.checks) e;
  scopes = ap (λ (c : Circuit). c.scopes) e;
}

-- a circuit that is adjusted
outputs_late : (c : Circuit) (delays : ℕ → List ℕ) (es : List Element) → map (λ (e : Element). e.output) (map (late_element c delays) es) ≡ map (λ (e : Element). e.output) es
outputs_late c delays [] = refl
outputs_late c delays (e ∷ es) = ap (λ ns. e.output ∷ ns) (outputs_late c delays es)

pub adjusted_shares : (c made : Circuit) → IsAdjustedFrom c made → Shares made c
adjusted_shares c made h = record {
  tick = ap (λ (x : Circuit). x.tick) h.made_is;
  nets = ap (λ (x : Circuit). x.nets) h.made_is;
  outputs = ap (λ (x : Circuit). map (λ (e : Element). e.output) x.elements) h.made_is ∙ outputs_late c h.delays c.elements;
  checks = ap (λ (x : Circuit). x.checks) h.made_is;
  scopes = ap (λ (x : Circuit). x.scopes) h.made_is;
}

-- ---- drivers

pub closed_drivers : (c : Circuit) → IsClosed c → HasDrivers c
closed_drivers c h = record { named = h.named; notifiers = h.notifiers }

output_at : (c : Circuit) (e : ℕ) → e < length c.elements → slice_index_or (map (λ (x : Element). x.output) c.elements) e 0 ≡ (element_at c e).output
output_at c e l = get_or-map (λ (x : Element). x.output) c.elements e (record { scope = 0; inputs = []; output = 0; kind = Pass None }) 0 l

pub drivers_shared : (a b : Circuit) → Shares a b → HasDrivers b → HasDrivers a
drivers_shared a b h has = record {
  named = λ e l. ap (λ (ns : List Net). (slice_index_or ns (element_at a e).output (record { scope = 0; name = []; bit = None; driver = Nobody })).driver) h.nets ∙ (ap (λ n. (net_at b n).driver) (same e l) ∙ has.named e (within e l));
  notifiers = notifiers;
}
  where
    longs : length a.elements ≡ length b.elements
    longs = sym (length-map a.elements (λ (x : Element). x.output)) ∙ (ap length h.outputs ∙ length-map b.elements (λ (x : Element). x.output))

    within : (e : ℕ) → e < length a.elements → e < length b.elements
    within e l = subst (λ n. e < n) longs l

    same : (e : ℕ) → e < length a.elements → (element_at a e).output ≡ (element_at b e).output
    same e l = sym (output_at a e l) ∙ (ap (λ os. slice_index_or os e 0) h.outputs ∙ output_at b e (within e l))

    is_notifier : (n : ℕ) → IsNotifier b n → IsNotifier a n
    is_notifier n i = record {
      within = subst (λ k. n < k) (sym (ap length h.nets)) i.within;
      driven = ap (λ (ns : List Net). (slice_index_or ns n (record { scope = 0; name = []; bit = None; driver = Nobody })).driver) h.nets ∙ i.driven;
    }

    some_notifier : (o : Option ℕ) → IfSome o (λ n. IsNotifier b n) → IfSome o (λ n. IsNotifier a n)
    some_notifier None i = i
    some_notifier (Some n) i = is_notifier n i

    notifiers : All (λ k. IfSome k.notifier (λ n. IsNotifier a n)) a.checks
    notifiers =
        All-weaker (λ k. IfSome k.notifier (λ n. IsNotifier b n)) (λ k. IfSome k.notifier (λ n. IsNotifier a n)) (λ k i. some_notifier k.notifier i) a.checks
        (subst (All (λ k. IfSome k.notifier (λ n. IsNotifier b n))) (sym h.checks) has.notifiers)

-- ---- inputs

input_shared : (a b : Circuit) → Shares a b → (v : Variable) → is_input b v ≡ is_input a v
input_shared a b h v = ap (λ (ns : List Net). list_all (λ n. nat_lt n (length ns) && is_stimulated (slice_index_or ns n (record { scope = 0; name = []; bit = None; driver = Nobody })).driver) v.bits) (sym h.nets)

tops_shared : (a b : Circuit) → Shares a b → tops b ≡ tops a
tops_shared a b h = ap (λ (ss : List Scope). (slice_index_or ss 0 (record { parent = None; name = []; module_name = []; unit = pos 0; precision = pos 0; is_leaf = false; variables = [] })).variables) (sym h.scopes)

covered_shared : (a b : Circuit) → Shares a b → (net : ℕ) (vs : List Variable) → IsCovered b net vs → IsCovered a net vs
covered_shared a b h net [] i = absurd i
covered_shared a b h net (v ∷ vs) (inl i) = inl (sym (input_shared a b h v) ∙ i.0, i.1)
covered_shared a b h net (v ∷ vs) (inr i) = inr (covered_shared a b h net vs i)

pub inputs_shared : (a b : Circuit) → Shares a b → HasInputs b → HasInputs a
inputs_shared a b h has = record {
  apart = λ before after v e. has.apart before after v (tops_shared a b h ∙ e);
  covered = λ net i. subst (IsCovered a net) (tops_shared a b h) (covered_shared a b h net (tops b) (has.covered net (is_input_too net i)));
}
  where
    is_input_too : (net : ℕ) → IsInput a net → IsInput b net
    is_input_too net i = (
      subst (λ k. net < k) (ap length h.nets) i.0,
      ap (λ (ns : List Net). (slice_index_or ns net (record { scope = 0; name = []; bit = None; driver = Nobody })).driver) (sym h.nets) ∙ i.1,
    )

-- ---- names and scopes

pub names_shared : (a b : Circuit) → Shares a b → HasNames b → HasNames a
names_shared a b h has = record {
  tick = has.tick;
  tick_small = has.tick_small;
  tick_is = h.tick ∙ has.tick_is;
  scopes = subst (λ (ss : List Scope). AreNamed ss) (sym h.scopes) has.scopes;
}
  where
    AreNamed : List Scope → Type 0
    AreNamed ss =
        (s : ℕ) → s < length ss
        → (is_word (slice_index_or ss s (record { parent = None; name = []; module_name = []; unit = pos 0; precision = pos 0; is_leaf = false; variables = [] })).name ≡ true)
        × AllByRecursion IsWritten (slice_index_or ss s (record { parent = None; name = []; module_name = []; unit = pos 0; precision = pos 0; is_leaf = false; variables = [] })).variables

pub ordered_shared : (a b : Circuit) → Shares a b → IsOrdered b → IsOrdered a
ordered_shared a b h o = record { names = names_shared a b h o.names; inputs = inputs_shared a b h o.inputs; drivers = drivers_shared a b h o.drivers; turns = o.turns; scopes = ap length h.scopes ∙ o.scopes }
