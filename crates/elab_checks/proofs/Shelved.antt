-- What stands in a table of conditions stays as the table grows.
use Rattle.std.specs.Prelude.{◌≡◌, ℕ, ◌<◌, ◌≤◌, All, List, [], ◌∷◌, ◌++◌, Option, Some, None, IfSome, length, map, slice_get, refl}
use Rattle.std.specs.Option.{option_map}
use Rattle.std.proofs.Common.{sym, ◌∙◌, ap, arith, subst, length-append}
use Rattle.cond_expr.specs.Condition.{Condition}
use Rattle.elab_laws.specs.Handing.{all_bits}
use Rattle.elab_model.specs.Lates.{DelayedCopy}
use Rattle.elab_model.specs.Names.{Variable}
use Rattle.elab_ends.specs.Seen.{bit_seen}
use Rattle.specify_checks.specs.Copies.{both_at}
use Rattle.specify_checks.specs.Seen.{check_seen, enabling_seen, event_seen, limits_seen, IsFitting, IsSpelledCheck, IsSpelledEvent}
use Rattle.specify_checks.specs.declared.checks.ModuleCheck.{ModuleCheck}
use Rattle.specify_checks.specs.declared.events.ModuleEvent.{ModuleEvent}
use Rattle.elab_paths.specs.Shelving.{AreRead, ListGrows}
use Rattle.elab_paths.proofs.OnShelves.{grows-then, grown-front, grown-longer}
use Rattle.elab_paths.proofs.SideBySide.{Each, all-parted, each-all, each-same, each-then}
use Rattle.elab_checks.specs.Ready.{check_ready, event_ready, IsReadyCheck, IsReadyEvent}
use Rattle.elab_checks.specs.Shelving.{IsShelvedCheck, IsShelvedCondition, IsShelvedDatum, IsShelvedEvent}
use Rattle.elab_checks.specs.declared.shelving.ReadyCheck.{ReadyCheck}
use Rattle.elab_checks.specs.declared.shelving.ReadyEvent.{ReadyEvent}

-- ---- conditions

-- a condition that is put behind the others stands at their number
put-last : (old : List Condition) (e : Condition) (more : List Condition) → slice_get ((old ++ e ∷ []) ++ more) (length old) ≡ Some e
put-last [] e more = refl
put-last (x ∷ xs) e more = put-last xs e more

pub condition_put : (old new : List Condition) (e : Condition) (i : ℕ) → new ≡ old ++ e ∷ [] → i ≡ length old → IsShelvedCondition new (Some e) (Some i)
condition_put old new e i is at =
    subst (λ k. IsShelvedCondition new (Some e) (Some k)) (sym at)
    (subst (λ cs. IsShelvedCondition cs (Some e) (Some (length old))) (sym is)
    (record { seen = λ more vs. ap (option_map (enabling_seen vs)) (put-last old e more); below = (let l = length-append old (e ∷ []) in omega (arith, l)) }))

pub condition_none : (conditions : List Condition) → IsShelvedCondition conditions None None
condition_none conditions = record { seen = λ more vs. refl; below = tt }

below-stays : (m n : ℕ) (o : Option ℕ) → m ≤ n → IfSome o (λ i. i < m) → IfSome o (λ i. i < n)
below-stays m n None le h = tt
below-stays m n (Some i) le h = by le h
  where
    by : m ≤ n → i < m → i < n
    by le h = omega arith

-- ---- events

pub event_made : (conditions : List Condition) (e : ModuleEvent) (i : Option ℕ) → IsShelvedCondition conditions e.condition i
    → IsShelvedEvent conditions e (record { bit = e.bit; index = e.index; edge = e.edge; condition = i })
event_made conditions e i h = record {
  seen = λ more vs. ap (λ c. record { bit = bit_seen vs e.bit; index = e.index; edge = e.edge; condition = c }) (h.seen more vs);
  bit = refl;
  below = h.below;
}

event-stays : (old new : List Condition) → ListGrows old new → (e : ModuleEvent) (r : ReadyEvent) → IsShelvedEvent old e r → IsShelvedEvent new e r
event-stays old new grows e r h = record {
  seen = λ more vs. ap (λ cs. event_ready cs vs r) (grown-front old new more grows) ∙ h.seen (grows.0 ++ more) vs;
  bit = h.bit;
  below = below-stays (length old) (length new) r.condition (grown-longer old new grows) h.below;
}

event-named : (conditions : List Condition) (vs : List Variable) (e : ModuleEvent) (r : ReadyEvent) → IsShelvedEvent conditions e r → e.bit < length (all_bits vs) → IsReadyEvent vs (length conditions) r
event-named conditions vs e r h lt = record { in_row = subst (λ i. i < length (all_bits vs)) (sym h.bit) lt; written = h.below }

datum-seen : (conditions : List Condition) (o : Option ModuleEvent) (r : Option ReadyEvent) → IsShelvedDatum conditions o r → (more : List Condition) (vs : List Variable)
    → option_map (event_ready (conditions ++ more) vs) r ≡ option_map (event_seen vs) o
datum-seen conditions None None h more vs = refl
datum-seen conditions None (Some r) h more vs = absurd h
datum-seen conditions (Some e) None h more vs = absurd h
datum-seen conditions (Some e) (Some r) h more vs = ap (λ x. Some x) (h.seen more vs)

datum-named : (conditions : List Condition) (vs : List Variable) (o : Option ModuleEvent) (r : Option ReadyEvent) → IsShelvedDatum conditions o r → IfSome o (λ e. e.bit < length (all_bits vs))
    → IfSome r (IsReadyEvent vs (length conditions))
datum-named conditions vs None None h lt = tt
datum-named conditions vs None (Some r) h lt = absurd h
datum-named conditions vs (Some e) None h lt = absurd h
datum-named conditions vs (Some e) (Some r) h lt = event-named conditions vs e r h lt

-- ---- checks

-- the reference event's condition comes before the data event's
pub check_made : (mid new : List Condition) (c : ModuleCheck) (refer : ReadyEvent) (datum : Option ReadyEvent) → ListGrows mid new → IsShelvedEvent mid c.refer refer → IsShelvedDatum new c.datum datum
    → IsShelvedCheck new c
    (record { place = c.place; kind = c.kind; refer = refer; datum = datum; limits = c.limits; threshold = c.threshold; notifier = c.notifier; copies = c.copies })
check_made mid new c refer datum grows h k =
    let stays = event-stays mid new grows c.refer refer h in
    record {
      seen = λ more vs cs. λ i. record {
        place = c.place;
        kind = c.kind;
        refer = (stays.seen more vs) i;
        datum = (datum-seen new c.datum datum k more vs) i;
        limits = limits_seen c.limits;
        threshold = c.threshold;
        notifier = option_map (bit_seen vs) c.notifier;
        copies = option_map (both_at cs) c.copies;
      };
      named = λ vs copies fit. record {
        refer_stands = event-named new vs c.refer refer stays fit.refer_in_row;
        datum_stands = datum-named new vs c.datum datum k fit.datum_in_row;
        notifier_in_row = fit.notifier_in_row;
        copies_within = fit.copies_within;
      };
    }

-- the table grows twice, and each condition is what its tokens spell
pub grows_both : (old mid new : List Condition) → ListGrows old mid → ListGrows mid new → ListGrows old new
grows_both old mid new h k = grows-then old mid new h k

pub read_check : (old mid new : List Condition) (c : ModuleCheck) → (IsSpelledEvent c.refer → AreRead old → AreRead mid) → (IfSome c.datum IsSpelledEvent → AreRead mid → AreRead new)
    → IsSpelledCheck c → AreRead old → AreRead new
read_check old mid new c f g h begun = g h.datum (f h.refer begun)

datum-stays : (vs : List Variable) (m n : ℕ) (o : Option ReadyEvent) → m ≤ n → IfSome o (IsReadyEvent vs m) → IfSome o (IsReadyEvent vs n)
datum-stays vs m n None le h = tt
datum-stays vs m n (Some e) le h = record { in_row = h.in_row; written = below-stays m n e.condition le h.written }

pub ready-stays : (vs : List Variable) (m n copies : ℕ) (r : ReadyCheck) → m ≤ n → IsReadyCheck vs m copies r → IsReadyCheck vs n copies r
ready-stays vs m n copies r le h = record {
  refer_stands = record { in_row = h.refer_stands.in_row; written = below-stays m n r.refer.condition le h.refer_stands.written };
  datum_stands = datum-stays vs m n r.datum le h.datum_stands;
  notifier_in_row = h.notifier_in_row;
  copies_within = h.copies_within;
}

pub check-stays : (old new : List Condition) → ListGrows old new → (c : ModuleCheck) (r : ReadyCheck) → IsShelvedCheck old c r → IsShelvedCheck new c r
check-stays old new grows c r h = record {
  seen = λ more vs ds. ap (λ cs. check_ready cs vs ds r) (grown-front old new more grows) ∙ h.seen (grows.0 ++ more) vs ds;
  named = λ vs copies fit. ready-stays vs (length old) (length new) copies r (grown-longer old new grows) (h.named vs copies fit);
}

-- one check more
pub check-more : (start old new : List Condition) (cs : List ModuleCheck) (c : ModuleCheck) (list longer : List ReadyCheck) (r : ReadyCheck) → ListGrows start old → ListGrows old new → IsShelvedCheck new c r
    → longer ≡ list ++ r ∷ [] → Each (IsShelvedCheck old) cs list → ListGrows start new × Each (IsShelvedCheck new) (cs ++ c ∷ []) longer
check-more start old new cs c list longer r begun grows one long h = (
  grows-then start old new begun grows,
  subst (Each (IsShelvedCheck new) (cs ++ c ∷ [])) (sym long)
      (each-then (IsShelvedCheck old) (IsShelvedCheck new) cs list c r (λ a b k. check-stays old new grows a b k) one h),
)

pub read-more : (start old new : List Condition) (cs : List ModuleCheck) (c : ModuleCheck) → (IsSpelledCheck c → AreRead old → AreRead new) → (All IsSpelledCheck cs → AreRead start → AreRead old)
    → All IsSpelledCheck (cs ++ c ∷ []) → AreRead start → AreRead new
read-more start old new cs c one h all begun = let r = all-parted IsSpelledCheck cs c all in one r.1 (h r.0 begun)

pub checks-ready : (conditions : List Condition) (cs : List ModuleCheck) (list : List ReadyCheck) → Each (IsShelvedCheck conditions) cs list → (vs : List Variable) (ds : List DelayedCopy) (more : List Condition)
    → map (check_ready (conditions ++ more) vs ds) list ≡ map (check_seen vs ds) cs
checks-ready conditions cs list h vs ds more = each-same (IsShelvedCheck conditions) (check_ready (conditions ++ more) vs ds) (check_seen vs ds) cs list (λ c r k. k.seen more vs ds) h

pub checks-named : (conditions : List Condition) (cs : List ModuleCheck) (list : List ReadyCheck) → Each (IsShelvedCheck conditions) cs list → (vs : List Variable) (copies : ℕ) → All (IsFitting vs copies) cs
    → All (IsReadyCheck vs (length conditions) copies) list
checks-named conditions cs list h vs copies fits =
    each-all (IsShelvedCheck conditions) (IsFitting vs copies) (IsReadyCheck vs (length conditions) copies) cs list (λ c r k fit. k.named vs copies fit) h fits
