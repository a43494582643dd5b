-- The delays of one module more stand in the table.
use Rattle.std.specs.Prelude.{◌≡◌, ◌⊎◌, ℕ, zero, suc, ◌+◌, ◌<◌, ◌≤◌, All, List, [], ◌∷◌, ◌++◌, Option, Some, Result, Ok, Err, IfOk, IfErr, OnOk, flat_map, length, option_map, slice_get, slice_index_or, refl, ℤ}
use Rattle.std.specs.Global.{Vec}
use Rattle.std.proofs.Common.{sym, ◌∙◌, ap, arith, inl, inr, subst, length-append}
use Rattle.std.proofs.lemmas.List.Elements.{All-nil}
use Rattle.std.proofs.lemmas.Option.{slice_get-get_or}
use Rattle.sg_delay.specs.declared.corners.Corner.{Corner}
use Rattle.sg_delay.specs.declared.gates.GateDelays.{GateDelays}
use Rattle.sg_text.specs.declared.refusals.Refused.{Refused}
use Rattle.sg_text.specs.declared.refusals.Refused.TheVariants as refused
use Rattle.vl_tree.specs.Tree.{Module, Source}
use Rattle.elab_model.specs.declared.kinds.ElabKind.{ElabKind}
use Rattle.elab_model.specs.Faults.{RefusesOneOf}
use Rattle.elab_model.specs.Members.{members}
use Rattle.elab_model.specs.ModuleFaults.{all_member_faults}
use Rattle.elab_modules.specs.declared.prepared.Prepared.{Prepared}
use Rattle.elab_modules.specs.declared.library.Ready as code_ready
use Rattle.elab_modules.specs.declared.library.Ready.TheVariants as ready
use Rattle.elab_modules.specs.Ready.{IsPrepared, HasDelays}
use Rattle.elab_modules.specs.Reaching.{IsModuleAt}
use Rattle.elab_modules.specs.Checking.{IsModule, IsChecked, AreChecked, RefusesOne, RefusesPart}
use Rattle.elab_modules.proofs.Among.{some-is}
use Rattle.elab_modules.proofs.Entries.{all-kept}
use Rattle.elab_modules.proofs.Stocking.{Parts}

-- ---- the table of delays grows at its end

delays-stay : (corner : Corner) (tick : ℤ) (m : Module) (table more : List GateDelays) (places : List ℕ) → HasDelays corner tick m table places → HasDelays corner tick m (table ++ more) places
delays-stay corner tick m table more places h = let k = all-kept table (table ++ more) places (more, refl) h.below in record { delays = k.0 ∙ h.delays; below = k.1 }

checked-stays : (source : Source) (corner : Corner) (tick : ℤ) (table after more : List GateDelays) (places : Option (List ℕ)) (p : Prepared) → after ≡ table ++ more
    → IsChecked source corner tick table places p → IsChecked source corner tick after places p
checked-stays source corner tick table after more places p e h = record {
  list = h.list;
  listed = h.listed;
  in_ticks = λ m prepared. subst (λ t. HasDelays corner tick m t h.list) (sym e) (delays-stay corner tick m table more h.list (h.in_ticks m prepared));
  faultless = h.faultless;
}

-- ---- the list of lists does

get-front : {A : Type 0} (xs ys : List A) (i : ℕ) → i < length xs → slice_get (xs ++ ys) i ≡ slice_get xs i
get-front [] ys i lt = absurd (omega arith)
get-front (x ∷ xs) ys zero lt = refl
get-front (x ∷ xs) ys (suc i) lt = get-front xs ys i (omega arith)

get-last : {A : Type 0} (xs : List A) (y : A) → slice_get (xs ++ y ∷ []) (length xs) ≡ Some y
get-last [] y = refl
get-last (x ∷ xs) y = get-last xs y

pub checked-first : (source : Source) (corner : Corner) (tick : ℤ) (parts : Parts) (table : List GateDelays) (delays : List (Vec ℕ)) → table ≡ [] → delays ≡ []
    → AreChecked source corner tick parts 0 table delays
checked-first source corner tick parts table delays e f = record {
  counted = ap length f;
  counts = subst (All (λ d. d.count ≤ 3)) (sym e) (All-nil (λ d. d.count ≤ 3));
  each = λ i p lt at. absurd (omega arith);
}

pub checked-next : (source : Source) (corner : Corner) (tick : ℤ) (d x : Option code_ready.Ready) (parts : Parts) (k : ℕ) (table after more : List GateDelays) (delays longer : List (Vec ℕ)) (list : Vec ℕ)
    → k < length parts → x ≡ slice_index_or parts k d → after ≡ table ++ more → All (λ d. d.count ≤ 3) after → longer ≡ delays ++ list ∷ []
    → ((p : Prepared) → IsModule x p → IsChecked source corner tick after (Some list.items) p) → AreChecked source corner tick parts k table delays
    → AreChecked source corner tick parts (k + 1) after longer
checked-next source corner tick d x parts k table after more delays longer list lt is grown counts long own h =
    let n : length delays ≡ k = h.counted in
    record {
      counted = ap length long ∙ length-append delays (list ∷ []) ∙ ap (λ j. j + 1) n;
      counts = counts;
      each = λ i p below at. elim (two-ways i k below) [
        | inl l ↦ (let same : slice_get longer i ≡ slice_get delays i = ap (λ ls. slice_get ls i) long ∙ get-front delays (list ∷ []) i (subst (λ j. i < j) (sym n) l) in
            subst (λ o. IsChecked source corner tick after (option_map (λ y. y.items) o) p) (sym same) (checked-stays source corner tick table after more _ p grown (h.each i p l at)))
        | inr e ↦ (let same : slice_get longer i ≡ Some list = ap (slice_get longer) (e ∙ sym n) ∙ ap (λ ls. slice_get ls (length delays)) long ∙ get-last delays list in
            let there : x ≡ Some (ready.Module p) =
            is ∙ some-is (slice_get parts k) (slice_index_or parts k d) (Some (ready.Module p)) (slice_get-get_or parts k d lt) (subst (λ j. IsModuleAt parts j p) e at) in
            subst (λ o. IsChecked source corner tick after (option_map (λ y. y.items) o) p) (sym same) (own p there))
      ];
    }
  where
    two-ways : (i k : ℕ) → i < k + 1 → (i < k) ⊎ (i ≡ k)
    two-ways i k l = grind arith

pub part-refused : (source : Source) (corner : Corner) (tick : ℤ) (d x : Option code_ready.Ready) (parts : Parts) (k : ℕ) (r : Refused ElabKind) → k < length parts → x ≡ slice_index_or parts k d
    → RefusesOne source corner tick x r → RefusesPart source corner tick parts r
part-refused source corner tick d x parts k refused.NoMemory lt is h = tt
part-refused source corner tick d x parts k (refused.Fault kind place) lt is h =
    record { at = k; part = x; there = slice_get-get_or parts k d lt ∙ ap Some (sym is); stands = h }

pub checked-all : (source : Source) (corner : Corner) (tick : ℤ) (parts : Parts) (k : ℕ) (table : List GateDelays) (delays : List (Vec ℕ)) → k ≡ length parts
    → AreChecked source corner tick parts k table delays → AreChecked source corner tick parts (length parts) table delays
checked-all source corner tick parts k table delays e h = subst (λ n. AreChecked source corner tick parts n table delays) e h

-- ---- what looking at one module tells

one-module : (part : Option code_ready.Ready) (p q : Prepared) → IsModule part p → IsModule part q → p ≡ q
one-module part p q e f = cc

pub one-checked : {E : Type 0} (source : Source) (corner : Corner) (tick : ℤ) (part : Option code_ready.Ready) (p : Prepared) (table : List GateDelays) (result : Result (Vec ℕ) E) → IsModule part p
    → IfOk result (λ list. (m : Module) → IsPrepared p m → HasDelays corner tick m table list.items)
    → OnOk result ((m : Module) → IsPrepared p m → flat_map (all_member_faults source corner tick m) (members m) ≡ [])
    → IfOk result (λ list. (q : Prepared) → IsModule part q → IsChecked source corner tick table (Some list.items) q)
one-checked source corner tick part p table (Err e) there d f = tt
one-checked source corner tick part p table (Ok list) there d f = λ q at.
    subst (IsChecked source corner tick table (Some list.items)) (one-module part p q there at) (record { list = list.items; listed = refl; in_ticks = d; faultless = f })

pub one-told : {A : Type 0} (source : Source) (corner : Corner) (tick : ℤ) (part : Option code_ready.Ready) (p : Prepared) (result : Result A (Refused ElabKind)) → IsModule part p
    → IfErr result (λ r. (m : Module) → IsPrepared p m → RefusesOneOf (flat_map (all_member_faults source corner tick m) (members m)) r)
    → IfErr result (RefusesOne source corner tick part)
one-told source corner tick part p (Ok x) there h = tt
one-told source corner tick part p (Err refused.NoMemory) there h = tt
one-told source corner tick part p (Err (refused.Fault k place)) there h = record { prepared = p; there = there; stands = h }
