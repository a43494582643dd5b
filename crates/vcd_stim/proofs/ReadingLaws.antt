-- A step of the reading of items, and why it stops.
use Rattle.std.specs.Prelude.{ℕ, ◌≡◌, ◌<◌, List, [], ◌∷◌, ◌++◌, length, Option, Some, None, Result, Ok, Err, MatchResult, refl}
use Rattle.std.proofs.Common.{sym, ◌∙◌, ap, subst}
use Rattle.std.specs.Global.{Vec}
use Rattle.sg_circuit.specs.Circuit.{Circuit}
use Rattle.sg_text.specs.declared.refusals.Refused.{Refused}
use Rattle.sg_text.specs.declared.refusals.Refused.TheVariants as refused
use Rattle.vcd_form.specs.Rules.{item}
use Rattle.vcd_form.specs.Words.{words}
use Rattle.vcd_form.specs.Seen.{item_seen}
use Rattle.vcd_form.specs.declared.written.Item as code_item
use Rattle.vcd_form.specs.declared.written.Section as code_section
use Rattle.vcd_form.specs.Written.{Item}
use Rattle.vcd_model.specs.declared.kinds.VcdKind.{VcdKind}
use Rattle.vcd_model.specs.Faults.{item_faults, Header}
use Rattle.vcd_model.specs.Reading.{RefusalStands}
use Rattle.vcd_model.specs.Values.{given, given_by, Given}
use Rattle.vcd_stim.specs.Meant.{RefusesOneOf}
use Rattle.vcd_stim.specs.Steps.{time_behind, Each, HasSteps}
use Rattle.vcd_stim.specs.Whole.{items_faults, stops_fault, stops_form, time_behind_all, IsReached, NextRead, SectionsRead, StopsBy}
use Rattle.vcd_stim.specs.declared.steps.Steps.{Steps}
use Rattle.vcd_stim.proofs.FaultLaws.{header-stands}
use Rattle.vcd_stim.proofs.ItemLaws.{faults-more, few-nets, reached-more, spelled-more}
use Rattle.vcd_stim.proofs.Refusals.{refused-right}

-- what the reader makes of an item
abbrev pub Adds : Header → Item → Steps → Steps → Result (Unit {0}) (Refused VcdKind) → Type 0
Adds h i old new result = (gs : List Given) (now : ℕ) → HasSteps h.scale (length h.circuit.nets) gs now old → Each (λ g. g.net < length h.circuit.nets) gs
    → MatchResult result (λ u. HasSteps h.scale (length h.circuit.nets) (gs ++ given_by h.circuit h.own (now, i)) (time_behind now i) new × (item_faults h (now, i) ≡ [])) (RefusesOneOf (item_faults h (now, i)))

pub memory-stops : (h : Header) (text : List ℕ) (n : ℕ) → StopsBy h text n refused.NoMemory
memory-stops h text n = stops_fault [] n refl tt

pub form-stops : (h : Header) (text : List ℕ) (n m new : ℕ) (s : Steps) (next : Result (Option code_item.Item) (Refused VcdKind)) (r : Refused VcdKind) → IsReached h text n m s → next ≡ Err r → NextRead text m new next → StopsBy h text n r
form-stops h text n m new s next r reached e k = by (subst (NextRead text m new) e k)
  where
    by : NextRead text m new (Err r) → StopsBy h text n r
    by (lt, f, q, told_is) = stops_form reached.items m f reached.spelled lt q told_is

pub adds-goes : (h : Header) (text : List ℕ) (n m k : ℕ) (i : Item) (old new : Steps) (result : Result (Unit {0}) (Refused VcdKind)) (u : Unit {0}) → IsReached h text n m old → item.read (words text) m ≡ Ok (i, k) → result ≡ Ok u → Adds h i old new result → IsReached h text n k new
adds-goes h text n m k i old new result u reached e o adds =
    let Found : Type 0 = HasSteps h.scale (length h.circuit.nets) (given h.circuit h.own reached.items ++ given_by h.circuit h.own (time_behind_all 0 reached.items, i)) (time_behind (time_behind_all 0 reached.items) i) new × (item_faults h (time_behind_all 0 reached.items, i) ≡ []) in
    let both : Found = subst (λ x. MatchResult x (λ u. Found) (RefusesOneOf (item_faults h (time_behind_all 0 reached.items, i)))) o (adds (given h.circuit h.own reached.items) (time_behind_all 0 reached.items) reached.steps_are (few-nets h reached.items)) in
    reached-more h text n m k reached.items i new reached.spelled reached.faultless e both.0 both.1

pub adds-stops : (h : Header) (text : List ℕ) (n m k : ℕ) (i : Item) (old new : Steps) (result : Result (Unit {0}) (Refused VcdKind)) (r : Refused VcdKind) → IsReached h text n m old → item.read (words text) m ≡ Ok (i, k) → result ≡ Err r → Adds h i old new result → StopsBy h text n r
adds-stops h text n m k i old new result r reached e o adds =
    let Found : Type 0 = HasSteps h.scale (length h.circuit.nets) (given h.circuit h.own reached.items ++ given_by h.circuit h.own (time_behind_all 0 reached.items, i)) (time_behind (time_behind_all 0 reached.items) i) new × (item_faults h (time_behind_all 0 reached.items, i) ≡ []) in
    let refuses : RefusesOneOf (item_faults h (time_behind_all 0 reached.items, i)) r = subst (λ x. MatchResult x (λ u. Found) (RefusesOneOf (item_faults h (time_behind_all 0 reached.items, i)))) o (adds (given h.circuit h.own reached.items) (time_behind_all 0 reached.items) reached.steps_are (few-nets h reached.items)) in
    stops_fault (reached.items ++ i ∷ []) k (spelled-more text n m k reached.items i reached.spelled e)
    (subst (λ l. RefusesOneOf l r) (sym (faults-more h reached.items i)) (refused-right (items_faults h reached.items) (item_faults h (time_behind_all 0 reached.items, i)) r refuses))

-- the reading of the header stops
pub sections-stand : (text : List ℕ) (circuit : Circuit) (scope : List ℕ) (new : ℕ) (result : Result (Vec code_section.Section × ℕ) (Refused VcdKind)) (r : Refused VcdKind) → result ≡ Err r → SectionsRead text new result → RefusalStands text circuit scope r
sections-stand text circuit scope new result r e k = by r (subst (SectionsRead text new) e k)
  where
    by : (r : Refused VcdKind) → SectionsRead text new (Err r) → RefusalStands text circuit scope r
    by refused.NoMemory s = tt
    by (refused.Fault kind place) (n, f, q) = subst (RefusalStands text circuit scope) (sym q) (header-stands text circuit scope n f)

pub next-is : (text : List ℕ) (m new : ℕ) (next : Result (Option code_item.Item) (Refused VcdKind)) (found : Option code_item.Item) (i : code_item.Item) → next ≡ Ok found → found ≡ Some i → NextRead text m new next → item.read (words text) m ≡ Ok (item_seen i, new)
next-is text m new next found i e f k = subst (NextRead text m new) (e ∙ ap (λ x. Ok x) f) k

pub next-ends : (text : List ℕ) (m new : ℕ) (next : Result (Option code_item.Item) (Refused VcdKind)) (found : Option code_item.Item) → next ≡ Ok found → found ≡ None → NextRead text m new next → m ≡ length (words text)
next-ends text m new next found e f k = (subst (NextRead text m new) (e ∙ ap (λ x. Ok x) f) k).0
