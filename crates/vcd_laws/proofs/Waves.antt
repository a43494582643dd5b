-- A dump that has the items of a run is a stimulus that tells what the run makes of the inputs.
use Rattle.std.specs.Prelude.{◌≡◌, ℕ, ℤ, pos, suc, ◌-ℤ◌, ◌<◌, ◌≤◌, ◌==◌, ◌*◌, ◌/◌, ◌^◌, ◌⊎◌, Bool, true, false, not, cond, if◌then◌else◌, All, List, [], ◌∷◌, ◌++◌, length, map, filter, flat_map, decimal, refl}
use Rattle.std.specs.List.{AllByRecursion, list_any}
use Rattle.std.proofs.Common.{sym, ◌∙◌, ap, subst, arith, inl, inr}
use Rattle.std.proofs.lemmas.Bool.{and_parts, eqb-true}
use Rattle.std.proofs.lemmas.List.{append-nil}
use Rattle.std.proofs.lemmas.List.Elements.{All-from_recursion}
use Rattle.sg_logic.specs.declared.values.Value.{Value}
use Rattle.sg_time.specs.Spelling.{number_from}
use Rattle.sg_time.specs.Ticks.{above, below}
use Rattle.sg_circuit.specs.Circuit.{Circuit, Variable}
use Rattle.sg_stimulus.specs.Applied.{IsApplied, IsInput, SetsOnce}
use Rattle.sg_stimulus.specs.Stimulus.{Step, sets_at}
use Rattle.vcd_form.specs.Written.{Declaration, Item, Section, instant, nothing, real, value}
use Rattle.vcd_model.specs.Inputs.{own}
use Rattle.vcd_model.specs.Stimulus.{is_given, last_time, once, step_at, steps_of, time_of, wave_stimulus}
use Rattle.vcd_model.specs.Values.{given, given_by, scale_of, ticks, Given, Scale}
use Rattle.run_laws.specs.Inputs.{Changes, TellInputs}
use Rattle.vcd_laws.proofs.Body.{Showing, Upto, shots, showing}
use Rattle.vcd_laws.proofs.Items.{EachRead, HasReader, Shown, end_items, ending_items, given_from, given_from-append, items_of, now_after, now_after-append, shown}
use Rattle.vcd_laws.proofs.Steps.{ClimbsFrom, GivesAt, given_then, last_is, sets_all, sets_now, sets_once, steps_now, tells, wave_rises}

-- ---- items without their places

abbrev pub unplaced : Item → Item
unplaced nothing = nothing
unplaced (instant byte digits) = instant 0 digits
unplaced (value byte code_byte bits code) = value 0 0 bits code
unplaced (real byte code_byte code) = real 0 0 code

pub given-unplaced : (circuit : Circuit) (ds : List Declaration) (now : ℕ) (items : List Item) → given_from circuit ds now (map unplaced items) ≡ given_from circuit ds now items
given-unplaced circuit ds now [] = refl
given-unplaced circuit ds now (nothing ∷ is) = given-unplaced circuit ds now is
given-unplaced circuit ds now (instant b digits ∷ is) = given-unplaced circuit ds (number_from 0 digits) is
given-unplaced circuit ds now (value b c bits code ∷ is) = ap (λ gs. given_by circuit ds (now, value b c bits code) ++ gs) (given-unplaced circuit ds now is)
given-unplaced circuit ds now (real b c code ∷ is) = given-unplaced circuit ds now is

now-unplaced : (now : ℕ) (items : List Item) → now_after now (map unplaced items) ≡ now_after now items
now-unplaced now [] = refl
now-unplaced now (nothing ∷ is) = now-unplaced now is
now-unplaced now (instant b digits ∷ is) = now-unplaced (number_from 0 digits) is
now-unplaced now (value b c bits code ∷ is) = now-unplaced now is
now-unplaced now (real b c code ∷ is) = now-unplaced now is

last_is_now : (now : ℕ) (items : List Item) → last_time now (flat_map time_of items) ≡ now_after now items
last_is_now now [] = refl
last_is_now now (nothing ∷ is) = last_is_now now is
last_is_now now (instant b digits ∷ is) = last_is_now (number_from 0 digits) is
last_is_now now (value b c bits code ∷ is) = last_is_now now is
last_is_now now (real b c code ∷ is) = last_is_now now is

-- ---- times in ticks

same_scale : (difference : ℤ) (u : ℕ) → difference ≡ pos 0 → (u * 10 ^ above difference) / 10 ^ below difference ≡ u
same_scale difference u e = ap (λ (z : ℤ). (u * 10 ^ above z) / 10 ^ below z) e ∙ (let q : (u * 1) / 1 ≡ u = omega arith in q)

-- ---- what is so of the times and sets of a dump's stimulus

once_all : (P : ℕ → Type 0) (ts : List ℕ) → AllByRecursion P ts → AllByRecursion P (once ts)
once_all P [] h = tt
once_all P (t ∷ ts) h = (h.0, kept (λ u. not (u == t)) (once ts) (once_all P ts h.1))
  where
    kept : (test : ℕ → Bool) (us : List ℕ) → AllByRecursion P us → AllByRecursion P (filter test us)
    kept test [] k = tt
    kept test (u ∷ us) k = at (test u) (kept test us k.1)
      where
        at : (b : Bool) → AllByRecursion P (filter test us) → AllByRecursion P (cond b (u ∷ filter test us) (filter test us))
        at true rest = (k.0, rest)
        at false rest = rest

all_mapped : {A B : Type 0} (P : B → Type 0) (f : A → B) (xs : List A) → AllByRecursion (λ x. P (f x)) xs → AllByRecursion P (map f xs)
all_mapped P f [] h = tt
all_mapped P f (x ∷ xs) h = (h.0, all_mapped P f xs h.1)

all_always : {A : Type 0} (P : A → Type 0) (xs : List A) → ((x : A) → P x) → AllByRecursion P xs
all_always P [] h = tt
all_always P (x ∷ xs) h = (h x, all_always P xs h)

-- ---- the stimulus

-- the sections and items of a dump are those of a run
pub record IsOfRun (circuit : Circuit) (scope : List ℕ) (vs : List Variable) (nets : ℕ → List Value) (end : ℕ) (ss : List Section) (items : List Item) : Type 0 where
  pub unit : (scale_of circuit ss).unit -ℤ (scale_of circuit ss).tick ≡ pos 0
  pub items_are : map unplaced items ≡ items_of (shown vs (shots nets (suc end))) ++ ending_items end (shown vs (shots nets (suc end)))
  pub reads : EachRead circuit (own scope ss) 0 vs
  pub covers : (net : ℕ) → IsInput circuit net → HasReader circuit (own scope ss) net 0 vs
  pub digits : (u : ℕ) → u ≤ end → number_from 0 (decimal u) ≡ u

-- the end of the items is the end of the run, and it gives nothing
end_given : (circuit : Circuit) (ds : List Declaration) (now end : ℕ) (d : Shown) → given_from circuit ds now (end_items end d) ≡ []
end_given circuit ds now end d = at (d.time == end)
  where
    at : (b : Bool) → given_from circuit ds now (if b then [] else instant 0 (decimal end) ∷ []) ≡ []
    at true = refl
    at false = refl

end_now : (end : ℕ) (d : Shown) → number_from 0 (decimal end) ≡ end → now_after d.time (end_items end d) ≡ end
end_now end d digits = at (d.time == end) refl
  where
    at : (b : Bool) → (d.time == end) ≡ b → now_after d.time (if b then [] else instant 0 (decimal end) ∷ []) ≡ end
    at true e = eqb-true d.time end e
    at false e = digits

pub record Makes (circuit : Circuit) (scope : List ℕ) (nets : ℕ → List Value) (end : ℕ) (ss : List Section) (items : List Item) : Type 0 where
  pub applied : IsApplied circuit (wave_stimulus circuit scope ss items)
  pub ends : (wave_stimulus circuit scope ss items).end ≡ end
  pub tells_each : (time : ℕ) → time ≤ end → TellInputs circuit (nets time) (nets (suc time)) (sets_at (wave_stimulus circuit scope ss items).steps time)
  pub needed : (time : ℕ) → 0 < time → time ≤ end → (sets_at (wave_stimulus circuit scope ss items).steps time ≡ []) ⊎ Changes circuit (nets time) (nets (suc time))

pub makes : (circuit : Circuit) (scope : List ℕ) (vs : List Variable) (nets : ℕ → List Value) (end : ℕ) (ss : List Section) (items : List Item) → IsOfRun circuit scope vs nets end ss items → end < 2 ^ 60 → Makes circuit scope nets end ss items
makes circuit scope vs nets end ss items run fits = record {
  applied = record {
    rising = wave_rises scale n gs same (subst (λ xs. ClimbsFrom 0 (map (λ (g : Given). g.time) xs)) (sym gs_is) h.climbs);
    within = All-from_recursion (λ (s : Step). s.time ≤ (wave_stimulus circuit scope ss items).end) (steps_of scale n gs)
        (all_mapped (λ (s : Step). s.time ≤ (wave_stimulus circuit scope ss items).end) (step_at scale n gs) times (once_all (λ t. ticks scale t ≤ (wave_stimulus circuit scope ss items).end) (map (λ (g : Given). g.time) gs)
        (all_mapped (λ t. ticks scale t ≤ (wave_stimulus circuit scope ss items).end) (λ (g : Given). g.time) gs (early gs (subst (AllByRecursion (λ (g : Given). g.time ≤ d.time)) (sym gs_is) h.within)))));
    fits = subst (λ t. t < 2 ^ 60) (sym end_is) fits;
    once = All-from_recursion (λ (s : Step). SetsOnce s.sets) (steps_of scale n gs) (all_mapped (λ (s : Step). SetsOnce s.sets) (step_at scale n gs) times (all_always (λ t. SetsOnce (sets_now n gs t)) times (λ t. sets_once gs t 0 n)));
    inputs = All-from_recursion (λ (s : Step). All (λ c. IsInput circuit c.0) s.sets) (steps_of scale n gs)
        (all_mapped (λ (s : Step). All (λ c. IsInput circuit c.0) s.sets) (step_at scale n gs) times (all_always (λ t. All (λ (c : ℕ × Value). IsInput circuit c.0) (sets_now n gs t)) times (λ t. inputs_at t)));
  };
  ends = end_is;
  tells_each = λ time l. subst (TellInputs circuit (nets time) (nets (suc time))) (sym (steps_now scale n gs time same)) (tells circuit (nets time) (nets (suc time)) time gs (subst (GivesAt circuit (nets time) (nets (suc time)) time) (sym gs_is) (h.gives time l)));
  needed = λ time p l. none_set time (subst (λ xs. (list_any (λ (g : Given). g.time == time) xs ≡ false) ⊎ Changes circuit (nets time) (nets (suc time))) (sym gs_is) (h.needed time p l));
}
  where
    ds : List Declaration
    ds = own scope ss

    scale : Scale
    scale = scale_of circuit ss

    n : ℕ
    n = length circuit.nets

    gs : List Given
    gs = given circuit ds items

    times : List ℕ
    times = once (map (λ (g : Given). g.time) gs)

    same : (u : ℕ) → ticks scale u ≡ u
    same u = same_scale (scale.unit -ℤ scale.tick) u run.unit

    all_shown : Showing circuit ds vs nets end
    all_shown = showing circuit ds vs nets end end (omega arith) run.reads run.covers run.digits

    d : Shown
    d = all_shown.shown_as

    h : Upto circuit ds nets end d
    h = all_shown.upto

    items_are : map unplaced items ≡ d.items ++ end_items end d
    items_are = run.items_are ∙ ap (λ o. items_of o ++ ending_items end o) all_shown.is

    gs_is : gs ≡ given_from circuit ds 0 d.items
    gs_is =
        sym (given-unplaced circuit ds 0 items)
        ∙ (ap (given_from circuit ds 0) items_are
        ∙ (given_from-append circuit ds 0 d.items (end_items end d) ∙ (ap (λ xs. given_from circuit ds 0 d.items ++ xs) (end_given circuit ds (now_after 0 d.items) end d) ∙ append-nil (given_from circuit ds 0 d.items))))

    end_is : (wave_stimulus circuit scope ss items).end ≡ end
    end_is =
        same (last_time 0 (flat_map time_of items))
        ∙ (last_is_now 0 items
        ∙ (sym (now-unplaced 0 items)
        ∙ (ap (now_after 0) items_are ∙ (now_after-append 0 d.items (end_items end d) ∙ (ap (λ t. now_after t (end_items end d)) h.now ∙ end_now end d (run.digits end (omega arith)))))))

    early : (xs : List Given) → AllByRecursion (λ (g : Given). g.time ≤ d.time) xs → AllByRecursion (λ (g : Given). ticks scale g.time ≤ (wave_stimulus circuit scope ss items).end) xs
    early [] k = tt
    early (x ∷ xs) k = (subst (λ t. t ≤ (wave_stimulus circuit scope ss items).end) (sym (same x.time)) (subst (λ t. x.time ≤ t) (sym end_is) (let l : x.time ≤ d.time = k.0 in let m : d.time ≤ end = h.time in omega arith)), early xs k.1)

    inputs_of : (time net : ℕ) (xs : List Given) → AllByRecursion (λ (g : Given). IsInput circuit g.net) xs → AllByRecursion (λ (g : Given). is_given time net g ≡ true → IsInput circuit net) xs
    inputs_of time net [] k = tt
    inputs_of time net (x ∷ xs) k = ((λ e. subst (IsInput circuit) (eqb-true x.net net (and_parts (x.time == time) (x.net == net) e).1) k.0), inputs_of time net xs k.1)

    inputs_at : (time : ℕ) → All (λ (c : ℕ × Value). IsInput circuit c.0) (sets_now n gs time)
    inputs_at time = All-from_recursion (λ (c : ℕ × Value). IsInput circuit c.0) (sets_now n gs time)
        (sets_all (λ (c : ℕ × Value). IsInput circuit c.0) gs time 0 n (λ net c l e.
        (let r = last_is (λ v. IsInput circuit net) gs time net c (inputs_of time net gs (subst (AllByRecursion (λ (g : Given). IsInput circuit g.net)) (sym gs_is) h.inputs)) e in
        subst (IsInput circuit) (sym r.0) r.1)))

    none_set : (time : ℕ) → (list_any (λ (g : Given). g.time == time) gs ≡ false) ⊎ Changes circuit (nets time) (nets (suc time)) → (sets_at (wave_stimulus circuit scope ss items).steps time ≡ []) ⊎ Changes circuit (nets time) (nets (suc time))
    none_set time (inl none) = inl (steps_now scale n gs time same ∙ given_then gs time n none)
    none_set time (inr c) = inr c
