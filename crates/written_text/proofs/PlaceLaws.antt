-- Places of nets that are added to a table.
use Rattle.std.proofs.Common.{◌≡◌, ◌≢◌, ℕ, ◌+◌, ◌<◌, ◌≤◌, Bool, true, false, List, ◌∷◌, length, drop, get_or, set, refl, sym, ◌∙◌, ap, arith}
use Rattle.std.specs.Prelude.{◌==◌, All, map, Option, Some, None, cond}
use Rattle.std.specs.Option.{option_or}
use Rattle.std.proofs.lemmas.Bool.{eqb-true, eqb-false, eq-eqb, ne_eqb}
use Rattle.std.proofs.lemmas.List.{drop_more, drop_all, get_or-set_same, get_or-set_other, get_or-map, length-map}
use Rattle.sg_circuit.specs.declared.scopes.Variable as code_variable
use Rattle.sg_circuit.specs.Seen.{variable_seen}
use Rattle.sg_circuit.specs.Circuit.{Variable}
use Rattle.written_text.specs.declared.places.BitPlace.{BitPlace}
use Rattle.written_text.specs.Places.{Place, marked, place_at, place_if, place_if_at, bits_place, variables_place, HasMore}

abbrev pub blank : BitPlace
blank = record { mark = 0; variable = 0; bit = 0 }

abbrev pub place_of : BitPlace → Place
place_of p = (p.variable, p.bit)

pub or-assoc : (a b d : Option Place) → option_or (option_or a b) d ≡ option_or a (option_or b d)
or-assoc None b d = refl
or-assoc (Some p) b d = refl

pub or-none : (a : Option Place) → option_or a None ≡ a
or-none None = refl
or-none (Some p) = refl

pub marked_same : (mark : ℕ) (p : BitPlace) → p.mark ≡ mark → marked mark p ≡ Some (place_of p)
marked_same mark p e = ap (λ b. cond b (Some (place_of p)) None) (eq-eqb p.mark mark e)

pub marked_other : (mark : ℕ) (p : BitPlace) → p.mark ≢ mark → marked mark p ≡ None
marked_other mark p e = ap (λ b. cond b (Some (place_of p)) None) (ne_eqb p.mark mark e)

-- a table as it was, since a net has a place
pub none_more : (table : List BitPlace) (of mark variable bit : ℕ) → (get_or table of blank).mark ≡ mark → HasMore mark table table (place_if_at variable bit of)
none_more table of mark variable bit e = record { each = λ net l. by net (of == net) refl }
  where
    held : (net : ℕ) → of ≡ net → place_at table mark net ≡ Some (place_of (get_or table of blank))
    held net same = ap (λ n. marked mark (get_or table n blank)) (sym same) ∙ marked_same mark (get_or table of blank) e

    by : (net : ℕ) (b : Bool) → (of == net) ≡ b → place_at table mark net ≡ option_or (place_at table mark net) (place_if b variable bit)
    by net true f = held net (eqb-true of net f) ∙ ap (λ o. option_or o (place_if true variable bit)) (sym (held net (eqb-true of net f)))
    by net false f = sym (or-none (place_at table mark net))

-- a table with one place more, at a net that has none
pub one_more : (table : List BitPlace) (of : ℕ) (p : BitPlace) → of < length table → (get_or table of blank).mark ≢ p.mark → HasMore p.mark table (set table of p) (place_if_at p.variable p.bit of)
one_more table of p l free = record { each = λ net m. by net (of == net) refl }
  where
    was : (net : ℕ) → of ≡ net → place_at table p.mark net ≡ None
    was net same = ap (λ n. marked p.mark (get_or table n blank)) (sym same) ∙ marked_other p.mark (get_or table of blank) free

    is : (net : ℕ) → of ≡ net → place_at (set table of p) p.mark net ≡ Some (place_of p)
    is net same = ap (λ n. marked p.mark (get_or (set table of p) n blank)) (sym same) ∙ (ap (λ q. marked p.mark q) (get_or-set_same table of p blank l) ∙ marked_same p.mark p refl)

    by : (net : ℕ) (b : Bool) → (of == net) ≡ b → place_at (set table of p) p.mark net ≡ option_or (place_at table p.mark net) (place_if b p.variable p.bit)
    by net true e = is net (eqb-true of net e) ∙ ap (λ o. option_or o (Some (place_of p))) (sym (was net (eqb-true of net e)))
    by net false e =
        ap (λ q. marked p.mark q) (get_or-set_other table of net p blank (λ same. eqb-false of net e (sym same)))
        ∙ sym (or-none (place_at table p.mark net))

-- ---- bits one after another

pub bits_start : (old : List BitPlace) (mark variable : ℕ) (bits : List ℕ) (net : ℕ) → option_or (place_at old mark net) (bits_place variable 0 (drop 0 bits) net) ≡ option_or (place_at old mark net) (bits_place variable 0 bits net)
bits_start old mark variable bits net = refl

pub bits_step : (table new : List BitPlace) (mark variable i : ℕ) (bits : List ℕ) (of net : ℕ) (all : Option Place) → i < length bits → of ≡ get_or bits i 0 → net < length table → HasMore mark table new (place_if_at variable i of)
    → option_or (place_at table mark net) (bits_place variable i (drop i bits) net) ≡ all → option_or (place_at new mark net) (bits_place variable (i + 1) (drop (i + 1) bits) net) ≡ all
bits_step table new mark variable i bits of net all l at m h e =
    ap (λ o. option_or o (bits_place variable (i + 1) (drop (i + 1) bits) net)) (h.each net m)
    ∙ (or-assoc (place_at table mark net) (place_if_at variable i of net) (bits_place variable (i + 1) (drop (i + 1) bits) net)
    ∙ (ap (λ n. option_or (place_at table mark net) (option_or (place_if_at variable i n net) (bits_place variable (i + 1) (drop (i + 1) bits) net))) at
    ∙ (ap (λ ns. option_or (place_at table mark net) (bits_place variable i ns net)) (sym (drop_more bits i 0 l)) ∙ e)))

pub bits_end : (table : List BitPlace) (mark variable i : ℕ) (bits : List ℕ) (net : ℕ) (all : Option Place) → length bits ≤ i → option_or (place_at table mark net) (bits_place variable i (drop i bits) net) ≡ all → place_at table mark net ≡ all
bits_end table mark variable i bits net all l e =
    sym (or-none (place_at table mark net)) ∙ (ap (λ ns. option_or (place_at table mark net) (bits_place variable i ns net)) (sym (drop_all i bits l)) ∙ e)

-- ---- variables one after another

pub variables_step : (table new : List BitPlace) (mark k : ℕ) (vs : List Variable) (v : Variable) (net : ℕ) (all : Option Place) → k < length vs → v ≡ get_or vs k v → net < length table → HasMore mark table new (bits_place k 0 v.bits)
    → option_or (place_at table mark net) (variables_place k (drop k vs) net) ≡ all → option_or (place_at new mark net) (variables_place (k + 1) (drop (k + 1) vs) net) ≡ all
variables_step table new mark k vs v net all l at m h e =
    ap (λ o. option_or o (variables_place (k + 1) (drop (k + 1) vs) net)) (h.each net m)
    ∙ (or-assoc (place_at table mark net) (bits_place k 0 v.bits net) (variables_place (k + 1) (drop (k + 1) vs) net)
    ∙ (ap (λ ws. option_or (place_at table mark net) (variables_place k ws net)) (sym (drop_more vs k v l ∙ ap (λ x. x ∷ drop (k + 1) vs) (sym at))) ∙ e))

pub variables_end : (table : List BitPlace) (mark k : ℕ) (vs : List Variable) (net : ℕ) (all : Option Place) → length vs ≤ k → option_or (place_at table mark net) (variables_place k (drop k vs) net) ≡ all → place_at table mark net ≡ all
variables_end table mark k vs net all l e =
    sym (or-none (place_at table mark net)) ∙ (ap (λ ws. option_or (place_at table mark net) (variables_place k ws net)) (sym (drop_all k vs l)) ∙ e)

-- no net has a place of a mark that is greater than all
pub none_yet : (table : List BitPlace) (mark net : ℕ) → All (λ p. p.mark < mark) table → net < length table → place_at table mark net ≡ None
none_yet table mark net h l = marked_other mark (get_or table net blank) (let m : (get_or table net blank).mark < mark = h net blank l in λ e. omega (arith, m, e))

pub seen_at : (vs : List code_variable.Variable) (k : ℕ) (v : code_variable.Variable) → k < length vs → v ≡ get_or vs k v
    → (k < length (map (λ w. variable_seen w) vs)) × (variable_seen v ≡ get_or (map (λ w. variable_seen w) vs) k (variable_seen v))
seen_at vs k v l at = (let n : length (map (λ w. variable_seen w) vs) ≡ length vs = length-map vs (λ w. variable_seen w) in omega (arith, n, l), ap (λ w. variable_seen w) at ∙ sym (get_or-map (λ w. variable_seen w) vs k v (variable_seen v) l))
