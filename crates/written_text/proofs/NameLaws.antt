-- The name of a net is that of its place.
use Rattle.std.proofs.Common.{◌≡◌, ℕ, suc, ◌+◌, ◌<◌, Bool, true, false, List, [], ◌∷◌, length, get_or, refl, sym, ◌∙◌, ap, arith}
use Rattle.std.specs.Prelude.{◌==◌, Option, Some, None, unwrap_or, if◌then◌else◌}
use Rattle.std.specs.List.{position_from}
use Rattle.std.specs.Option.{option_map, option_or}
use Rattle.sg_circuit.specs.Circuit.{Variable}
use Rattle.written_model.specs.Names.{bit_at, name_of}
use Rattle.written_text.specs.Places.{Place, bits_place, variables_place}

abbrev is : ℕ → ℕ → Bool
is net n = n == net

abbrev of : ℕ → ℕ → Place
of v j = (v, j)

pub bits-position : (v k : ℕ) (ns : List ℕ) (net : ℕ) → bits_place v k ns net ≡ option_map (of v) (position_from (is net) k ns)
bits-position v k [] net = refl
bits-position v k (n ∷ ns) net = by (n == net) (bits-position v (k + 1) ns net)
  where
    by : (b : Bool) → bits_place v (k + 1) ns net ≡ option_map (of v) (position_from (is net) (k + 1) ns)
        → option_or (if b then Some (v, k) else None) (bits_place v (k + 1) ns net) ≡ option_map (of v) (if b then Some k else position_from (is net) (k + 1) ns)
    by true rec = refl
    by false rec = rec

position-within : (test : ℕ → Bool) (k p : ℕ) (ns : List ℕ) → position_from test k ns ≡ Some p → p < k + length ns
position-within test k p [] e = absurd cc
position-within test k p (n ∷ ns) e = by (test n) e (position-within test (k + 1) p ns)
  where
    by : (b : Bool) → (if b then Some k else position_from test (k + 1) ns) ≡ Some p → (position_from test (k + 1) ns ≡ Some p → p < k + 1 + length ns) → p < k + length (n ∷ ns)
    by true f rec = let g : k ≡ p = cc in omega (arith, g)
    by false f rec = let m : p < k + 1 + length ns = rec f in omega (arith, m)

-- what stands at a place that was found
pub record Found (vs : List Variable) (net start k j : ℕ) : Type 0 where
  pub i : ℕ
  pub variable : Variable
  pub within : i < length vs
  pub stands : variable ≡ get_or vs i variable
  pub at : start + i ≡ k
  pub bit : j < length variable.bits
  pub named : name_of vs net ≡ bit_at variable j

pub name_found : (vs : List Variable) (net start k j : ℕ) → variables_place start vs net ≡ Some (k, j) → Found vs net start k j
name_found [] net start k j e = absurd cc
name_found (v ∷ vs) net start k j e = by (position_from (is net) 0 v.bits) refl (sym (ap (λ o. option_or o (variables_place (start + 1) vs net)) (bits-position start 0 v.bits net)) ∙ e) (name_found vs net (start + 1) k j)
  where
    by : (o : Option ℕ) → position_from (is net) 0 v.bits ≡ o → option_or (option_map (of start) o) (variables_place (start + 1) vs net) ≡ Some (k, j) → (variables_place (start + 1) vs net ≡ Some (k, j) → Found vs net (start + 1) k j)
        → Found (v ∷ vs) net start k j
    by (Some p) at f rec =
        let first : start ≡ k = ap (λ (o : Option Place). (unwrap_or o (0, 0)).0) f in
        let second : p ≡ j = ap (λ (o : Option Place). (unwrap_or o (0, 0)).1) f in
        let l : p < 0 + length v.bits = position-within (is net) 0 p v.bits at in record {
          i = 0;
          variable = v;
          within = omega arith;
          stands = refl;
          at = omega (arith, first);
          bit = omega (arith, l, second);
          named = ap (λ o. unwrap_or (option_map (bit_at v) o) (name_of vs net)) at ∙ ap (λ q. bit_at v q) second;
        }
    by None at f rec =
        let more = rec f in record {
          i = suc more.i;
          variable = more.variable;
          within = omega (arith, more.within);
          stands = more.stands;
          at = omega (arith, more.at);
          bit = more.bit;
          named = ap (λ o. unwrap_or (option_map (bit_at v) o) (name_of vs net)) at ∙ more.named;
        }

pub name_missing : (vs : List Variable) (net start : ℕ) → variables_place start vs net ≡ None → name_of vs net ≡ record { name = []; index = None }
name_missing [] net start e = refl
name_missing (v ∷ vs) net start e = by (position_from (is net) 0 v.bits) refl (sym (ap (λ o. option_or o (variables_place (start + 1) vs net)) (bits-position start 0 v.bits net)) ∙ e) (name_missing vs net (start + 1))
  where
    by : (o : Option ℕ) → position_from (is net) 0 v.bits ≡ o → option_or (option_map (of start) o) (variables_place (start + 1) vs net) ≡ None
        → (variables_place (start + 1) vs net ≡ None → name_of vs net ≡ record { name = []; index = None }) → name_of (v ∷ vs) net ≡ record { name = []; index = None }
    by (Some p) at f rec = absurd cc
    by None at f rec = ap (λ o. unwrap_or (option_map (bit_at v) o) (name_of vs net)) at ∙ rec f
