-- Limits of pulses: what the latest of several says, and a table after one more.
use Rattle.std.specs.Prelude.{◌≡◌, ℕ, suc, ◌+◌, ◌<◌, ◌≤◌, ◌==◌, ◌&&◌, List, [], ◌∷◌, ◌++◌, Bool, true, false, cond, Option, Some, None, bytes_eq, filter, find, length, map, slice_index_or, take, refl, if◌then◌else◌}
use Rattle.std.specs.Borrow.{Bor}
use Rattle.std.specs.List.{last_or}
use Rattle.std.specs.Option.{option_map, option_or}
use Rattle.std.proofs.Common.{sym, ◌∙◌, ap, arith}
use Rattle.std.proofs.lemmas.Bool.{eqb-true}
use Rattle.std.proofs.lemmas.Cmp.{nat_list_eq_equiv}
use Rattle.std.proofs.lemmas.List.{map-append, take_more, take_all}
use Rattle.std.proofs.Math.Path.{fun_ext}
use Rattle.sg_delay.specs.declared.limits.Widths.{Widths}
use Rattle.elab_model.specs.Hierarchy.{is_empty}
use Rattle.elab_model.specs.Names.{Variable}
use Rattle.specify_model.specs.Blocks.{Pulse}
use Rattle.specify_model.specs.PulseLimits.{limits_of, limit_ticks, ends_text, cuts, are_ports, are_ends, last_of, is_for_ends, is_for_others}
use Rattle.specify_model.specs.Values.{Measure}
use Rattle.specify_values.specs.Seen.{IsAdded, ends_seen, widths_seen, view_pulse, limits_seen, named_limit, other_limit}
use Rattle.specify_values.proofs.ByName.{key}
use Rattle.specify_values.specs.declared.items.Pulse as code
use Rattle.specify_values.specs.declared.limits.PulseLimits.{PulseLimits}

-- the last that applies, with one more at the end
last-more : (test : Pulse → Bool) (o : Option Pulse) (ps : List Pulse) (p : Pulse) → last_or o (filter test (ps ++ p ∷ [])) ≡ (if test p then Some p else last_or o (filter test ps))
last-more test o [] p = by (test p)
  where
    by : (b : Bool) → last_or o (if b then p ∷ [] else []) ≡ (if b then Some p else o)
    by true = refl
    by false = refl
last-more test o (q ∷ ps) p = by (test q) (last-more test (Some q) ps p) (last-more test o ps p)
  where
    by : (b : Bool) → last_or (Some q) (filter test (ps ++ p ∷ [])) ≡ (if test p then Some p else last_or (Some q) (filter test ps))
        → last_or o (filter test (ps ++ p ∷ [])) ≡ (if test p then Some p else last_or o (filter test ps))
        → last_or o (if b then q ∷ filter test (ps ++ p ∷ []) else filter test (ps ++ p ∷ [])) ≡ (if test p then Some p else last_or o (if b then q ∷ filter test ps else filter test ps))
    by true h g = h
    by false h g = g

of-last : (by : Measure) (b : Bool) (p : Pulse) (o : Option Pulse) → option_map (limit_ticks by) (if b then Some p else o) ≡ (if b then Some (limit_ticks by p) else option_map (limit_ticks by) o)
of-last by true p o = refl
of-last by false p o = refl

-- a table stands for a list
pub record StandsFor (by : Measure) (vs : List Variable) (t : PulseLimits) (ps : List Pulse) : Type 0 where
  pub named : (i o : List ℕ) → named_limit t i o ≡ option_map (limit_ticks by) (last_of (is_for_ends vs i o) ps)
  pub others : other_limit t ≡ option_map (limit_ticks by) (last_of is_for_others ps)

pub one-pulse-more : (by : Measure) (vs : List Variable) (old new : PulseLimits) (ps : List Pulse) (p : Pulse) → StandsFor by vs old ps → IsAdded by vs old new p → StandsFor by vs new (ps ++ p ∷ [])
one-pulse-more by vs old new ps p h g = record {
  named = λ i o.
      g.named i o ∙ ap (λ x. if is_for_ends vs i o p then Some (limit_ticks by p) else x) (h.named i o) ∙ sym (of-last by (is_for_ends vs i o p) p (last_of (is_for_ends vs i o) ps))
      ∙ ap (option_map (limit_ticks by)) (sym (last-more (is_for_ends vs i o) None ps p));
  others =
      g.others ∙ ap (λ x. if is_for_others p then Some (limit_ticks by p) else x) h.others ∙ sym (of-last by (is_for_others p) p (last_of is_for_others ps))
      ∙ ap (option_map (limit_ticks by)) (sym (last-more is_for_others None ps p));
}

pub next-pulse : (by : Measure) (vs : List Variable) (xs : List code.Pulse) (i : ℕ) (x : code.Pulse) (old new : PulseLimits) → i < length xs → x ≡ slice_index_or xs i x
    → StandsFor by vs old (map view_pulse (take i xs)) → IsAdded by vs old new (view_pulse x) → StandsFor by vs new (map view_pulse (take (i + 1) xs))
next-pulse by vs xs i x old new lt at h g =
    let e : map view_pulse (take (i + 1) xs) ≡ map view_pulse (take i xs) ++ view_pulse x ∷ [] =
    ap (map view_pulse) (take_more xs i x lt) ∙ map-append view_pulse (take i xs) (slice_index_or xs i x ∷ []) ∙ ap (λ y. map view_pulse (take i xs) ++ view_pulse y ∷ []) (sym at) in
    rw e (one-pulse-more by vs old new (map view_pulse (take i xs)) (view_pulse x) h g)

or-mapped : (by : Measure) (o p : Option Pulse) → option_or (option_map (limit_ticks by) o) (option_map (limit_ticks by) p) ≡ option_map (limit_ticks by) (option_or o p)
or-mapped by None p = refl
or-mapped by (Some q) p = refl

pub all-pulses : (by : Measure) (vs : List Variable) (xs : List code.Pulse) (i : ℕ) (t : PulseLimits) → length xs ≤ i → StandsFor by vs t (map view_pulse (take i xs)) → limits_seen t ≡ limits_of by vs (map view_pulse xs)
all-pulses by vs xs i t le h =
    fun_ext (λ a. fun_ext (λ b.
    ap (λ x. option_or x (other_limit t)) (h.named a b) ∙ ap (option_or (option_map (limit_ticks by) (last_of (is_for_ends vs a b) (map view_pulse (take i xs))))) h.others
    ∙ or-mapped by (last_of (is_for_ends vs a b) (map view_pulse (take i xs))) (last_of is_for_others (map view_pulse (take i xs)))))
    ∙ ap (λ ys. limits_of by vs (map view_pulse ys)) (take_all i xs le)

pub no-pulses : {A : Type 0} (xs : List A) (b : Bool) → b ≡ (length xs == 0) → b ≡ true → length xs ≤ 0
no-pulses [] b h e = omega arith
no-pulses (x ∷ xs) b h e = let z : suc (length xs) ≡ 0 = eqb-true (suc (length xs)) 0 (sym h ∙ e) in omega arith

-- ---- one more in a table

-- limits of two ports, put into a table by them
pub named-added : (by : Measure) (vs : List Variable) (p : Pulse) (e : Bor (List ℕ) × Bor (List ℕ)) (w : Widths) (old new : Bor (List ℕ) × Bor (List ℕ) → Option Widths) (text : List ℕ)
    → text ≡ ends_text p → Some (ends_seen e) ≡ find (are_ports vs) (cuts text) → widths_seen w ≡ limit_ticks by p
    → ((q : Bor (List ℕ) × Bor (List ℕ)) → new q ≡ cond (bytes_eq e.0.now q.0.now && bytes_eq e.1.now q.1.now) (Some w) (old q))
    → (i o : List ℕ) → option_map widths_seen (new (key i, key o)) ≡ (if is_for_ends vs i o p then Some (limit_ticks by p) else option_map widths_seen (old (key i, key o)))
named-added by vs p e w old new text is found widths put i o =
    ap (option_map widths_seen) (put (key i, key o)) ∙ taken (bytes_eq e.0.now i && bytes_eq e.1.now o)
    ∙ ap (λ b. if b then Some (limit_ticks by p) else option_map widths_seen (old (key i, key o))) (sym applies)
  where
    applies : is_for_ends vs i o p ≡ (bytes_eq e.0.now i && bytes_eq e.1.now o)
    applies =
        ap (λ t. are_ends i o (find (are_ports vs) (cuts t))) (sym is) ∙ ap (are_ends i o) (sym found)
        ∙ ap (λ b. b && bytes_eq o e.1.now) (nat_list_eq_equiv.symm i e.0.now) ∙ ap (λ b. bytes_eq e.0.now i && b) (nat_list_eq_equiv.symm o e.1.now)

    taken : (b : Bool) → option_map widths_seen (cond b (Some w) (old (key i, key o))) ≡ (if b then Some (limit_ticks by p) else option_map widths_seen (old (key i, key o)))
    taken true = ap (λ l. Some l) widths
    taken false = refl

pub text-there : (text : List ℕ) (b : Bool) → b ≡ (length text == 0) → b ≡ false → is_empty text ≡ false
text-there [] b h e = let f : true ≡ false = sym h ∙ e in cc
text-there (x ∷ xs) b h e = refl

pub not-for_others : (by : Measure) (p : Pulse) (text : List ℕ) (t : PulseLimits) → text ≡ ends_text p → is_empty text ≡ false
    → other_limit t ≡ (if is_for_others p then Some (limit_ticks by p) else other_limit t)
not-for_others by p text t is e = ap (λ b. if b then Some (limit_ticks by p) else other_limit t) (sym (ap is_empty (sym is) ∙ e))
