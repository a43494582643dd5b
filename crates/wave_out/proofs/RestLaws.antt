-- Dumps that go on from a snapshot add what they add to all before it.
use Rattle.std.proofs.Common.{◌≡◌, ◌∙◌, sym, ap, refl, subst, ℕ, suc, List, [], ◌∷◌, ◌++◌, length, drop, arith, append_assoc, inl, inr}
use Rattle.std.proofs.Math.Seq.{drop-append_seam}
use Rattle.std.proofs.lemmas.Bool.Decides.{nat_tests}
use Rattle.std.proofs.lemmas.List.{append-nil}
use Rattle.std.proofs.lemmas.List.Elements.{All-head, All-tail}
use Rattle.std.specs.Prelude.{◌==◌, ◌||◌, ◌<◌, ◌≤◌, ◌⊎◌, Bool, true, false, if◌then◌else◌, All, Option, Some, None}
use Rattle.sg_logic.specs.declared.values.Value.{Value}
use Rattle.sg_model.specs.Machine.{Snapshot}
use Rattle.sg_model.specs.Time.{any_differs}
use Rattle.sg_circuit.specs.Circuit.{Variable}
use Rattle.wave_out.specs.Texts.{by_number}
use Rattle.wave_out.specs.Vcd.{Dump, any_variable_differs, change_line, dump, dump_text, dump_with, end_line, first_block, later_block, time_line, value_line, values_at}
use Rattle.wave_out.proofs.CallLaws.{Agree, any_same}
use Rattle.wave_out.proofs.DumpLaws.{shows}

-- variables that agree differ from others alike
any_alike : (xs : List Variable) (a b new : List Value) → Agree xs a b → any_variable_differs xs a new ≡ any_variable_differs xs b new
any_alike [] a b new h = refl
any_alike (x ∷ xs) a b new h =
    ap (λ c. c || any_variable_differs xs a new) (any_same a b new x.bits (All-head (λ x. values_at x.bits a ≡ values_at x.bits b) x xs h))
    ∙ ap (λ c. any_differs b new x.bits || c) (any_alike xs a b new (All-tail (λ x. values_at x.bits a ≡ values_at x.bits b) x xs h))

lines_alike : (xs : List Variable) (k : ℕ) (a b new : List Value) → Agree xs a b → by_number (change_line a new) k xs ≡ by_number (change_line b new) k xs
lines_alike [] k a b new h = refl
lines_alike (x ∷ xs) k a b new h =
    ap (λ c. (if c then value_line new k x else []) ++ by_number (change_line a new) (suc k) xs) (any_same a b new x.bits (All-head (λ x. values_at x.bits a ≡ values_at x.bits b) x xs h))
    ∙ ap (λ t. change_line b new k x ++ t) (lines_alike xs (suc k) a b new (All-tail (λ x. values_at x.bits a ≡ values_at x.bits b) x xs h))

blocks_alike : (xs : List Variable) (a b : List Value) (s : Snapshot) → Agree xs a b → later_block xs a s ≡ later_block xs b s
blocks_alike xs a b s h = ap (λ t. time_line s.time ++ t) (lines_alike xs 0 a b s.values h)

-- the last time of a dump is none later than its snapshots
abbrev IsWithin : ℕ → Option Dump → Type 0
IsWithin time None = Unit {0}
IsWithin time (Some d) = d.time ≤ time

within_block : (time : ℕ) (d e : Dump) (b : Bool) → d.time ≤ time → e.time ≤ time → IsWithin time (if b then Some e else Some d)
within_block time d e true h g = g
within_block time d e false h g = h

within_more : (xs : List Variable) (time : ℕ) (s : Snapshot) (o : Option Dump) → s.time ≤ time → IsWithin time o → IsWithin time (dump_with xs s o)
within_more xs time s None l h = l
within_more xs time s (Some d) l h =
    within_block time d (record { text = d.text ++ later_block xs d.values s; time = s.time; values = s.values }) (any_variable_differs xs d.values s.values) h l

dump_within : (xs : List Variable) (time : ℕ) (seen : List Snapshot) → All (λ s. s.time ≤ time) seen → IsWithin time (dump xs seen)
unfolding dump
dump_within xs time [] h = tt
dump_within xs time (s ∷ seen) h = within_more xs time s (dump xs seen) (All-head (λ (x : Snapshot). x.time ≤ time) s seen h) (dump_within xs time seen (All-tail (λ (x : Snapshot). x.time ≤ time) s seen h))

-- two dumps that went on from a time alike
record AddAlike (xs : List Variable) (time : ℕ) (base other : List ℕ) (o p : Option Dump) : Type 0 where
  one : Dump
  two : Dump
  one_is : o ≡ Some one
  two_is : p ≡ Some two
  rest : List ℕ
  one_text : one.text ≡ base ++ rest
  two_text : two.text ≡ other ++ rest
  agree : Agree xs one.values two.values
  times : (one.time ≡ two.time) ⊎ ((one.time ≤ time) × (two.time ≤ time))

both_add : (xs : List Variable) (time : ℕ) (base other t : List ℕ) (s : Snapshot) (o p : Option Dump) (b : Bool) (h : AddAlike xs time base other o p)
    → AddAlike xs time base other (if b then Some (record { text = h.one.text ++ t; time = s.time; values = s.values }) else Some h.one)
    (if b then Some (record { text = h.two.text ++ t; time = s.time; values = s.values }) else Some h.two)
both_add xs time base other t s o p true h = record {
  one = record { text = h.one.text ++ t; time = s.time; values = s.values };
  two = record { text = h.two.text ++ t; time = s.time; values = s.values };
  one_is = refl;
  two_is = refl;
  rest = h.rest ++ t;
  one_text = ap (λ u. u ++ t) h.one_text ∙ append_assoc base h.rest t;
  two_text = ap (λ u. u ++ t) h.two_text ∙ append_assoc other h.rest t;
  agree = λ i x l. refl;
  times = inl refl;
}
both_add xs time base other t s o p false h = record { one = h.one; two = h.two; one_is = refl; two_is = refl; rest = h.rest; one_text = h.one_text; two_text = h.two_text; agree = h.agree; times = h.times }

add_more : (xs : List Variable) (time : ℕ) (base other : List ℕ) (s : Snapshot) (o p : Option Dump) → AddAlike xs time base other o p → AddAlike xs time base other (dump_with xs s o) (dump_with xs s p)
add_more xs time base other s o p h =
    let t = later_block xs h.one.values s in
    let c = any_variable_differs xs h.one.values s.values in
    let q : (if c then Some (record { text = h.two.text ++ t; time = s.time; values = s.values }) else Some h.two) ≡ dump_with xs s p =
    ap (λ b. if b then Some (record { text = h.two.text ++ t; time = s.time; values = s.values }) else Some h.two) (any_alike xs h.one.values h.two.values s.values h.agree)
    ∙ (ap (λ u. if any_variable_differs xs h.two.values s.values then Some (record { text = h.two.text ++ u; time = s.time; values = s.values }) else Some h.two) (blocks_alike xs h.one.values h.two.values s h.agree)
    ∙ ap (dump_with xs s) (sym h.two_is)) in
    subst (λ (x : Option Dump). AddAlike xs time base other x (dump_with xs s p)) (ap (dump_with xs s) (sym h.one_is))
    (subst (λ (x : Option Dump). AddAlike xs time base other (dump_with xs s (Some h.one)) x) q (both_add xs time base other t s o p c h))

begin_alike : (xs : List Variable) (last : Snapshot) (older : List Snapshot) → All (λ s. s.time ≤ last.time) older
    → AddAlike xs last.time (dump_text (dump xs (last ∷ older))) (first_block xs last) (dump xs (last ∷ older)) (dump xs (last ∷ []))
unfolding dump
begin_alike xs last older h =
    let v = shows xs last older in
    let l : IsWithin last.time (dump xs (last ∷ older)) = within_more xs last.time last (dump xs older) (omega arith) (dump_within xs last.time older h) in
    record {
      one = v.dump;
      two = record { text = first_block xs last; time = last.time; values = last.values };
      one_is = v.is;
      two_is = refl;
      rest = [];
      one_text = ap dump_text (sym v.is) ∙ sym (append-nil (dump_text (dump xs (last ∷ older))));
      two_text = sym (append-nil (first_block xs last));
      agree = v.agree;
      times = inr (subst (IsWithin last.time) v.is l, (let k : last.time ≤ last.time = omega arith in k));
    }

add_all : (xs : List Variable) (later : List Snapshot) (last : Snapshot) (older : List Snapshot) → All (λ s. s.time ≤ last.time) older
    → AddAlike xs last.time (dump_text (dump xs (last ∷ older))) (first_block xs last) (dump xs (later ++ last ∷ older)) (dump xs (later ++ last ∷ []))
unfolding dump
add_all xs [] last older h = begin_alike xs last older h
add_all xs (s ∷ later) last older h =
    add_more xs last.time (dump_text (dump xs (last ∷ older))) (first_block xs last) s (dump xs (later ++ last ∷ older)) (dump xs (later ++ last ∷ [])) (add_all xs later last older h)

-- both end alike after the time
end_alike : (time end : ℕ) (one two : Dump) → time < end → (one.time ≡ two.time) ⊎ ((one.time ≤ time) × (two.time ≤ time)) → end_line end (Some one) ≡ end_line end (Some two)
end_alike time end one two l (inl e) = ap (λ t. if t == end then [] else time_line end) e
end_alike time end one two l (inr h) =
    let p : one.time ≤ time = h.0 in
    let q : two.time ≤ time = h.1 in
    let a : (one.time == end) ≡ false = grind (arith, nat_tests) in
    let b : (two.time == end) ≡ false = grind (arith, nat_tests) in
    ap (λ c. if c then [] else time_line end) (a ∙ sym b)

end_both : (xs : List Variable) (time end : ℕ) (base other : List ℕ) (o p : Option Dump) → time < end → AddAlike xs time base other o p
    → dump_text o ++ end_line end o ≡ base ++ drop (length other) (dump_text p ++ end_line end p)
end_both xs time end base other o p l h =
    let e = end_line end (Some h.one) in
    let same : e ≡ end_line end p = end_alike time end h.one h.two l h.times ∙ ap (end_line end) (sym h.two_is) in
    let one : dump_text o ++ end_line end o ≡ base ++ (h.rest ++ e) =
    ap (λ x. dump_text x ++ end_line end x) h.one_is ∙ (ap (λ t. t ++ e) h.one_text ∙ append_assoc base h.rest e) in
    let two : dump_text p ++ end_line end p ≡ other ++ (h.rest ++ e) =
    ap (λ t. t ++ end_line end p) (ap dump_text h.two_is ∙ h.two_text) ∙ (ap (λ t. (other ++ h.rest) ++ t) (sym same) ∙ append_assoc other h.rest e) in
    one ∙ ap (λ t. base ++ t) (sym (ap (drop (length other)) two ∙ drop-append_seam other (h.rest ++ e)))

pub rest_makes_whole : (xs : List Variable) (end : ℕ) (later : List Snapshot) (last : Snapshot) (older : List Snapshot) → All (λ s. last.time < s.time) later → All (λ s. s.time ≤ last.time) older → last.time < end
    → dump_text (dump xs (later ++ last ∷ older)) ++ end_line end (dump xs (later ++ last ∷ older))
    ≡ dump_text (dump xs (last ∷ older)) ++ drop (length (first_block xs last)) (dump_text (dump xs (later ++ last ∷ [])) ++ end_line end (dump xs (later ++ last ∷ [])))
rest_makes_whole xs end later last older after before l =
    end_both xs last.time end (dump_text (dump xs (last ∷ older))) (first_block xs last) (dump xs (later ++ last ∷ older)) (dump xs (later ++ last ∷ [])) l (add_all xs later last older before)
