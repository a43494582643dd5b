-- A text that was changed or cut is no text of a moment.
use Rattle.std.proofs.Common.{◌≡◌, ℕ, ℤ, ◌-◌, inl, inr, List, [], ◌∷◌, ◌++◌, length, map, set, refl, sym, ◌∙◌, ap, arith}
use Rattle.std.specs.Prelude.{slice_set}
use Rattle.std.specs.declared.option.Option.{Option}
use Rattle.std.proofs.lemmas.Bool.{cases_lt}
use Rattle.std.proofs.lemmas.List.{append-nil, append_assoc, length-append, length-set, set-append_left, set-append_right}
use Rattle.sg_logic.specs.declared.values.Value.{Value}
use Rattle.sg_model.specs.Machine.{Stamp}
use Rattle.sim_rounds.specs.Moments.{Moment}
use Rattle.sim_save.specs.Faults.{lines_in}
use Rattle.sim_save.specs.Lines.{body, check_line, end_line, head_line, joined, last_line, net_lines, pending_line, save_lines, udp_line}
use Rattle.sim_save.specs.Reading.{IsDamaged, changed, cut}
use Rattle.sim_save.proofs.BodyLaws.{lines_of_body}
use Rattle.sim_save.proofs.ConsLaws.{first_byte, head_of, tail_of}

-- ---- the line of the end stands at the end alone

abbrev NoEnd : List (List ℕ) → Type 0
NoEnd [] = Unit {0}
NoEnd (l ∷ ls) = (l ≡ end_line → ⊥) × NoEnd ls

no_end_append : (ls ms : List (List ℕ)) → NoEnd ls → NoEnd ms → NoEnd (ls ++ ms)
no_end_append [] ms h k = k
no_end_append (l ∷ ls) ms h k = (h.0, no_end_append ls ms h.1 k)

no_end_map : {A : Type 0} (f : A → List ℕ) → ((x : A) → f x ≡ end_line → ⊥) → (xs : List A) → NoEnd (map f xs)
no_end_map f h [] = tt
no_end_map f h (x ∷ xs) = (h x, no_end_map f h xs)

no_end_nets : (vs : List Value) (ss : List (Option Stamp)) → NoEnd (net_lines vs ss)
no_end_nets [] ss = tt
no_end_nets (v ∷ vs) [] = tt
no_end_nets (v ∷ vs) (s ∷ ss) = (λ e. let n : 110 ≡ 101 = first_byte 110 101 _ _ e in omega (arith, n), no_end_nets vs ss)

-- the lines before that of the end
abbrev front_lines : ℤ → ℕ → Moment → List (List ℕ)
front_lines tick elements m = head_line tick elements m ∷ (net_lines m.nets m.stamps ++ map pending_line m.pending ++ map udp_line m.udps ++ map check_line m.latest ++ last_line m ∷ [])

front_and_end : (tick : ℤ) (elements : ℕ) (m : Moment) (rest : List (List ℕ)) → save_lines tick elements m ++ rest ≡ front_lines tick elements m ++ end_line ∷ rest
front_and_end tick elements m rest =
    let a = net_lines m.nets m.stamps ++ map pending_line m.pending ++ map udp_line m.udps ++ map check_line m.latest in
    ap (λ ls. head_line tick elements m ∷ ls) (append_assoc a (last_line m ∷ end_line ∷ []) rest ∙ sym (append_assoc a (last_line m ∷ []) (end_line ∷ rest)))

no_end_front : (tick : ℤ) (elements : ℕ) (m : Moment) → NoEnd (front_lines tick elements m)
no_end_front tick elements m =
    let n = net_lines m.nets m.stamps in
    let p = n ++ map pending_line m.pending in
    let u = p ++ map udp_line m.udps in
    let k = u ++ map check_line m.latest in
    let hp = no_end_append n (map pending_line m.pending) (no_end_nets m.nets m.stamps) (no_end_map pending_line (λ x e. let n : 112 ≡ 101 = first_byte 112 101 _ _ e in omega (arith, n)) m.pending) in
    let hu = no_end_append p (map udp_line m.udps) hp (no_end_map udp_line (λ x e. let n : 117 ≡ 101 = first_byte 117 101 _ _ e in omega (arith, n)) m.udps) in
    let hk = no_end_append u (map check_line m.latest) hu (no_end_map check_line (λ x e. let n : 99 ≡ 101 = first_byte 99 101 _ _ e in omega (arith, n)) m.latest) in
    (λ e. let n : 115 ≡ 101 = first_byte 115 101 _ _ e in omega (arith, n), no_end_append k (last_line m ∷ []) hk (λ e. let n : 108 ≡ 101 = first_byte 108 101 _ _ e in omega (arith, n), tt))

up_to_end : (ls ms x y : List (List ℕ)) → NoEnd ls → NoEnd ms → ls ++ end_line ∷ x ≡ ms ++ end_line ∷ y → ls ≡ ms
up_to_end [] [] x y h k e = refl
up_to_end [] (m ∷ ms) x y h k e = absurd (k.0 (sym (head_of end_line m x (ms ++ end_line ∷ y) e)))
up_to_end (l ∷ ls) [] x y h k e = absurd (h.0 (head_of l end_line (ls ++ end_line ∷ x) y e))
up_to_end (l ∷ ls) (m ∷ ms) x y h k e =
    let rest = up_to_end ls ms x y h.1 k.1 (tail_of l m (ls ++ end_line ∷ x) (ms ++ end_line ∷ y) e) in
    ap (λ t. t ∷ ls) (head_of l m (ls ++ end_line ∷ x) (ms ++ end_line ∷ y) e) ∙ ap (λ ts. m ∷ ts) rest

-- two bodies with which a text begins are one
pub bodies_that_begin : (tick : ℤ) (elements : ℕ) (m n : Moment) (x y : List ℕ) → body tick elements m ++ x ≡ body tick elements n ++ y → body tick elements m ≡ body tick elements n
bodies_that_begin tick elements m n x y e =
    let whole : front_lines tick elements m ++ end_line ∷ lines_in x ≡ front_lines tick elements n ++ end_line ∷ lines_in y =
    sym (lines_of_body tick elements m x ∙ front_and_end tick elements m (lines_in x)) ∙ (ap lines_in e ∙ (lines_of_body tick elements n y ∙ front_and_end tick elements n (lines_in y))) in
    let fronts = up_to_end (front_lines tick elements m) (front_lines tick elements n) (lines_in x) (lines_in y) (no_end_front tick elements m) (no_end_front tick elements n) whole in
    let lines : save_lines tick elements m ≡ save_lines tick elements n =
    sym (append-nil (save_lines tick elements m)) ∙ (front_and_end tick elements m [] ∙ (ap (λ ls. ls ++ end_line ∷ []) fronts ∙ (sym (front_and_end tick elements n []) ∙ append-nil (save_lines tick elements n)))) in
    ap joined lines

-- ---- damage shows

pub halves : (a b c d : List ℕ) → length a ≡ length c → a ++ b ≡ c ++ d → (a ≡ c) × (b ≡ d)
halves [] b [] d n e = (refl, e)
halves [] b (c ∷ cs) d n e = absurd (omega (arith, n))
halves (a ∷ as') b [] d n e = absurd (omega (arith, n))
halves (a ∷ as') b (c ∷ cs) d n e =
    let head : a ≡ c = cc in
    let tail : as' ++ b ≡ cs ++ d = cc in
    let rest = halves as' b cs d (omega (arith, n)) tail in
    (ap (λ x. x ∷ as') head ∙ ap (λ xs. c ∷ xs) rest.0, rest.1)

-- of two texts that are something twice the second isn't the first with one byte changed
changed_once : (b d : List ℕ) (at byte : ℕ) → slice_set (b ++ b) at byte ≡ d ++ d → slice_set (b ++ b) at byte ≡ b ++ b
changed_once b d at byte e =
    let sizes = ap length e in
    let first = length-set (b ++ b) at byte in
    let second = length-append b b in
    let third = length-append d d in
    let size : length b ≡ length d = omega (arith, sizes, first, second, third) in
    elim (cases_lt at (length b)) [
      | inl l ↦
          let cut_there : set b at byte ++ b ≡ d ++ d = sym (set-append_left b b at byte l) ∙ e in
          let ends : (set b at byte ≡ d) × (b ≡ d) = halves (set b at byte) b d d (length-set b at byte ∙ size) cut_there in
          set-append_left b b at byte l ∙ ap (λ t. t ++ b) (ends.0 ∙ sym ends.1)
      | inr l ↦
          let cut_there : b ++ set b (at - length b) byte ≡ d ++ d = sym (set-append_right b b (length b) at byte refl l) ∙ e in
          let ends : (b ≡ d) × (set b (at - length b) byte ≡ d) = halves b (set b (at - length b) byte) d d size cut_there in
          set-append_right b b (length b) at byte refl l ∙ ap (λ t. b ++ t) (ends.1 ∙ sym ends.0)
    ]

pub no_text : (tick : ℤ) (elements : ℕ) (m n : Moment) (bytes : List ℕ) → IsDamaged (body tick elements m ++ body tick elements m) bytes → bytes ≡ body tick elements n ++ body tick elements n → ⊥
no_text tick elements m n bytes (changed at byte l differs) e = differs (changed_once (body tick elements m) (body tick elements n) at byte e)
no_text tick elements m n bytes (cut front b rest whole) e =
    let bm = body tick elements m in
    let bn = body tick elements n in
    let longer : bm ++ bm ≡ bn ++ (bn ++ b ∷ rest) = whole ∙ (ap (λ t. t ++ b ∷ rest) e ∙ append_assoc bn bn (b ∷ rest)) in
    let same = bodies_that_begin tick elements m n bm (bn ++ b ∷ rest) longer in
    let sizes = ap length longer in
    let first = length-append bm bm in
    let second = length-append bn (bn ++ b ∷ rest) in
    let third = length-append bn (b ∷ rest) in
    let size = ap length same in
    omega (arith, sizes, first, second, third, size)
