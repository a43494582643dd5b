-- Groups from the front.
use Rattle.std.proofs.Common.{◌≡◌, ◌∙◌, sym, ap, refl, ℕ, suc, ◌+◌, ◌-◌, ◌≤◌, ◌&&◌, Bool, true, false, cond, List, [], ◌∷◌, ◌++◌, length, take, drop, flat_map, append_assoc, arith}
use Rattle.std.proofs.lemmas.Bool.{and_parts}
use Rattle.std.proofs.lemmas.List.{drop-drop, length-drop, take_all}
use Rattle.std.specs.Prelude.{bytes_eq}
use Rattle.std.specs.Cmp.Lexicographic.{bytes_decides}
use Rattle.std.specs.List.{prefix_len}
use Rattle.tally_violations.specs.Figures.{group_line}
use Rattle.tally_violations.specs.Groups.{groups, is_same, joined}
use Rattle.tally_violations.specs.declared.violations.Violation.{Violation}

same_tests : (v w x : Violation) → is_same v w ≡ true → is_same v x ≡ is_same w x
same_tests v w x e =
    let p = and_parts (bytes_eq v.instance.now w.instance.now) (bytes_eq v.check.now w.check.now) e in
    ap (λ n. bytes_eq n x.instance.now && bytes_eq v.check.now x.check.now) ((bytes_decides v.instance.now w.instance.now).0 p.0)
    ∙ ap (λ n. bytes_eq w.instance.now x.instance.now && bytes_eq n x.check.now) ((bytes_decides v.check.now w.check.now).0 p.1)

same_len : (v w : Violation) (vs : List Violation) → is_same v w ≡ true → prefix_len (λ x. is_same v x) vs ≡ prefix_len (λ x. is_same w x) vs
same_len v w [] e = refl
same_len v w (x ∷ xs) e = ap (λ b. cond b (1 + prefix_len (λ y. is_same v y) xs) 0) (same_tests v w x e) ∙ ap (λ n. cond (is_same w x) (1 + n) 0) (same_len v w xs e)

one_joined : (v w : Violation) (ws : List Violation) (n m : ℕ) → n ≡ prefix_len (λ x. is_same v x) (w ∷ ws) → m ≡ prefix_len (λ x. is_same w x) ws
    → groups (w ∷ ws) ≡ (w ∷ take m ws) ∷ groups (drop m ws) → (b : Bool) → is_same v w ≡ b → groups (v ∷ w ∷ ws) ≡ (v ∷ take n (w ∷ ws)) ∷ groups (drop n (w ∷ ws))
one_joined v w ws n m e f rest true s =
    let is : n ≡ suc m = e ∙ (ap (λ b. cond b (1 + prefix_len (λ x. is_same v x) ws) 0) s ∙ let one : 1 + prefix_len (λ x. is_same v x) ws ≡ suc m = omega (arith, same_len v w ws s, f) in one) in
    ap (joined v) rest ∙ (ap (λ b. cond b ((v ∷ w ∷ take m ws) ∷ groups (drop m ws)) ((v ∷ []) ∷ (w ∷ take m ws) ∷ groups (drop m ws))) s ∙ ap (λ k. (v ∷ take k (w ∷ ws)) ∷ groups (drop k (w ∷ ws))) (sym is))
one_joined v w ws n m e f rest false s =
    let is : n ≡ 0 = e ∙ ap (λ b. cond b (1 + prefix_len (λ x. is_same v x) ws) 0) s in
    ap (joined v) rest ∙ (ap (λ b. cond b ((v ∷ w ∷ take m ws) ∷ groups (drop m ws)) ((v ∷ []) ∷ (w ∷ take m ws) ∷ groups (drop m ws))) s
    ∙ (ap (λ gs. (v ∷ []) ∷ gs) (sym rest) ∙ ap (λ k. (v ∷ take k (w ∷ ws)) ∷ groups (drop k (w ∷ ws))) (sym is)))

-- the first group, and those of the rest
first_group : (v : Violation) (vs : List Violation) (n : ℕ) → n ≡ prefix_len (λ w. is_same v w) vs → groups (v ∷ vs) ≡ (v ∷ take n vs) ∷ groups (drop n vs)
first_group v [] n e = ap (λ k. (v ∷ take k []) ∷ groups (drop k [])) (sym e)
first_group v (w ∷ ws) n e = one_joined v w ws n (prefix_len (λ x. is_same w x) ws) e refl (first_group w ws (prefix_len (λ x. is_same w x) ws) refl) (is_same v w) refl

left_at : (at : ℕ) (ordered left : List Violation) → take (length ordered - at) (drop at ordered) ≡ left → drop at ordered ≡ left
left_at at ordered left e = sym (take_all (length ordered - at) (drop at ordered) (let l = length-drop at ordered in omega (arith, l))) ∙ e

drop_one : (n : ℕ) (v : Violation) (rest : List Violation) → drop (1 + n) (v ∷ rest) ≡ drop n rest
drop_one n v rest = let e : 1 + n ≡ suc n = omega arith in ap (λ k. drop k (v ∷ rest)) e

-- the text with the line of one group more
pub group_told : (text new total : List ℕ) (at n : ℕ) (ordered rest : List Violation) (v : Violation) → take (length ordered - at) (drop at ordered) ≡ v ∷ rest
    → n ≡ prefix_len (λ w. is_same v w) rest → new ≡ text ++ group_line (v ∷ take n rest) → text ++ flat_map group_line (groups (drop at ordered)) ≡ total
    → new ++ flat_map group_line (groups (drop (at + (1 + n)) ordered)) ≡ total
group_told text new total at n ordered rest v cut is adds so_far =
    let there = left_at at ordered (v ∷ rest) cut in
    let behind : drop (at + (1 + n)) ordered ≡ drop n rest = sym (drop-drop (1 + n) at ordered) ∙ (ap (drop (1 + n)) there ∙ drop_one n v rest) in
    ap (λ t. t ++ flat_map group_line (groups (drop (at + (1 + n)) ordered))) adds
    ∙ (append_assoc text (group_line (v ∷ take n rest)) (flat_map group_line (groups (drop (at + (1 + n)) ordered)))
    ∙ (ap (λ l. text ++ (group_line (v ∷ take n rest) ++ flat_map group_line (groups l))) behind
    ∙ (ap (λ gs. text ++ flat_map group_line gs) (sym (first_group v rest n is) ∙ ap groups (sym there)) ∙ so_far)))

pub within_more : (at n : ℕ) (ordered rest : List Violation) (v : Violation) → take (length ordered - at) (drop at ordered) ≡ v ∷ rest → n ≤ length rest → at + (1 + n) ≤ length ordered
within_more at n ordered rest v cut le =
    let l = ap length (left_at at ordered (v ∷ rest) cut) in let d = length-drop at ordered in omega (arith, l, d, le)
