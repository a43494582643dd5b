-- The text, scope after scope, and whether it is too long.
use Rattle.std.proofs.Common.{◌≡◌, ℕ, suc, ◌+◌, ◌-◌, ◌<◌, ◌≤◌, false, List, [], ◌++◌, length, refl, sym, ◌∙◌, ap, subst, arith, append_assoc, append-nil}
use Rattle.std.specs.Prelude.{◌^◌, codes, flat_map, Result, Ok, Err, is_ok, IfErr, OnOk, if◌then◌else◌}
use Rattle.std.specs.List.{range_with_len}
use Rattle.std.proofs.lemmas.Bool.{le-ltb}
use Rattle.std.proofs.lemmas.List.{length-append, length-map}
use Rattle.written_model.specs.declared.errors.WriteError.{WriteError}
use Rattle.written_model.specs.declared.errors.WriteError.TheVariants as error
use Rattle.sg_circuit.specs.declared.circuits.Parts.{Parts}
use Rattle.sg_circuit.specs.Circuit.{Circuit}
use Rattle.sg_circuit.specs.Seen.{circuit_seen, scope_seen}
use Rattle.written_model.specs.Faults.{is_too_large}
use Rattle.written_model.specs.Text.{cell_text, head_line, line, text}
use Rattle.written_text.specs.Large.{IsTooLongFor}

-- ---- scopes one after another

pub scope_step : (f : ℕ → List ℕ) (k n : ℕ) (text new whole : List ℕ) → k < n → text ++ flat_map f (range_with_len k (n - k)) ≡ whole → new ≡ text ++ f k → new ++ flat_map f (range_with_len (k + 1) (n - (k + 1))) ≡ whole
scope_step f k n text new whole l h more =
    let rest = flat_map f (range_with_len (k + 1) (n - (k + 1))) in
    let e : n - k ≡ suc (n - (k + 1)) = omega (arith, l) in
    ap (λ t. t ++ rest) more ∙ (append_assoc text (f k) rest ∙ (ap (λ m. text ++ flat_map f (range_with_len k m)) (sym e) ∙ h))

pub scope_end : (f : ℕ → List ℕ) (k n : ℕ) (text whole : List ℕ) → n ≤ k → text ++ flat_map f (range_with_len k (n - k)) ≡ whole → text ≡ whole
scope_end f k n text whole l h =
    let e : n - k ≡ 0 = omega (arith, l) in
    sym (append-nil text) ∙ (ap (λ m. text ++ flat_map f (range_with_len k m)) (sym e) ∙ h)

-- ---- too long

-- a text is at least as long as what it begins with
pub too_long : (most : ℕ) (text rest whole : List ℕ) → most < length text → text ++ rest ≡ whole → most < length whole
too_long most text rest whole l e = let n = length-append text rest in let m = ap length e in omega (arith, l, n, m)

pub longer : (text rest whole : List ℕ) (e : WriteError) → text ++ rest ≡ whole → IsTooLongFor text e → IsTooLongFor whole e
longer text rest whole (error.TooLarge s) same h = (h.0, too_long (2 ^ 28) text rest whole h.1 same)
longer text rest whole error.NoMemory same h = tt
longer text rest whole (error.Ambiguous s) same h = h
longer text rest whole (error.OffGrid s) same h = h
longer text rest whole (error.TooDeep s) same h = h
longer text rest whole (error.TooLong s) same h = h

-- ---- texts added one after another

-- a text, another, and a last one
pub three_added : {E : Type 0} (r : Result Unit E) (text a t d e first second new : List ℕ) → first ≡ text ++ a → second ≡ first ++ t → new ≡ (if is_ok r then second ++ (d ++ e) else second) → OnOk r (new ≡ text ++ ((a ++ (t ++ d)) ++ e))
three_added (Err why) text a t d e first second new f g h = tt
three_added (Ok x) text a t d e first second new f g h =
    h ∙ (ap (λ s. s ++ (d ++ e)) (g ∙ ap (λ s. s ++ t) f)
    ∙ (sym (append_assoc ((text ++ a) ++ t) d e) ∙ (ap (λ s. s ++ e) (ap (λ s. s ++ d) (append_assoc text a t) ∙ (append_assoc text (a ++ t) d ∙ ap (λ s. text ++ s) (append_assoc a t d))) ∙ append_assoc text (a ++ (t ++ d)) e)))

-- the head, the cells and the last line
pub text_made : (parts : Parts) (start head cells made : List ℕ) → start ≡ [] → head ≡ start ++ head_line parts.tick.power → cells ≡ head ++ flat_map (cell_text (circuit_seen parts)) (range_with_len 0 (length parts.scopes.items)) → made ≡ cells ++ line (codes ")")
    → made ≡ text (circuit_seen parts)
unfolding text
text_made parts start head cells made e f g h =
    let c = circuit_seen parts in
    let first = head_line c.tick in
    let inner = flat_map (cell_text c) (range_with_len 0 (length parts.scopes.items)) in
    h ∙ (ap (λ t. t ++ line (codes ")")) (g ∙ ap (λ t. t ++ inner) (f ∙ ap (λ t. t ++ first) e))
    ∙ (append_assoc first inner (line (codes ")")) ∙ ap (λ m. first ++ (flat_map (cell_text c) (range_with_len 0 m) ++ line (codes ")"))) (sym (length-map parts.scopes.items (λ s. scope_seen s)))))

-- what is too long of the head and the cells is too long of the text
pub cells_too_long : (parts : Parts) (start head : List ℕ) (e : WriteError) → start ≡ [] → head ≡ start ++ head_line parts.tick.power → IsTooLongFor (head ++ flat_map (cell_text (circuit_seen parts)) (range_with_len 0 (length parts.scopes.items))) e
    → IsTooLongFor (text (circuit_seen parts)) e
cells_too_long parts start head e a b h =
    let c = circuit_seen parts in
    let cells = head ++ flat_map (cell_text c) (range_with_len 0 (length parts.scopes.items)) in
    longer cells (line (codes ")")) (text c) e (text_made parts start head cells (cells ++ line (codes ")")) a b refl refl) h

pub small_is : (c : Circuit) (made : List ℕ) → made ≡ text c → length made ≤ 2 ^ 28 → is_too_large c ≡ false
small_is c made e l = le-ltb (2 ^ 28) (length (text c)) (subst (λ t. length t ≤ 2 ^ 28) e l)

-- what an exit tells of its error
pub error_told : {T : Type 0} (r : Result T WriteError) (P : WriteError → Type 0) (e : WriteError) → (y : WriteError) × (r ≡ Err y) × (y ≡ e) → P e → IfErr r P
error_told r P e (y, is, same) h = subst (λ x. IfErr x P) (sym is) (subst P (sym same) h)
