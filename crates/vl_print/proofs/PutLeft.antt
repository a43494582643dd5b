-- Steps of the loop over the parts of a concatenation.
use Rattle.std.proofs.Common.{◌≡◌, ℕ, suc, zero, ◌+◌, ◌<◌, ◌≤◌, Bool, true, false, List, [], ◌∷◌, length, map, drop, get_or, refl, sym, subst, ap, ◌∙◌, arith, Vec, Global}
use Rattle.sg_text.specs.declared.places.Place.{Place}
use Rattle.vl_token.specs.declared.symbols.Symbol.TheVariants.{LeftBrace, RightBrace}
use Rattle.vl_tree.specs.declared.expressions.Expression as code
use Rattle.vl_tree.specs.declared.expressions.Expression.TheVariants as variant
use Rattle.vl_tree.specs.declared.expressions.Expression.TheVariants.{rolls-Concatenation}
use Rattle.vl_tree.specs.declared.expressions.Expression.TheOpen as layer
use Rattle.vl_tree.specs.declared.expressions.Expression.TheFolds.{fold-roll-Expression}
use Rattle.vl_print.specs.Printing.{Tokens, mark_at, put_mark, put_left, put_listed, put_expression, comma_if}
use Rattle.vl_tree.specs.Seen.{view_expression, view_layer}
use Rattle.vl_tree.specs.Tree.{Expression, concatenation, expressions}
use Rattle.vl_print.proofs.ExpressionsPrinted.{all_listed}

abbrev Code : Type 0
Code = code.Expression

-- what is left from a position on begins with what stands there
left_at : {A : Type 0} (es : List A) (i : ℕ) (x : A) → i < length es → x ≡ get_or es i x → drop i es ≡ x ∷ drop (suc i) es
left_at [] i x lt e = absurd (omega (arith, lt))
left_at (y ∷ es) zero x lt e = ap (λ z. z ∷ es) (sym e)
left_at (y ∷ es) (suc i) x lt e = left_at es i x (omega (arith, lt)) e

none_left : {A : Type 0} (es : List A) (i : ℕ) → length es ≤ i → drop i es ≡ []
none_left [] zero le = refl
none_left [] (suc i) le = refl
none_left (y ∷ es) zero le = absurd (omega (arith, le))
none_left (y ∷ es) (suc i) le = none_left es i (omega (arith, le))

-- one more part is put
step : (b : Bool) (x : Expression) (es : List Expression) (out : Tokens) → put_left b (x ∷ es) out ≡ put_left true es (put_expression x (comma_if b out))
step true x es out = refl
step false x es out = refl

ends : (b : Bool) (out : Tokens) → put_left b [] out ≡ out
ends true out = refl
ends false out = refl

pub part_put : (b : Bool) (es : List Code) (i : ℕ) (x : Code) (out mid new total : Tokens) → i < length es → x ≡ get_or es i x → mid ≡ comma_if b out → new ≡ put_expression (view_expression x) mid
    → put_left b (map view_expression (drop i es)) out ≡ total → put_left true (map view_expression (drop (i + 1) es)) new ≡ total
part_put b es i x out mid new total lt at e f so_far =
    let n : i + 1 ≡ suc i = omega arith in
    let more = step b (view_expression x) (map view_expression (drop (suc i) es)) out in
    let left : put_left b (map view_expression (x ∷ drop (suc i) es)) out ≡ total = subst (λ (l : List Code). put_left b (map view_expression l) out ≡ total) (left_at es i x lt at) so_far in
    rw (n, f, e) (sym more ∙ left)

view_concatenation : (place : Place) (parts : Vec Code Global) → view_expression (variant.Concatenation place parts) ≡ concatenation place (expressions (map view_expression parts.items))
view_concatenation place parts = ap view_expression (sym (rolls-Concatenation place parts)) ∙ fold-roll-Expression Expression view_layer (layer.Concatenation place parts)

-- behind the last part the brace closes the whole
pub all_put : (b : Bool) (place : Place) (parts : Vec Code Global) (es : List Code) (i : ℕ) (old start out new : Tokens) → es ≡ parts.items → length es ≤ i → start ≡ mark_at LeftBrace place old
    → put_left b (map view_expression (drop i es)) out ≡ put_listed put_expression (map view_expression es) start → new ≡ put_mark RightBrace out → new ≡ put_expression (view_expression (variant.Concatenation place parts)) old
all_put b place parts es i old start out new same le begun so_far closed =
    let none : put_left b [] out ≡ put_listed put_expression (map view_expression es) start = subst (λ (l : List Code). put_left b (map view_expression l) out ≡ put_listed put_expression (map view_expression es) start) (none_left es i le) so_far in
    let out_is : out ≡ put_listed put_expression (map view_expression es) start = sym (ends b out) ∙ none in
    let listed = all_listed (map view_expression parts.items) (mark_at LeftBrace place old) in
    rw (view_concatenation place parts, closed, out_is, same, begun) (ap (put_mark RightBrace) (sym listed))
