-- The gates of an expression have its values.
use Rattle.std.specs.Prelude.{ℕ, ◌≡◌, List, [], ◌∷◌, ◌++◌, Result, Ok, Err, IfOk, length, map, max}
use Rattle.std.specs.Global.{Vec}
use Rattle.sg_text.specs.declared.refusals.NoMemory.{NoMemory}
use Rattle.std.proofs.Common.{◌∙◌, ap, ap₂, subst}
use Rattle.std.proofs.lemmas.List.{map-append}
use Rattle.sg_logic.specs.declared.values.Value.TheVariants.{Zero}
use Rattle.sg_logic.specs.Gate.{inverse, or_value}
use Rattle.fit_gates.specs.declared.terms.Operand.{Operand}
use Rattle.fit_gates.specs.Terms as term
use Rattle.fit_gates.specs.Terms.{Expr, width}
use Rattle.fit_gates.specs.Values.{Valuation, bitwise_value, choice_value, comparison, equality, fitted, gated_value, logical_value, matches, operand_value, reduction_value, value, zip_with}
use Rattle.fit_gates.specs.Gates.{Driver, Hold, IsMadeBy}
use Rattle.fit_gates.specs.Making.{made}
use Rattle.fit_gates.proofs.StepLaws.{IsWorth, bitwise-worth, chosen-worth, compared-worth, gated-worth, inverted-worth, logical-worth, matched-worth, reduced-worth, values, values-fitted}

pub made-worth : (v : Valuation) (e : Expr) (gs : List Driver) (w : ℕ) → IsWorth v gs (made gs w e) (value v w e)
unfolding made
made-worth v (term.bits bs) gs w h = (h, values-fitted v w bs)
made-worth v (term.inverted e) gs w h =
    let a = made gs w e in
    let r = inverted-worth v a.0 a.1 h in
    let s = made-worth v e gs w r.0 in
    (s.0, r.1 ∙ ap (map inverse) s.1)
made-worth v (term.reduced op e) gs w h =
    let a = made gs (width e) e in
    let r = reduced-worth v a.0 op w a.1 h in
    let s = made-worth v e gs (width e) r.0 in
    (s.0, r.1 ∙ ap (λ vs. fitted Zero w (reduction_value op vs ∷ [])) s.1)
made-worth v (term.bitwise op e f) gs w h =
    let a = made gs w e in
    let b = made a.0 w f in
    let r = bitwise-worth v b.0 op a.1 b.1 h in
    let t = made-worth v f a.0 w r.0 in
    let s = made-worth v e gs w t.0 in
    (s.0, r.1 ∙ ap₂ (zip_with (bitwise_value op)) s.1 t.1)
made-worth v (term.logical op e f) gs w h =
    let a = made gs (width e) e in
    let b = made a.0 (width f) f in
    let r = logical-worth v b.0 op w a.1 b.1 h in
    let t = made-worth v f a.0 (width f) r.0 in
    let s = made-worth v e gs (width e) t.0 in
    (s.0, r.1 ∙ ap₂ (λ x y. fitted Zero w (logical_value op (or_value x) (or_value y) ∷ [])) s.1 t.1)
made-worth v (term.compared equal e f) gs w h =
    let both = max (width e) (width f) in
    let a = made gs both e in
    let b = made a.0 both f in
    let r = compared-worth v b.0 equal w a.1 b.1 h in
    let t = made-worth v f a.0 both r.0 in
    let s = made-worth v e gs both t.0 in
    (s.0, r.1 ∙ ap₂ (λ x y. fitted Zero w (comparison equal (zip_with equality x y) ∷ [])) s.1 t.1)
made-worth v (term.matched equal e bs) gs w h =
    let both = max (width e) (length bs) in
    let a = made gs both e in
    let r = matched-worth v a.0 equal w a.1 bs h in
    let s = made-worth v e gs both r.0 in
    (s.0, r.1 ∙ ap (λ x. fitted Zero w (comparison equal (matches x bs) ∷ [])) s.1)
made-worth v (term.choice c e f) gs w h =
    let a = made gs (width c) c in
    let b = made a.0 w e in
    let d = made b.0 w f in
    let r = chosen-worth v d.0 a.1 b.1 d.1 h in
    let u = made-worth v f b.0 w r.0 in
    let t = made-worth v e a.0 w u.0 in
    let s = made-worth v c gs (width c) t.0 in
    (s.0, r.1 ∙ ap (λ x. zip_with (choice_value (or_value x)) (values v b.1) (values v d.1)) s.1 ∙ ap₂ (zip_with (choice_value (or_value (value v (width c) c)))) t.1 u.1)
made-worth v (term.gated at c e) gs w h =
    let a = made gs (width c) c in
    let b = made a.0 w e in
    let r = gated-worth v b.0 at a.1 b.1 h in
    let t = made-worth v e a.0 w r.0 in
    let s = made-worth v c gs (width c) t.0 in
    (s.0, r.1 ∙ ap₂ (λ x y. map (gated_value at (or_value x)) y) s.1 t.1)
made-worth v (term.joined e f) gs w h =
    let a = made gs (width f) f in
    let b = made a.0 (width e) e in
    let t = made-worth v e a.0 (width e) h in
    let s = made-worth v f gs (width f) t.0 in
    (s.0, values-fitted v w (a.1 ++ b.1) ∙ ap (fitted Zero w) (map-append (operand_value v) a.1 b.1 ∙ ap₂ (λ x y. x ++ y) s.1 t.1))

-- what making it leaves
pub is-made : (before after : List Driver) (bits : List Operand) (w : ℕ) (e : Expr) → (after, bits) ≡ made before w e → IsMadeBy before after bits w e
is-made before after bits w e eq = λ v h.
    let r = made-worth v e before w (subst (λ (x : List Driver × List Operand). Hold v 0 x.0) eq h) in
    (r.0, ap (λ (x : List Driver × List Operand). values v x.1) eq ∙ r.1)

pub ok-made : (r : Result (Vec Operand) NoMemory) (before after : List Driver) (w : ℕ) (e : Expr) → IfOk r (λ b. (after, b.items) ≡ made before w e) → IfOk r (λ b. IsMadeBy before after b.items w e)
ok-made (Ok b) before after w e h = is-made before after b.items w e h
ok-made (Err f) before after w e h = tt
