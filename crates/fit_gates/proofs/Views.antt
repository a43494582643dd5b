-- What the variants of an expression are seen as.
use Rattle.std.proofs.Common.{◌≡◌, ◌∙◌, sym, ap, Bool, Box, Vec, Global}
use Rattle.fit_gates.specs.declared.terms.Operand.{Operand}
use Rattle.fit_gates.specs.declared.terms.Reduction.{Reduction}
use Rattle.fit_gates.specs.declared.terms.Bitwise.{Bitwise}
use Rattle.fit_gates.specs.declared.terms.Logical.{Logical}
use Rattle.fit_gates.specs.declared.terms.Term.{Term}
use Rattle.fit_gates.specs.declared.terms.Term.TheVariants as term
use Rattle.fit_gates.specs.declared.terms.Term.TheVariants.{rolls-Bits, rolls-Inverted, rolls-Reduced, rolls-Bitwise, rolls-Logical, rolls-Compared, rolls-Matched, rolls-Choice, rolls-Gated, rolls-Joined}
use Rattle.fit_gates.specs.declared.terms.Term.TheOpen as layer
use Rattle.fit_gates.specs.declared.terms.Term.TheFolds.{fold-roll-Term}
use Rattle.fit_gates.specs.Terms.{Expr, bits, inverted, reduced, bitwise, logical, compared, matched, choice, gated, joined, view, view_layer}

pub view_bits : (bs : Vec Operand Global) → view (term.Bits bs) ≡ bits bs.items
view_bits bs = ap view (sym (rolls-Bits bs)) ∙ fold-roll-Term Expr view_layer (layer.Bits bs)

pub view_inverted : (e : Box Term Global) → view (term.Inverted e) ≡ inverted (view e.value)
view_inverted e = ap view (sym (rolls-Inverted e)) ∙ fold-roll-Term Expr view_layer (layer.Inverted e)

pub view_reduced : (op : Reduction) (e : Box Term Global) → view (term.Reduced op e) ≡ reduced op (view e.value)
view_reduced op e = ap view (sym (rolls-Reduced op e)) ∙ fold-roll-Term Expr view_layer (layer.Reduced op e)

pub view_bitwise : (op : Bitwise) (a b : Box Term Global) → view (term.Bitwise op a b) ≡ bitwise op (view a.value) (view b.value)
view_bitwise op a b = ap view (sym (rolls-Bitwise op a b)) ∙ fold-roll-Term Expr view_layer (layer.Bitwise op a b)

pub view_logical : (op : Logical) (a b : Box Term Global) → view (term.Logical op a b) ≡ logical op (view a.value) (view b.value)
view_logical op a b = ap view (sym (rolls-Logical op a b)) ∙ fold-roll-Term Expr view_layer (layer.Logical op a b)

pub view_compared : (equal : Bool) (a b : Box Term Global) → view (term.Compared equal a b) ≡ compared equal (view a.value) (view b.value)
view_compared equal a b = ap view (sym (rolls-Compared equal a b)) ∙ fold-roll-Term Expr view_layer (layer.Compared equal a b)

pub view_matched : (equal : Bool) (e : Box Term Global) (bs : Vec Bool Global) → view (term.Matched equal e bs) ≡ matched equal (view e.value) bs.items
view_matched equal e bs = ap view (sym (rolls-Matched equal e bs)) ∙ fold-roll-Term Expr view_layer (layer.Matched equal e bs)

pub view_choice : (c a b : Box Term Global) → view (term.Choice c a b) ≡ choice (view c.value) (view a.value) (view b.value)
view_choice c a b = ap view (sym (rolls-Choice c a b)) ∙ fold-roll-Term Expr view_layer (layer.Choice c a b)

pub view_gated : (at : Bool) (c e : Box Term Global) → view (term.Gated at c e) ≡ gated at (view c.value) (view e.value)
view_gated at c e = ap view (sym (rolls-Gated at c e)) ∙ fold-roll-Term Expr view_layer (layer.Gated at c e)

pub view_joined : (a b : Box Term Global) → view (term.Joined a b) ≡ joined (view a.value) (view b.value)
view_joined a b = ap view (sym (rolls-Joined a b)) ∙ fold-roll-Term Expr view_layer (layer.Joined a b)
