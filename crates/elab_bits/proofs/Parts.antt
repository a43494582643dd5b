-- What the variants of an expression are seen as, and the bits and the faults of each.
use Rattle.std.specs.Prelude.{◌≡◌, List, [], ◌∷◌, ◌++◌, Option, map, flat_map, refl}
use Rattle.std.proofs.Common.{sym, ◌∙◌, ap, Vec, Global}
use Rattle.std.proofs.lemmas.Grind.{flat_map-append}
use Rattle.std.proofs.lemmas.List.{append-nil}
use Rattle.sg_text.specs.declared.places.Place.{Place}
use Rattle.vl_token.specs.Constants.{sized_bits}
use Rattle.vl_token.specs.declared.constants.Constant.{Constant}
use Rattle.vl_tree.specs.declared.expressions.Expression as code
use Rattle.vl_tree.specs.declared.expressions.Expression.TheVariants as variant
use Rattle.vl_tree.specs.declared.expressions.Expression.TheVariants.{rolls-Signal, rolls-Sized, rolls-Concatenation}
use Rattle.vl_tree.specs.declared.expressions.Expression.TheOpen as layer
use Rattle.vl_tree.specs.declared.expressions.Expression.TheFolds.{fold-roll-Expression}
use Rattle.vl_tree.specs.declared.expressions.Select.{Select}
use Rattle.vl_tree.specs.declared.names.Name.{Name}
use Rattle.vl_tree.specs.Seen.{view_expression, view_layer, view_name}
use Rattle.vl_tree.specs.Tree.{Expression, signal, sized, concatenation, expressions}
use Rattle.elab_model.specs.Bits.{constant, leaf_bits, bits}
use Rattle.elab_model.specs.Leaves.{Leaf, leaf_of, leaves, leaves_of}
use Rattle.elab_model.specs.Names.{Variable}
use Rattle.elab_model.specs.TerminalFaults.{leaf_faults, expression_faults}

pub view-signal : (n : Name) (s : Option Select) → view_expression (variant.Signal n s) ≡ signal (view_name n) s
view-signal n s = ap view_expression (sym (rolls-Signal n s)) ∙ fold-roll-Expression Expression view_layer (layer.Signal n s)

pub view-sized : (p : Place) (c : Constant) → view_expression (variant.Sized p c) ≡ sized p (sized_bits c.width c.base c.digits.now)
view-sized p c = ap view_expression (sym (rolls-Sized p c)) ∙ fold-roll-Expression Expression view_layer (layer.Sized p c)

pub view-concatenation : (p : Place) (parts : Vec code.Expression Global) → view_expression (variant.Concatenation p parts) ≡ concatenation p (expressions (map view_expression parts.items))
view-concatenation p parts = ap view_expression (sym (rolls-Concatenation p parts)) ∙ fold-roll-Expression Expression view_layer (layer.Concatenation p parts)

-- what comes of the leaves of several expressions comes of each
of-parts : {A : Type 0} (f : Leaf → List A) (es : List Expression) → flat_map f (leaves_of (expressions es)) ≡ flat_map (λ e. flat_map f (leaves e)) es
of-parts f [] = refl
of-parts f (e ∷ es) = flat_map-append f (leaves e) (leaves_of (expressions es)) ∙ ap (λ xs. flat_map f (leaves e) ++ xs) (of-parts f es)

pub bits-signal : (vs : List Variable) (n : Name) (s : Option Select) → bits vs (view_expression (variant.Signal n s)) ≡ leaf_bits vs (leaf_of (view_name n) s)
bits-signal vs n s = ap (bits vs) (view-signal n s) ∙ append-nil (leaf_bits vs (leaf_of (view_name n) s))

pub bits-sized : (vs : List Variable) (p : Place) (c : Constant) → bits vs (view_expression (variant.Sized p c)) ≡ map (constant p) (sized_bits c.width c.base c.digits.now)
bits-sized vs p c = ap (bits vs) (view-sized p c) ∙ append-nil (map (constant p) (sized_bits c.width c.base c.digits.now))

pub bits-concatenation : (vs : List Variable) (p : Place) (parts : Vec code.Expression Global)
    → bits vs (view_expression (variant.Concatenation p parts)) ≡ flat_map (bits vs) (map view_expression parts.items)
bits-concatenation vs p parts = ap (bits vs) (view-concatenation p parts) ∙ of-parts (leaf_bits vs) (map view_expression parts.items)

pub faults-signal : (vs : List Variable) (n : Name) (s : Option Select) → expression_faults vs (view_expression (variant.Signal n s)) ≡ leaf_faults vs (leaf_of (view_name n) s)
faults-signal vs n s = ap (expression_faults vs) (view-signal n s) ∙ append-nil (leaf_faults vs (leaf_of (view_name n) s))

pub faults-sized : (vs : List Variable) (p : Place) (c : Constant) → expression_faults vs (view_expression (variant.Sized p c)) ≡ []
faults-sized vs p c = ap (expression_faults vs) (view-sized p c)

pub faults-concatenation : (vs : List Variable) (p : Place) (parts : Vec code.Expression Global)
    → expression_faults vs (view_expression (variant.Concatenation p parts)) ≡ flat_map (expression_faults vs) (map view_expression parts.items)
faults-concatenation vs p parts = ap (expression_faults vs) (view-concatenation p parts) ∙ of-parts (leaf_faults vs) (map view_expression parts.items)
