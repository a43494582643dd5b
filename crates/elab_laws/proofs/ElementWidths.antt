-- What no faults say of expressions: their widths, and that what is driven is no constant.
use Rattle.std.specs.Prelude.{◌≡◌, ℕ, suc, ◌+◌, List, [], ◌∷◌, ◌++◌, Bool, true, false, ◌&&◌, not, ◌==◌, length, flat_map, take, refl}
use Rattle.std.proofs.Common.{sym, ◌∙◌, ap, arith}
use Rattle.std.proofs.lemmas.Bool.{eqb-true, not-false}
use Rattle.std.proofs.lemmas.List.{length-append}
use Rattle.sg_text.specs.declared.places.Place.{Place}
use Rattle.vl_tree.specs.Tree.{Expression}
use Rattle.elab_model.specs.declared.kinds.ElabKind.{ElabKind}
use Rattle.elab_model.specs.declared.kinds.ElabKind.TheVariants.{WidthMismatch}
use Rattle.elab_model.specs.Leaves.{place_of}
use Rattle.elab_model.specs.Names.{Variable}
use Rattle.elab_model.specs.Bits.{Bit, net, constant, bits}
use Rattle.elab_model.specs.Elements.{only_bit}
use Rattle.elab_model.specs.Hierarchy.{is_empty}
use Rattle.elab_model.specs.Faults.{fault_if}
use Rattle.elab_model.specs.TerminalFaults.{expression_faults, is_sound, width_faults, constant_fault, constant_faults}
use Rattle.elab_laws.proofs.NoFaults.{front, back}

pub no-fault : (b : Bool) (k : ElabKind) (p : Place) → fault_if b k p ≡ [] → b ≡ false
no-fault true k p h = cc
no-fault false k p h = refl

-- an expression without faults has the width that is asked for
pub width-is : (vs : List Variable) (w : ℕ) (e : Expression) → expression_faults vs e ≡ [] → width_faults vs w e ≡ [] → length (bits vs e) ≡ w
width-is vs w e sound h =
    let s : is_sound vs e ≡ true = ap is_empty sound in
    let f : (is_sound vs e && not (length (bits vs e) == w)) ≡ false = no-fault (is_sound vs e && not (length (bits vs e) == w)) WidthMismatch (place_of e) h in
    let g : not (length (bits vs e) == w) ≡ false = sym (ap (λ b. b && not (length (bits vs e) == w)) s) ∙ f in
    eqb-true (length (bits vs e)) w (not-false (length (bits vs e) == w) g)

-- expressions of one bit each have as many bits as there are of them
pub bits-count : (vs : List Variable) (es : List Expression) → flat_map (expression_faults vs) es ≡ [] → flat_map (width_faults vs 1) es ≡ [] → length (flat_map (bits vs) es) ≡ length es
bits-count vs [] sound h = refl
bits-count vs (e ∷ es) sound h =
    let one : length (bits vs e) ≡ 1 = width-is vs 1 e (front (expression_faults vs e) (flat_map (expression_faults vs) es) sound) (front (width_faults vs 1 e) (flat_map (width_faults vs 1) es) h) in
    let rest : length (flat_map (bits vs) es) ≡ length es = bits-count vs es (back (expression_faults vs e) (flat_map (expression_faults vs) es) sound) (back (width_faults vs 1 e) (flat_map (width_faults vs 1) es) h) in
    let both : length (bits vs e ++ flat_map (bits vs) es) ≡ length (bits vs e) + length (flat_map (bits vs) es) = length-append (bits vs e) (flat_map (bits vs) es) in
    omega arith

-- the first of these bits is a bit of a net
pub record FirstIsNet (bs : List Bit) : Type 0 where
  pub name : List ℕ
  pub position : ℕ
  pub rest : List Bit
  pub first : bs ≡ net name position ∷ rest

-- where the first terminal is driven
pub first-is_net : (vs : List Variable) (k : ℕ) (e : Expression) (es : List Expression) → length (bits vs e) ≡ 1 → flat_map (constant_faults vs) (take (suc k) (e ∷ es)) ≡ []
    → FirstIsNet (flat_map (λ e. only_bit (bits vs e)) (take (suc k) (e ∷ es)))
first-is_net vs k e es one h = by (bits vs e) one (front (constant_faults vs e) (flat_map (constant_faults vs) (take k es)) h)
  where
    by : (bs : List Bit) → length bs ≡ 1 → flat_map constant_fault bs ≡ [] → FirstIsNet (only_bit bs ++ flat_map (λ e. only_bit (bits vs e)) (take k es))
    by [] one h = cc
    by (net n p ∷ []) one h = record { name = n; position = p; rest = flat_map (λ e. only_bit (bits vs e)) (take k es); first = refl }
    by (net n p ∷ b ∷ bs) one h = cc
    by (constant at v ∷ bs) one h = cc
