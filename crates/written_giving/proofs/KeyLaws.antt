-- What a key asks for: its own path or event has it, and of those for one the last asks for no less.
use Rattle.std.proofs.Common.{◌≡◌, ◌≤◌, Bool, true, false, List, [], ◌∷◌, refl, sym, ◌∙◌, ap, subst, arith, inl, inr}
use Rattle.std.specs.Prelude.{◌⊎◌, Option, Some, None, if◌then◌else◌}
use Rattle.std.specs.Option.{option_map}
use Rattle.cond_expr.specs.Token.{Tok}
use Rattle.cond_expr.specs.Same.{IsCore}
use Rattle.cond_expr.proofs.Cores.{one_core}
use Rattle.sg_logic.specs.declared.edges.Edge as netlist
use Rattle.sg_logic.specs.declared.edges.TheConstants.{POSEDGE, NEGEDGE}
use Rattle.sg_circuit.specs.Paths as specify
use Rattle.sdf_tree.specs.declared.tree.Edge.TheVariants.{Posedge, Negedge}
use Rattle.sdf_tree.specs.Written.{PathCondition, always, otherwise, if_words}
use Rattle.annotation_model.specs.Same.{bits_eq, is_edge, fits_edge, bare, same_condition, fits_words}
use Rattle.annotation_model.specs.Matching.{fits_condition}
use Rattle.annotation_conditions.proofs.SameLaws.{bare_is_core}
use Rattle.annotation_conditions.proofs.TokenLaws.{tokens_eq-decides}
use Rattle.written_model.specs.Entries.{edge_of, condition_of, one_if, condition_rank}

-- ---- edges

bits-same : (xs ys : List Bool) → bits_eq xs ys ≡ true → xs ≡ ys
bits-same [] [] e = refl
bits-same [] (y ∷ ys) e = absurd cc
bits-same (true ∷ xs) [] e = absurd cc
bits-same (false ∷ xs) [] e = absurd cc
bits-same (true ∷ xs) (true ∷ ys) e = ap (λ zs. true ∷ zs) (bits-same xs ys e)
bits-same (true ∷ xs) (false ∷ ys) e = absurd cc
bits-same (false ∷ xs) (true ∷ ys) e = absurd cc
bits-same (false ∷ xs) (false ∷ ys) e = ap (λ zs. false ∷ zs) (bits-same xs ys e)

pub edge-own : (e : Option netlist.Edge) → fits_edge (edge_of e) e ≡ true
edge-own e = by (is_edge (Some POSEDGE) e) (is_edge (Some NEGEDGE) e) refl refl
  where
    by : (a b : Bool) → is_edge (Some POSEDGE) e ≡ a → is_edge (Some NEGEDGE) e ≡ b → fits_edge (if a then Some Posedge else if b then Some Negedge else None) e ≡ true
    by true b f g = f
    by false true f g = g
    by false false f g = refl

-- a falling edge isn't a rising one
not-both : (e : Option netlist.Edge) → is_edge (Some NEGEDGE) e ≡ true → is_edge (Some POSEDGE) e ≡ false
not-both None e = absurd cc
not-both (Some f) e = subst (λ xs. bits_eq POSEDGE.has xs ≡ false) (bits-same NEGEDGE.has f.has e) refl

-- an edge that fits is none, or the same
pub edge-fits : (e f : Option netlist.Edge) → fits_edge (edge_of e) f ≡ true → (edge_of e ≡ None) ⊎ (edge_of e ≡ edge_of f)
edge-fits e f = by (is_edge (Some POSEDGE) e) (is_edge (Some NEGEDGE) e)
  where
    by : (a b : Bool) → fits_edge (if a then Some Posedge else if b then Some Negedge else None) f ≡ true
        → ((if a then Some Posedge else if b then Some Negedge else None) ≡ None) ⊎ ((if a then Some Posedge else if b then Some Negedge else None) ≡ edge_of f)
    by true b h = inr (sym (ap (λ t. if t then Some Posedge else if is_edge (Some NEGEDGE) f then Some Negedge else None) h))
    by false true h =
        inr (sym (ap (λ t. if t then Some Posedge else if is_edge (Some NEGEDGE) f then Some Negedge else None) (not-both f h) ∙ ap (λ t. if t then Some Negedge else None) h))
    by false false h = inl refl

-- ---- conditions

pub bare-bare : (ts : List Tok) → bare (bare ts) ≡ bare ts
bare-bare ts =
    let core : IsCore ts (bare ts) = bare_is_core ts in
    one_core (bare ts) (bare (bare ts)) (bare ts) (bare_is_core (bare ts)) (record { pairs = 0; is = refl; balanced = inl refl; bare = core.bare })

pub same-own : (ts : List Tok) → same_condition ts (bare ts) ≡ true
same-own ts = (tokens_eq-decides (bare ts) (bare (bare ts))).1 (sym (bare-bare ts))

pub same-fits : (ts us : List Tok) → same_condition us (bare ts) ≡ true → bare ts ≡ bare us
same-fits ts us e = sym ((tokens_eq-decides (bare us) (bare (bare ts))).0 e ∙ bare-bare ts)

pub condition-own : (p : specify.PathCondition) → fits_condition (condition_of p) p ≡ true
condition-own specify.Always = refl
condition-own (specify.If written bound) = same-own written
condition-own specify.IfNone = refl

pub condition-fits : (p q : specify.PathCondition) → fits_condition (condition_of p) q ≡ true → (condition_of p ≡ always) ⊎ (condition_of p ≡ condition_of q)
condition-fits specify.Always q e = inl refl
condition-fits (specify.If w b) specify.Always e = absurd cc
condition-fits (specify.If w b) (specify.If v d) e = inr (ap if_words (same-fits w v e))
condition-fits (specify.If w b) specify.IfNone e = absurd cc
condition-fits specify.IfNone specify.Always e = absurd cc
condition-fits specify.IfNone (specify.If v d) e = absurd cc
condition-fits specify.IfNone specify.IfNone e = inr refl

pub words-own : (o : Option (List Tok)) → fits_words (option_map bare o) o ≡ true
words-own None = refl
words-own (Some ts) = same-own ts

pub words-fits : (o p : Option (List Tok)) → fits_words (option_map bare o) p ≡ true → (option_map bare o ≡ None) ⊎ (option_map bare o ≡ option_map bare p)
words-fits None p e = inl refl
words-fits (Some ts) None e = absurd cc
words-fits (Some ts) (Some us) e = inr (ap Some (same-fits ts us e))

-- ---- ranks

module _ {A : Type 0} where
  pub option-rank : (a b : Option A) → (a ≡ None) ⊎ (a ≡ b) → one_if a ≤ one_if b
  option-rank a b h = elim h [
    | inl e ↦ subst (λ x. one_if x ≤ one_if b) (sym e) (omega arith)
    | inr e ↦ subst (λ x. one_if a ≤ one_if x) e (omega arith)
  ]

  pub option-equal : (a b : Option A) → (a ≡ None) ⊎ (a ≡ b) → one_if a ≡ one_if b → a ≡ b
  option-equal a b h r = elim h [
    | inl e ↦ by a b e r
    | inr e ↦ e
  ]
    where
      by : (x y : Option A) → x ≡ None → one_if x ≡ one_if y → x ≡ y
      by None None e r = refl
      by None (Some y) e r = absurd (omega (arith, r))
      by (Some x) y e r = absurd cc

pub words-rank : (a b : PathCondition) → (a ≡ always) ⊎ (a ≡ b) → condition_rank a ≤ condition_rank b
words-rank a b h = elim h [
  | inl e ↦ subst (λ x. condition_rank x ≤ condition_rank b) (sym e) (omega arith)
  | inr e ↦ subst (λ x. condition_rank a ≤ condition_rank x) e (omega arith)
]

pub words-equal : (a b : PathCondition) → (a ≡ always) ⊎ (a ≡ b) → condition_rank a ≡ condition_rank b → a ≡ b
words-equal a b h r = elim h [
  | inl e ↦ by a b e r
  | inr e ↦ e
]
  where
    by : (x y : PathCondition) → x ≡ always → condition_rank x ≡ condition_rank y → x ≡ y
    by always always e r = refl
    by always otherwise e r = absurd (omega (arith, r))
    by always (if_words ts) e r = absurd (omega (arith, r))
    by otherwise y e r = absurd cc
    by (if_words ts) y e r = absurd cc
