-- The top is placed, with all below it, or one of them is refused.
use Rattle.std.proofs.Common.{◌≡◌, ◌≤◌, ◌^◌, ◌∷◌, ◌++◌, [], length, arith, ap, ◌∙◌, sym, subst}
use Rattle.std.proofs.lemmas.Result.{err_from_is_err_and}
use Rattle.elab_hierarchy.specs.Growing.{top_with}
use Rattle.elab_hierarchy.proofs.Whole.{refuses, at-top, placed_top, top-placed}
use Rattle.elab_hierarchy.proofs.instances.place_top.Goals as goal

pub returns-in_err-place_below-clause-refused : goal.returns-in_err-place_below-clause-refused
returns-in_err-place_below-clause-refused c =
    let chain : c.push.new.self.items ≡ c.args.top ∷ [] = c.in_ok-push.ensures.items ∙ ap (λ xs. xs ++ c.args.top ∷ []) c.new-chain.ensures.items in
    let list : c.push-2.new.self.items ≡ placed_top c.args.top ∷ [] = c.in_ok-push-2.ensures.items ∙ ap (λ xs. xs ++ placed_top c.args.top ∷ []) c.requires.empty in
    refuses _ c.from_residual-in_err-place_below.result c.in_err-place_below.field-0.0
    (err_from_is_err_and c.from_residual-in_err-place_below.result c.from_residual-in_err-place_below.ensures.1)
    (λ source m tree stands. c.in_err-place_below.ensures.refused source (top_with c.args.levels m)
    (at-top source c.args.children.now c.args.levels c.args.top c.push.new.self.items (length c.push-2.new.self.items) m tree stands chain (ap length list)))

pub set_end-requires-clause-within : goal.set_end-requires-clause-within
set_end-requires-clause-within c =
    let list : c.push-2.new.self.items ≡ placed_top c.args.top ∷ [] = c.in_ok-push-2.ensures.items ∙ ap (λ xs. xs ++ placed_top c.args.top ∷ []) c.requires.empty in
    let one : length c.push-2.new.self.items ≡ 1 = ap length list in
    let more : length c.push-2.new.self.items ≤ length c.place_below.new.list.items = c.in_ok-place_below.ensures.more in
    omega arith

pub returns-clause-instances : goal.returns-clause-instances
returns-clause-instances c source m tree stands =
    let chain : c.push.new.self.items ≡ c.args.top ∷ [] = c.in_ok-push.ensures.items ∙ ap (λ xs. xs ++ c.args.top ∷ []) c.new-chain.ensures.items in
    let list : c.push-2.new.self.items ≡ placed_top c.args.top ∷ [] = c.in_ok-push-2.ensures.items ∙ ap (λ xs. xs ++ placed_top c.args.top ∷ []) c.requires.empty in
    top-placed source c.args.levels c.args.top m c.push-2.new.self.items c.place_below.new.list.items c.set_end.new.list.items stands list
    (c.in_ok-place_below.ensures.grown source (top_with c.args.levels m)
    (at-top source c.args.children.now c.args.levels c.args.top c.push.new.self.items (length c.push-2.new.self.items) m tree stands chain (ap length list)))
    c.set_end.ensures.ended

pub returns-clause-few : goal.returns-clause-few
returns-clause-few c = subst (λ n. n ≤ 2 ^ 22) (sym c.set_end.ensures.length) c.in_ok-place_below.ensures.few

pub returns-clause-faultless : goal.returns-clause-faultless
returns-clause-faultless c source m tree stands =
    let chain : c.push.new.self.items ≡ c.args.top ∷ [] = c.in_ok-push.ensures.items ∙ ap (λ xs. xs ++ c.args.top ∷ []) c.new-chain.ensures.items in
    let list : c.push-2.new.self.items ≡ placed_top c.args.top ∷ [] = c.in_ok-push-2.ensures.items ∙ ap (λ xs. xs ++ placed_top c.args.top ∷ []) c.requires.empty in
    let g = c.in_ok-place_below.ensures.grown source (top_with c.args.levels m)
    (at-top source c.args.children.now c.args.levels c.args.top c.push.new.self.items (length c.push-2.new.self.items) m tree stands chain (ap length list)) in
    g.faultless
