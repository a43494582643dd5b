use Rattle.std.proofs.Common.{◌≡◌, ◌<◌, ◌∙◌, ◌∷◌, [], ◌++◌, ℕ, length, ap, subst, sym, arith}
use Rattle.std.specs.Prelude.{All, Some, None}
use Rattle.std.proofs.lemmas.List.Elements.{All-append, All-cons, All-nil}
use Rattle.sg_circuit.specs.Circuit.{scope_at}
use Rattle.sg_circuit.specs.Seen.{circuit_seen}
use Rattle.written_text.specs.Instances.{chain}
use Rattle.written_text.proofs.InstanceLaws.{chain_step, chain_end, parent_below, long_scopes}
use Rattle.written_text.proofs.PageLaws.{scope_is}
use Rattle.written_text.proofs.instances.chain_of.Goals as goal

pub loop-parent-preserved : goal.loop-parent-preserved
loop-parent-preserved c =
    let parts = c.args.parts.now in
    let C = circuit_seen parts in
    let next = c.loop-parent.next in
    let l = long_scopes parts next c.loop-parent.invariant.next in
    let parent : (scope_at C next).parent ≡ Some c.in-Some.parent = ap (λ s. s.parent) (scope_is parts next c.index.result.now c.loop-parent.invariant.next c.index.ensures) ∙ c.in-Some.is in
    let below : c.in-Some.parent < next = parent_below C c.requires.closed.parents next c.in-Some.parent l parent in
    let P : ℕ → Type 0 = λ s. s < length parts.scopes.items in record {
      chain = ap (λ xs. xs ++ chain C c.in-Some.parent) c.in_ok-push.ensures.items ∙ chain_step C c.requires.closed next c.in-Some.parent l parent c.loop-parent.scopes.items (chain C c.args.scope) c.loop-parent.invariant.chain;
      next = omega (arith, below, c.loop-parent.invariant.next);
      within = subst (λ xs. All P xs) (sym c.in_ok-push.ensures.items) (All-append P c.loop-parent.scopes.items (next ∷ []) c.loop-parent.invariant.within (All-cons P next [] c.loop-parent.invariant.next (All-nil P)));
    }

pub returns-clause-chain : goal.returns-clause-chain
returns-clause-chain c =
    let parts = c.args.parts.now in
    let C = circuit_seen parts in
    let next = c.loop-parent.next in
    let none : (scope_at C next).parent ≡ None = ap (λ s. s.parent) (scope_is parts next c.index.result.now c.loop-parent.invariant.next c.index.ensures) ∙ c.in_default.is in
    chain_end C c.requires.closed next (long_scopes parts next c.loop-parent.invariant.next) none c.loop-parent.scopes.items (chain C c.args.scope) c.loop-parent.invariant.chain
