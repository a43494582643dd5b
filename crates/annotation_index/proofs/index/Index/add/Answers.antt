-- The list of the key was taken out, and stands there again with one item more; the name is known.
use Rattle.std.proofs.Common.{ℕ, List, Bor, ◌++◌, ◌∷◌, [], ◌≡◌, ◌∙◌, ap}
use Rattle.indexmap.specs.IndexMap.{get_by}
use Rattle.annotation_index.specs.declared.index.Index.{Index}
use Rattle.annotation_index.specs.Index.{same_key, list_at, one_if}
use Rattle.annotation_index.proofs.IndexLaws.{added, still_named}
use Rattle.annotation_index.proofs.index.Index.add.Goals.{In_ok-insert-2}
use Rattle.annotation_index.proofs.index.Index.add.Goals as goal

abbrev after : In_ok-insert-2 → Index
after c = record { lists = c.insert.new.self; names = c.insert-2.new.self }

one_more : (c : In_ok-insert-2) → (o : ℕ) (n : List ℕ) → list_at (after c) o n ≡ list_at c.args.self.now o n ++ one_if (same_key c.args.owner c.args.name.now o n) c.args.item
one_more c = λ o n.
    added c.args.owner c.args.name.now c.args.item (λ (q : ℕ × Bor (List ℕ)). get_by (λ (k : ℕ × Bor (List ℕ)). same_key q.0 q.1.now k.0 k.1.now) c.args.self.now.lists)
    (λ (q : ℕ × Bor (List ℕ)). get_by (λ (k : ℕ × Bor (List ℕ)). same_key q.0 q.1.now k.0 k.1.now) c.swap_remove.new.self)
    (λ (q : ℕ × Bor (List ℕ)). get_by (λ (k : ℕ × Bor (List ℕ)). same_key q.0 q.1.now k.0 k.1.now) c.insert.new.self)
    c.swap_remove.result c.push.new.self c.swap_remove.ensures.value c.swap_remove.ensures.updates.0
    (c.in_ok-push.ensures.items ∙ ap (λ xs. xs ++ c.args.item ∷ []) c.taken-list.ensures) c.in_ok-insert.ensures.updates.0 o n

pub returns-clause-items : goal.returns-clause-items
returns-clause-items c = one_more c

pub returns-clause-named : goal.returns-clause-named
returns-clause-named c = still_named c.args.self.now (after c) c.args.owner c.args.name.now c.args.item c.requires.named (one_more c) c.in_ok-insert-2.ensures.updates.0
