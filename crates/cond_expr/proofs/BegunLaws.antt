-- Chains that end, go on and begin.
use Rattle.std.proofs.Common.{◌≡◌, ℕ, suc, ◌+◌, ◌-◌, ◌<◌, ◌≤◌, false, List, [], ◌∷◌, ◌++◌, length, map, reverse, IfOk, Option, Some, None, Result, Ok, Err, refl, sym, ap, subst, ◌∙◌, arith}
use Rattle.std.specs.Prelude.{slice_get, ◌==◌}
use Rattle.std.proofs.lemmas.Bool.{ne_eqb}
use Rattle.std.proofs.lemmas.List.{map-append, reverse-append}
use Rattle.grammar.specs.Reading.{◌>>=◌, Fails}
use Rattle.grammar.specs.Rule.{stands, is_of}
use Rattle.grammar.specs.declared.ReadFault.{ReadFault}
use Rattle.grammar.specs.declared.ReadFault.TheVariants as faults
use Rattle.grammar.proofs.Loops.{advances}
use Rattle.cond_expr.specs.Begun.{Parts, view_part, rest_of_level, rest_of_levels, loosest, chain_parts, rest_of_chains, completed, completed_behind, EndsBelow, GoesOn}
use Rattle.cond_expr.specs.declared.begun.Begun.{Begun}
use Rattle.cond_expr.specs.declared.tokens.Op.{Op}
use Rattle.cond_expr.specs.declared.tokens.Op.TheVariants as ops
use Rattle.cond_expr.specs.declared.tree.Node.{Node}
use Rattle.cond_expr.specs.Token.{Tok}
use Rattle.cond_expr.specs.declared.tokens.Tok.TheVariants as tok
use Rattle.cond_expr.specs.Kinds.{kind_of, is_binary, is_binary_up_to, operator_kind, precedence}
use Rattle.cond_expr.specs.Tree.{Cond, chain_of, view}
use Rattle.cond_expr.specs.Grammar.{level_parts, primary}
use Rattle.cond_expr.specs.Exactness.{primary-exact}
use Rattle.cond_expr.proofs.Levels.{Read, NoneBelow, bind_assoc, bind_ok, bind_same, level_done, level_read, levels_none, levels_from, levels_split, part_behind}

latest_first : (old new : List Begun) (b : Begun) → old ≡ new ++ b ∷ [] → reverse old ≡ b ∷ reverse new
latest_first old new b e = rw e (reverse-append new (b ∷ []))

-- ---- a chain ends

-- where no operator up to level m stands next, a part of level m is one of level 0
same_from : (bs : List Begun) (m n d : ℕ) (ts : List Tok) (c : Cond ℕ) (i : ℕ) → NoneBelow n ts i → m < n → completed bs m d ts c i ≡ completed bs 0 d ts c i
same_from bs m n d ts c i none lt =
    let all : loosest bs - 0 ≡ loosest bs = omega arith in
    ap (λ (r : Read). r >>= λ y. rest_of_chains bs d ts y.0 y.1) (sym (levels_from m (loosest bs) n d ts c i none lt) ∙ ap (λ (k : ℕ). rest_of_levels k 0 d ts c i) (sym all))

chain_ends : (b : Begun) (bs : List Begun) (n : ℕ) (c : Cond ℕ) (d : ℕ) (ts : List Tok) (i : ℕ) → 0 < precedence b.op → precedence b.op < n → NoneBelow n ts i
    → completed (b ∷ bs) 0 d ts c i ≡ completed bs 0 d ts (chain_of (view b.first.value) (chain_parts b c)) i
unfolding rest_of_chains
chain_ends b bs n c d ts i some lt none =
    let last = chain_of (view b.first.value) (chain_parts b c) in
    ap (λ (r : Read). r >>= λ y. rest_of_chains (b ∷ bs) d ts y.0 y.1) (levels_none (precedence b.op - 1 - 0) n d ts c i none (omega (arith, lt)))
    ∙ ap (λ (r : Read). r >>= λ y. completed bs (precedence b.op) d ts y.0 y.1) (level_done (precedence b.op) (precedence b.op - 1) d ts (view b.first.value) (chain_parts b c) i (none (precedence b.op) some lt))
    ∙ same_from bs (precedence b.op) n d ts last i none lt

pub ends_more : (n : ℕ) (start : List Begun) (first : Cond ℕ) (old new : List Begun) (b : Begun) (part last : Cond ℕ) → old ≡ new ++ b ∷ [] → precedence b.op < n → last ≡ chain_of (view b.first.value) (chain_parts b part)
    → EndsBelow n start first (reverse old) part → EndsBelow n start first (reverse new) last
ends_more n start first old new b part last popped lt is so_far d ts i none =
    so_far d ts i none
    ∙ (ap (λ (bs : List Begun). completed bs 0 d ts part i) (latest_first old new b popped)
    ∙ (chain_ends b (reverse new) n part d ts i b.joins lt none ∙ ap (λ (c : Cond ℕ). completed (reverse new) 0 d ts c i) (sym is)))

pub ends_now : (n : ℕ) (start : List Begun) (first : Cond ℕ) (old new : List Begun) (part : Cond ℕ) → new ≡ old → EndsBelow n start first (reverse old) part → EndsBelow n start first (reverse new) part
ends_now n start first old new part same so_far = subst (λ (bs : List Begun). EndsBelow n start first (reverse bs) part) (sym same) so_far

-- ---- a chain goes on, or begins

-- a chain of level suc m that waits behind an operator for the part x
abbrev with_part : ℕ → ℕ → ℕ → Cond ℕ → Parts → Op → List Begun → ℕ → List Tok → Cond ℕ × ℕ → Read
with_part k n m first parts op bs d ts x =
    rest_of_levels k 0 d ts x.0 x.1 >>= λ y.
    rest_of_level n m d ts first (parts ++ (op, y.0) ∷ []) y.1 >>= λ z.
    completed bs n d ts z.0 z.1

same_chain : (k k' n n' m m' : ℕ) (first first' : Cond ℕ) (parts parts' : Parts) (op op' : Op) (bs : List Begun) (d : ℕ) (ts : List Tok) (x : Cond ℕ × ℕ)
    → k ≡ k' → n ≡ n' → m ≡ m' → first ≡ first' → parts ≡ parts' → op ≡ op' → with_part k n m first parts op bs d ts x ≡ with_part k' n' m' first' parts' op' bs d ts x
same_chain k k' n n' m m' first first' parts parts' op op' bs d ts x e f g h p o = rw (e, f, g, h, p, o) refl

of_chain : (b : Begun) (bs : List Begun) (m : ℕ) (first : Cond ℕ) (parts : Parts) (op : Op) (d : ℕ) (ts : List Tok) (x : Cond ℕ × ℕ) → precedence op ≡ suc m → b.op ≡ op → view b.first.value ≡ first → map view_part b.rest.items ≡ parts
    → completed (b ∷ bs) 0 d ts x.0 x.1 ≡ with_part m (suc m) m first parts op bs d ts x
unfolding rest_of_chains
of_chain b bs m first parts op d ts x p o f r =
    let level : precedence b.op ≡ suc m = ap precedence o ∙ p in
    same_chain (precedence b.op - 1 - 0) m (precedence b.op) (suc m) (precedence b.op - 1) m (view b.first.value) first (map view_part b.rest.items) parts b.op op bs d ts x (omega (arith, level)) level (omega (arith, level)) f r o

-- where an operator stands next, the part behind it comes to the parts so far
waits : (m : ℕ) (first : Cond ℕ) (parts : Parts) (op : Op) (bs : List Begun) (d : ℕ) (ts : List Tok) (i : ℕ) → slice_get ts i ≡ Some (tok.Op op) → precedence op ≡ suc m
    → (rest_of_level (suc m) m d ts first parts i >>= λ z. completed bs (suc m) d ts z.0 z.1) ≡ ((primary d).read ts (i + 1) >>= with_part m (suc m) m first parts op bs d ts)
waits m first parts op bs d ts i at p =
    let behind : Cond ℕ × ℕ → Read = λ y. rest_of_level (suc m) m d ts first (parts ++ (op, y.0) ∷ []) y.1 in
    let rest : Cond ℕ × ℕ → Read = λ z. completed bs (suc m) d ts z.0 z.1 in
    let part : Cond ℕ × ℕ → Read = λ x. rest_of_levels m 0 d ts x.0 x.1 in
    ap (λ (r : Read). r >>= rest) (part_behind m d ts first parts i op at p)
    ∙ (bind_assoc ((primary d).read ts (i + 1)) (λ x. part x >>= behind) rest ∙ bind_same ((primary d).read ts (i + 1)) _ _ (λ x. bind_assoc (part x) behind rest))

-- no operator stands beside another
none_below : (ts : List Tok) (i : ℕ) (op : Op) → slice_get ts i ≡ Some (tok.Op op) → NoneBelow (precedence op) ts i
none_below ts i op at l some lt = rw at (ne_eqb (precedence op) l (λ e. omega (arith, e, lt)))

goes_on_at : (b' b : Begun) (bs : List Begun) (m : ℕ) (part : Cond ℕ) (op : Op) (d : ℕ) (ts : List Tok) (i : ℕ) → slice_get ts i ≡ Some (tok.Op op) → precedence op ≡ suc m → precedence b.op ≡ suc m → b'.op ≡ op
    → view b'.first.value ≡ view b.first.value → map view_part b'.rest.items ≡ chain_parts b part → completed (b ∷ bs) 0 d ts part i ≡ completed_behind (b' ∷ bs) d ts (i + 1)
unfolding rest_of_chains
goes_on_at b' b bs m part op d ts i at p q o f r =
    let some : precedence b.op - 1 ≡ m = omega (arith, q) in
    let first = view b.first.value in
    let parts = chain_parts b part in
    ap (λ (s : Read). s >>= λ y. rest_of_chains (b ∷ bs) d ts y.0 y.1) (levels_none (precedence b.op - 1 - 0) (precedence op) d ts part i (none_below ts i op at) (omega (arith, p, q)))
    ∙ (rw (some, q) refl
    ∙ (waits m first parts op bs d ts i at p
    ∙ sym (bind_same ((primary d).read ts (i + 1)) _ _ (λ x. of_chain b' bs m first parts op d ts x p o f r))))

begins_at : (b' : Begun) (bs : List Begun) (m : ℕ) (part : Cond ℕ) (op : Op) (d : ℕ) (ts : List Tok) (i : ℕ) → slice_get ts i ≡ Some (tok.Op op) → precedence op ≡ suc m → suc m ≤ loosest bs → b'.op ≡ op
    → view b'.first.value ≡ part → map view_part b'.rest.items ≡ [] → completed bs 0 d ts part i ≡ completed_behind (b' ∷ bs) d ts (i + 1)
unfolding rest_of_levels
begins_at b' bs m part op d ts i at p le o f r =
    let rest : Cond ℕ × ℕ → Read = λ y. rest_of_chains bs d ts y.0 y.1 in
    let more : Cond ℕ × ℕ → Read = λ y. rest_of_levels (loosest bs - suc m) (suc m) d ts y.0 y.1 in
    ap (λ (s : Read). s >>= rest) (
    levels_split m (suc (loosest bs - suc m)) 0 (loosest bs - 0) m d ts part i (omega (arith, le)) (omega arith)
    ∙ ap (λ (s : Read). s >>= λ y. rest_of_levels (suc (loosest bs - suc m)) m d ts y.0 y.1) (levels_none m (precedence op) d ts part i (none_below ts i op at) (omega (arith, p)))
    )
    ∙ (bind_assoc (rest_of_level (suc m) m d ts part [] i) more rest
    ∙ (waits m part [] op bs d ts i at p
    ∙ sym (bind_same ((primary d).read ts (i + 1)) _ _ (λ x. of_chain b' bs m part [] op d ts x p o f r))))

-- the same of the stack

pub goes_on : {E : Type 0} (n : ℕ) (op : Op) (start : List Begun) (first : Cond ℕ) (old new : List Begun) (b : Begun) (part : Node ℕ) (r : Result Begun E) → n ≡ precedence op → 0 < precedence op → EndsBelow n start first (reverse old) (view part)
    → n ≤ loosest (reverse old) + 1 → old ≡ new ++ b ∷ [] → precedence b.op < n + 1 → IfOk r (λ b'. b'.first.value ≡ b.first.value) → IfOk r (λ b'. b'.rest.items ≡ b.rest.items ++ (b.op, part) ∷ []) → IfOk r (λ b'. b'.op ≡ op)
    → IfOk r (λ b'. GoesOn op start first (b' ∷ reverse new))
goes_on n op start first old new b part (Err e) is some ends le popped lt f r o = tt
goes_on n op start first old new b part (Ok b') is some ends le popped lt f r o =
    let top = latest_first old new b popped in
    let least : n ≤ loosest (b ∷ reverse new) + 1 = subst (λ (bs : List Begun). n ≤ loosest bs + 1) top le in
    let known = b.joins in
    let m = precedence op - 1 in
    let p : precedence op ≡ suc m = omega (arith, some) in
    let q : precedence b.op ≡ suc m = omega (arith, is, some, least, lt, known) in
    λ d ts i at.
    ends d ts i (rw is (none_below ts i op at))
    ∙ (ap (λ (bs : List Begun). completed bs 0 d ts (view part) i) top
    ∙ goes_on_at b' b (reverse new) m (view part) op d ts i at p q o (ap (λ (x : Node ℕ). view x) f) (ap (λ (l : List (Op × Node ℕ)). map view_part l) r ∙ map-append view_part b.rest.items ((b.op, part) ∷ [])))

pub begins : (n : ℕ) (op : Op) (start : List Begun) (first : Cond ℕ) (old new : List Begun) (b' : Begun) (part : Node ℕ) → n ≡ precedence op → 0 < precedence op → EndsBelow n start first (reverse old) (view part)
    → new ≡ old → n + 1 ≤ loosest (reverse old) + 1 → b'.first.value ≡ part → b'.rest.items ≡ [] → b'.op ≡ op → GoesOn op start first (b' ∷ reverse new)
begins n op start first old new b' part is some ends same le f r o d ts i at =
    let m = precedence op - 1 in
    ends d ts i (rw is (none_below ts i op at))
    ∙ (begins_at b' (reverse old) m (view part) op d ts i at (omega (arith, some)) (omega (arith, is, some, le)) o (ap (λ (x : Node ℕ). view x) f) (ap (λ (l : List (Op × Node ℕ)). map view_part l) r)
    ∙ ap (λ (bs : List Begun). completed_behind (b' ∷ reverse bs) d ts (i + 1)) (sym same))

pub waits_now : (op : Op) (start : List Begun) (first : Cond ℕ) (old new : List Begun) (b : Begun) → new ≡ old ++ b ∷ [] → GoesOn op start first (b ∷ reverse old) → GoesOn op start first (reverse new)
waits_now op start first old new b pushed h = subst (λ (bs : List Begun). GoesOn op start first bs) (sym (latest_first new old b pushed)) h

-- ---- all operators of an expression

-- the first part is read
pub first_read : (d : ℕ) (ts : List Tok) (i : ℕ) (c : Cond ℕ) (j : ℕ) (bs : List Begun) → bs ≡ [] → (primary d).read ts i ≡ Ok (c, j) → completed (reverse bs) 0 d ts c j ≡ (level_parts 6 (primary d)).read ts i
unfolding rest_of_chains
first_read d ts i c j bs none h = rw (none, level_read 6 d ts i, h) (bind_ok (rest_of_levels 6 0 d ts c j))

pub first_fails : (d : ℕ) (ts : List Tok) (i : ℕ) (fault : ReadFault) → Fails fault ((primary d).read ts i) → Fails fault ((level_parts 6 (primary d)).read ts i)
first_fails d ts i faults.Memory h = tt
first_fails d ts i (faults.At e) h = rw (level_read 6 d ts i, h) refl

-- each part takes a token
pub next_behind : (d : ℕ) (ts : List Tok) (i : ℕ) (c : Cond ℕ) (j : ℕ) → (primary d).read ts i ≡ Ok (c, j) → (i < j) × (i ≤ length ts → j ≤ length ts)
next_behind d ts i c j h = advances kind_of (primary d) (primary-exact d) refl ts i c j h

most : (op : Op) → precedence op ≤ 6
most ops.Tilde = omega arith
most ops.Bang = omega arith
most ops.And = omega arith
most ops.Or = omega arith
most ops.Xor = omega arith
most ops.Equal = omega arith
most ops.Unequal = omega arith
most ops.CaseEqual = omega arith
most ops.CaseUnequal = omega arith
most ops.TildeXor = omega arith
most ops.XorTilde = omega arith
most ops.AndAnd = omega arith
most ops.OrOr = omega arith

no_operator : (ts : List Tok) (i : ℕ) → stands kind_of (is_binary_up_to 6) ts i ≡ false → NoneBelow 7 ts i
no_operator ts i none l some lt = go (slice_get ts i) none
  where
    of_op : (op : Op) → is_binary_up_to 6 (operator_kind op) ≡ false → (precedence op == l) ≡ false
    of_op ops.Tilde h = ne_eqb 0 l (λ e. omega (arith, e, some))
    of_op ops.Bang h = ne_eqb 0 l (λ e. omega (arith, e, some))
    of_op ops.And h = absurd cc
    of_op ops.Or h = absurd cc
    of_op ops.Xor h = absurd cc
    of_op ops.Equal h = absurd cc
    of_op ops.Unequal h = absurd cc
    of_op ops.CaseEqual h = absurd cc
    of_op ops.CaseUnequal h = absurd cc
    of_op ops.TildeXor h = absurd cc
    of_op ops.XorTilde h = absurd cc
    of_op ops.AndAnd h = absurd cc
    of_op ops.OrOr h = absurd cc

    go : (o : Option Tok) → is_of kind_of (is_binary_up_to 6) o ≡ false → is_of kind_of (is_binary l) o ≡ false
    go None h = refl
    go (Some (tok.Name n)) h = refl
    go (Some (tok.Index n)) h = refl
    go (Some (tok.Const v)) h = refl
    go (Some tok.Left) h = refl
    go (Some tok.Right) h = refl
    go (Some (tok.Op op)) h = of_op op h

-- where no operator stands next, all chains have ended
pub all_read : (d : ℕ) (ts : List Tok) (i : ℕ) (bs : List Begun) (c : Cond ℕ) (bs' : List Begun) (c' : Cond ℕ) (total : Read) → EndsBelow 7 bs c bs' c' → 7 ≤ loosest bs' + 1 → stands kind_of (is_binary_up_to 6) ts i ≡ false
    → completed bs 0 d ts c i ≡ total → total ≡ Ok (c', i)
unfolding rest_of_chains
all_read d ts i bs c (b ∷ bs') c' total ends le none so_far = absurd (omega (arith, le, most b.op))
all_read d ts i bs c [] c' total ends le none so_far =
    sym so_far ∙ (ends d ts i (no_operator ts i none) ∙ ap (λ (r : Read). r >>= λ y. Ok (y.0, y.1)) (levels_none 6 7 d ts c' i (no_operator ts i none) (omega arith)))
