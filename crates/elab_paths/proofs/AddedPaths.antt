-- Paths over nets that come behind others.
use Rattle.std.specs.Prelude.{◌≡◌, ℕ, zero, suc, ◌+◌, ◌-◌, ◌<◌, ◌≤◌, List, [], ◌∷◌, ◌++◌, Option, length, map, slice_index_or, take, refl}
use Rattle.std.specs.List.{AllByRecursion}
use Rattle.std.proofs.Common.{sym, ◌∙◌, ap, arith, subst, append_assoc, length-append}
use Rattle.std.proofs.lemmas.List.{append-nil, get_or-map, length-map, map-append, take_all, take_more}
use Rattle.cond_expr.specs.Condition.{Condition}
use Rattle.sg_circuit.specs.PathsSeen.{condition_seen, path_seen, paths_seen, IsIndexedCondition, IsIndexedPath}
use Rattle.sg_circuit.specs.TimingsSeen.{timings_at}
use Rattle.sg_circuit.specs.declared.elements.LegTiming.{LegTiming}
use Rattle.sg_circuit.specs.declared.paths.Path.{Path}
use Rattle.sg_circuit.specs.Paths as circuit
use Rattle.sg_circuit.specs.Timings.{Timing}
use Rattle.sg_logic.specs.declared.edges.Edge.{Edge}
use Rattle.sg_text.specs.declared.refusals.Refused.{Refused}
use Rattle.elab_model.specs.Names.{Variable}
use Rattle.elab_model.specs.declared.kinds.ElabKind.{ElabKind}
use Rattle.specify_model.specs.Paths.{circuit_condition, circuit_path}
use Rattle.elab_model.specs.Terms.{NetBit}
use Rattle.elab_laws.specs.Handing.{all_bits}
use Rattle.elab_laws.proofs.Lists.{all-append}
use Rattle.elab_bits.proofs.InRow.{blank}
use Rattle.elab_numbering.specs.Refusals.{RefusesCount}
use Rattle.elab_ends.specs.Seen.{bit_seen}
use Rattle.elab_paths.specs.Ready.{condition_ready, path_ready}
use Rattle.elab_paths.specs.Uses.{IsRow, AddsPaths, AddsUse}
use Rattle.elab_paths.specs.declared.shelving.ReadyOutput.{ReadyOutput}
use Rattle.elab_paths.specs.declared.shelving.ReadyPath.{ReadyPath}
use Rattle.elab_paths.specs.declared.uses.PathUse.{PathUse}
use Rattle.elab_paths.specs.declared.uses.PathUses.{PathUses}

-- the net at a place of a row
pub net-in-row : (vs : List Variable) (row : List ℕ) (net : NetBit → ℕ) (i d : ℕ) → IsRow vs row net → i < length (all_bits vs) → slice_index_or row i d ≡ net (bit_seen vs i)
net-in-row vs row net i d h lt =
    ap (λ xs. slice_index_or xs i d) h ∙ get_or-map (λ b. net (record { name = b.0.name; position = b.1 })) (all_bits vs) i (blank, 0) d lt

-- a row has a net for each bit
pub row-long : (vs : List Variable) (row : List ℕ) (net : NetBit → ℕ) → IsRow vs row net → length row ≡ length (all_bits vs)
row-long vs row net h = ap length h ∙ length-map (all_bits vs) (λ b. net (record { name = b.0.name; position = b.1 }))

pub adds-none : (conditions : List Condition) (vs : List Variable) (row : List ℕ) (old : List Path) → AddsPaths conditions vs row [] old old
adds-none conditions vs row old = record { added = []; are = sym (append-nil old); seen = λ net timings h. refl; indexed = λ timings h. tt }

pub adds-then : (conditions : List Condition) (vs : List Variable) (row : List ℕ) (ps qs : List ReadyPath) (a b c : List Path) → AddsPaths conditions vs row ps a b → AddsPaths conditions vs row qs b c
    → AddsPaths conditions vs row (ps ++ qs) a c
adds-then conditions vs row ps qs a b c h k =
    record {
      added = h.added ++ k.added;
      are = k.are ∙ ap (λ xs. xs ++ k.added) h.are ∙ append_assoc a h.added k.added;
      seen = λ net timings r.
          map-append (path_seen conditions timings) h.added k.added
          ∙ ap (λ xs. xs ++ paths_seen conditions timings k.added) (h.seen net timings r)
          ∙ ap (λ xs. map (λ p. circuit_path net (path_ready timings conditions vs p)) ps ++ xs) (k.seen net timings r)
          ∙ sym (map-append (λ p. circuit_path net (path_ready timings conditions vs p)) ps qs);
      indexed = λ timings lt.
          all-append (IsIndexedPath (length conditions) timings) h.added k.added (h.indexed timings (all-front (λ p. p.timing < timings) ps qs lt)) (k.indexed timings (all-behind (λ p. p.timing < timings) ps qs lt));
    }
  where
    all-front : {A : Type 0} (P : A → Type 0) (xs ys : List A) → AllByRecursion P (xs ++ ys) → AllByRecursion P xs
    all-front P [] ys h = tt
    all-front P (x ∷ xs) ys h = (h.0, all-front P xs ys h.1)

    all-behind : {A : Type 0} (P : A → Type 0) (xs ys : List A) → AllByRecursion P (xs ++ ys) → AllByRecursion P ys
    all-behind P [] ys h = h
    all-behind P (x ∷ xs) ys h = all-behind P xs ys h.1

abbrev path-of : ℕ → Option Edge → circuit.PathCondition → List Timing → circuit.Path
path-of i e k ts = record { input = i; edge = e; condition = k; timings = ts }

-- one path
pub one-added : (conditions : List Condition) (vs : List Variable) (row : List ℕ) (p : ReadyPath) (old new : List Path) (q : Path) → new ≡ old ++ q ∷ [] → q.input ≡ slice_index_or row p.input q.input
    → q.edge ≡ p.edge → ((net : NetBit → ℕ) → IsRow vs row net → condition_seen conditions q.condition ≡ circuit_condition net (condition_ready conditions vs p.condition)) → q.timing ≡ p.timing
    → IsIndexedCondition (length conditions) q.condition → p.input < length (all_bits vs) → AddsPaths conditions vs row (p ∷ []) old new
one-added conditions vs row p old new q more input edge condition timing indexed lt =
    record {
      added = q ∷ [];
      are = more;
      seen = λ net timings r. ap (λ x. x ∷ [])
          (same conditions timings (circuit_path net (path_ready timings conditions vs p)) q (input ∙ net-in-row vs row net p.input q.input r lt) edge (condition net r) (ap (timings_at timings) timing));
      indexed = λ timings h. (record { condition = indexed; timing = subst (λ t. t < timings) (sym timing) h.0 }, tt);
    }
  where
    same : (conditions : List Condition) (timings : List LegTiming) (c : circuit.Path) (q : Path) → q.input ≡ c.input → q.edge ≡ c.edge → condition_seen conditions q.condition ≡ c.condition
        → timings_at timings q.timing ≡ c.timings → path_seen conditions timings q ≡ c
    same conditions timings c q a b d e =
        ap (λ i. path-of i q.edge (condition_seen conditions q.condition) (timings_at timings q.timing)) a
        ∙ ap (λ x. path-of c.input x (condition_seen conditions q.condition) (timings_at timings q.timing)) b
        ∙ ap (λ k. path-of c.input c.edge k (timings_at timings q.timing)) d
        ∙ ap (path-of c.input c.edge c.condition) e

-- so many paths of a list, and one more
pub next-added : (conditions : List Condition) (vs : List Variable) (row : List ℕ) (ps : List ReadyPath) (i : ℕ) (d : ReadyPath) (start old new : List Path) → i < length ps
    → AddsPaths conditions vs row (take i ps) start old → AddsPaths conditions vs row (slice_index_or ps i d ∷ []) old new → AddsPaths conditions vs row (take (i + 1) ps) start new
next-added conditions vs row ps i d start old new lt h k =
    subst (λ qs. AddsPaths conditions vs row qs start new) (sym (take_more ps i d lt)) (adds-then conditions vs row (take i ps) (slice_index_or ps i d ∷ []) start old new h k)

pub all-added : (conditions : List Condition) (vs : List Variable) (row : List ℕ) (ps : List ReadyPath) (i : ℕ) (start new : List Path) → length ps ≤ i → AddsPaths conditions vs row (take i ps) start new
    → AddsPaths conditions vs row ps start new
all-added conditions vs row ps i start new le h = subst (λ qs. AddsPaths conditions vs row qs start new) (take_all i ps le) h

-- how many paths there are then
pub added-count : (conditions : List Condition) (vs : List Variable) (row : List ℕ) (net : NetBit → ℕ) (ps : List ReadyPath) (old new : List Path) → IsRow vs row net → AddsPaths conditions vs row ps old new
    → length new ≡ length old + length ps
added-count conditions vs row net ps old new r h =
    let seen = h.seen net [] r in
    let e : length h.added ≡ length ps =
    sym (length-map h.added (path_seen conditions [])) ∙ ap length seen ∙ length-map ps (λ p. circuit_path net (path_ready [] conditions vs p)) in
    ap length h.are ∙ length-append old h.added ∙ ap (λ n. length old + n) e

length-taken : {A : Type 0} (n : ℕ) (xs : List A) → n ≤ length xs → length (take n xs) ≡ n
length-taken zero xs le = refl
length-taken (suc n) [] le = absurd (omega (arith, le))
length-taken (suc n) (x ∷ xs) le = ap suc (length-taken n xs (omega (arith, le)))

-- what one path refuses, the list refuses
pub path-refused : (conditions : List Condition) (vs : List Variable) (row : List ℕ) (net : NetBit → ℕ) (ps : List ReadyPath) (i : ℕ) (start old : List Path) (r : Refused ElabKind) (total : ℕ) → IsRow vs row net → i < length ps
    → AddsPaths conditions vs row (take i ps) start old → ((more : ℕ) → RefusesCount (length old + 1 + more) r) → length start + length ps ≤ total → RefusesCount total r
path-refused conditions vs row net ps i start old r total h lt k f le =
    let c = added-count conditions vs row net (take i ps) start old h k in
    let n : length (take i ps) ≡ i = length-taken i ps (omega (arith, lt)) in
    let e : length old + 1 + (total - (length old + 1)) ≡ total = omega (arith, c, n, lt, le) in
    subst (λ m. RefusesCount m r) e (f (total - (length old + 1)))

-- ---- one use

pub use-added : (conditions : List Condition) (vs : List Variable) (row : List ℕ) (o : ReadyOutput) (old new : PathUses) (u : PathUse) → new.uses.items ≡ old.uses.items ++ u ∷ []
    → AddsPaths conditions vs row o.paths.items old.paths.items new.paths.items → u.paths.start ≡ length old.paths.items → u.paths.end ≡ length new.paths.items → u.style ≡ o.style
    → AddsUse conditions vs row o old new
use-added conditions vs row o old new u uses paths start-is end-is style-is = record { added = u; uses = uses; paths = paths; start_is = start-is; end_is = end-is; style_is = style-is }
