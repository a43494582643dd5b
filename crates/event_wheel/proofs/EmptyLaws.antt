-- A wheel without nodes.
use Rattle.std.proofs.Common.{◌≡◌, ℕ, zero, suc, ◌<◌, ◌≤◌, List, [], ◌∷◌, length, refl, sym, ◌∙◌, ap, subst, arith, replicate}
use Rattle.std.specs.Prelude.{slice_index_or, map}
use Rattle.std.proofs.lemmas.List.{get_or-replicate, get_or_past, length-replicate}
use Rattle.std.specs.declared.option.Option.{Option}
use Rattle.std.specs.declared.option.Option.TheVariants.{Some, None}
use Rattle.sg_logic.specs.declared.values.Value.{Value}
use Rattle.event_wheel.specs.declared.nodes.Node.{Node}
use Rattle.event_wheel.specs.declared.chains.Ends.{Ends}
use Rattle.event_wheel.specs.Slots.{Held, node_at}
use Rattle.event_wheel.specs.Links.{Store}
use Rattle.event_wheel.specs.Chains.{walk}
use Rattle.event_wheel.specs.Families.{IsIndexed, no_ends, pairs_at}
use Rattle.event_wheel.specs.Kept.{AreChained, bucket_of, driver_of, list_of, table_of}
use Rattle.event_wheel.proofs.IndexLaws.{same_ends}

pub ends-none : (e : Ends) → e.first ≡ None → e.last ≡ None → e ≡ no_ends
ends-none e f l = same_ends e.first None e.last None f l

indexed_none : (m : Store) (b a : ℕ) (home : Node → ℕ) (R : ℕ → ℕ → Type 0) (n : ℕ) → ((k : ℕ) → m k ≡ None) → IsIndexed m b a home R (replicate n no_ends) (λ i. [])
indexed_none m b a home R n none =
    record {
      family = record {
        chain = λ i l. tt;
        distinct = λ i l. tt;
        sound = λ i k l h. absurd h;
        complete = λ k node e. absurd (let x : None ≡ Some node = sym (none k) ∙ e in cc);
      };
      ordered = λ i l. tt;
      ends_are = λ i l. get_or-replicate n i no_ends no_ends (let s = length-replicate n no_ends in omega arith);
    }

node_none : (held : Held) → held.slots ≡ [] → (k : ℕ) → node_at held k ≡ None
node_none held e k = ap (λ (s : List (Option Node)). slice_index_or s k None) e ∙ get_or_past [] k None (omega arith)

pub chained-none : (held : Held) (n d : ℕ) (buckets drivers : List Ends) (near : List (Option ℕ)) (e g : Ends) → held.slots ≡ [] → 0 < n → e ≡ no_ends → g ≡ no_ends → buckets ≡ replicate n e → drivers ≡ replicate d g → near ≡ replicate n None → AreChained held buckets drivers near
chained-none held n d buckets drivers near e g s l ee eg eb ed en =
    let m : Store = node_at held in
    let none : (k : ℕ) → m k ≡ None = node_none held s in
    let b : buckets ≡ replicate n no_ends = eb ∙ ap (replicate n) ee in
    let r : drivers ≡ replicate d no_ends = ed ∙ ap (replicate d) eg in
    record {
      some = (let k : length buckets ≡ n = ap (length {A = Ends}) b ∙ length-replicate n no_ends in omega arith);
      by_time = record { chains = λ i. []; indexed = subst (λ bs. IsIndexed m 0 1 (bucket_of (length bs)) (λ s t. s ≤ t) bs (λ i. [])) (sym b) (indexed_none m 0 1 (bucket_of (length (replicate n no_ends))) (λ s t. s ≤ t) n none) };
      by_driver = record { chains = λ i. []; indexed = subst (λ ds. IsIndexed m 2 3 driver_of (λ s t. s < t) ds (λ i. [])) (sym r) (indexed_none m 2 3 driver_of (λ s t. s < t) d none) };
      as_many = ap (length {A = Option ℕ}) en ∙ (length-replicate n None ∙ sym (ap (length {A = Ends}) b ∙ length-replicate n no_ends));
      near_in = λ i x li g.
          (let k : length buckets ≡ n = ap (length {A = Ends}) b ∙ length-replicate n no_ends in
          let none_at : slice_index_or near i None ≡ None = ap (λ (ns : List (Option ℕ)). slice_index_or ns i None) en ∙ get_or-replicate n i None None (omega arith) in
          let y : None ≡ Some x = sym none_at ∙ g in cc);
    }

map_replicate : (f : Ends → List (ℕ × Value)) (e : Ends) (d : ℕ) → f e ≡ [] → map f (replicate d e) ≡ replicate d []
map_replicate f e zero h = refl
map_replicate f e (suc d) h = ap (λ x. x ∷ map f (replicate d e)) h ∙ ap (λ xs. [] ∷ xs) (map_replicate f e d h)

list_none : (held : Held) → list_of held no_ends ≡ []
list_none held = at (length held.slots)
  where
    at : (n : ℕ) → pairs_at (node_at held) (walk n (node_at held) 3 None) ≡ []
    at zero = refl
    at (suc n) = refl

pub table-none : (held : Held) (d : ℕ) (drivers : List Ends) (g : Ends) → g ≡ no_ends → drivers ≡ replicate d g → table_of held drivers ≡ replicate d []
table-none held d drivers g eg ed = ap (table_of held) (ed ∙ ap (replicate d) eg) ∙ map_replicate (list_of held) no_ends d (list_none held)
