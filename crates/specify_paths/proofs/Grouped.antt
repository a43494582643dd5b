-- Paths by their outputs, with one more path at the end.
use Rattle.std.specs.Prelude.{◌≡◌, ℕ, zero, suc, ◌+◌, ◌==◌, ◌<◌, List, [], ◌∷◌, ◌++◌, Bool, true, false, not, ◌||◌, map, filter, length, slice_index_or, slice_set, refl, if◌then◌else◌}
use Rattle.std.specs.List.{list_any, position_or_len}
use Rattle.std.proofs.lemmas.List.Recursion.{is_position_or_len}
use Rattle.std.proofs.Common.{sym, ◌∙◌, ap, arith, append-nil}
use Rattle.std.proofs.lemmas.List.{map-append, length-map}
use Rattle.std.proofs.lemmas.Bool.{eq-eqb, eqb-true, false≢true}
use Rattle.sg_delay.specs.declared.limits.PulseStyle.{PulseStyle}
use Rattle.specify_paths.specs.declared.grouping.PathOutput as code_output
use Rattle.specify_paths.specs.declared.pairs.ModulePath.{ModulePath}
use Rattle.specify_paths.specs.declared.pairs.PathTo.{PathTo}
use Rattle.specify_paths.specs.Words.{Output, first_to_each, paths_at, output_at, grouped, IsPlaced, with_path, set_at, blank_output, output_kept, outputs_in}

abbrev pub is_in : ℕ → List ℕ → Bool
is_in b ks = list_any (λ k. b == k) ks

-- the place of a number among others, or their length
abbrev pub place_in : ℕ → List ℕ → ℕ
place_in b [] = 0
place_in b (k ∷ ks) = if b == k then 0 else suc (place_in b ks)

pub place-is : (b : ℕ) (ks : List ℕ) → position_or_len (λ k. b == k) ks ≡ place_in b ks
place-is b ks = sym (is_position_or_len (place_in b) (λ k. b == k) refl (λ k ls. ap (λ n. if b == k then 0 else n) (let n : suc (place_in b ls) ≡ 1 + place_in b ls = omega arith in n)) ks)

or-false : (a : Bool) → (a || false) ≡ a
or-false true = refl
or-false false = refl

or-three : (a b c : Bool) → ((a || b) || c) ≡ (b || (a || c))
or-three true true c = refl
or-three true false c = refl
or-three false b c = refl

-- ---- the first path to each

abbrev last_first : List ℕ → List PathTo → PathTo → List PathTo
last_first seen ps p = if is_in p.output seen || is_in p.output (outputs_in (first_to_each seen ps)) then [] else p ∷ []

pub first-more : (seen : List ℕ) (ps : List PathTo) (p : PathTo) → first_to_each seen (ps ++ p ∷ []) ≡ first_to_each seen ps ++ last_first seen ps p
first-more seen [] p = by (is_in p.output seen)
  where
    by : (b : Bool) → (if b then [] else p ∷ []) ≡ (if b || false then [] else p ∷ [])
    by true = refl
    by false = refl
first-more seen (q ∷ ps) p = by (is_in q.output seen) (first-more seen ps p) (first-more (q.output ∷ seen) ps p)
  where
    by : (b : Bool) → first_to_each seen (ps ++ p ∷ []) ≡ first_to_each seen ps ++ last_first seen ps p
        → first_to_each (q.output ∷ seen) (ps ++ p ∷ []) ≡ first_to_each (q.output ∷ seen) ps ++ last_first (q.output ∷ seen) ps p
        → (if b then first_to_each seen (ps ++ p ∷ []) else q ∷ first_to_each (q.output ∷ seen) (ps ++ p ∷ []))
        ≡ (if b then first_to_each seen ps else q ∷ first_to_each (q.output ∷ seen) ps)
        ++ (if is_in p.output seen || is_in p.output (outputs_in (if b then first_to_each seen ps else q ∷ first_to_each (q.output ∷ seen) ps)) then [] else p ∷ [])
    by true h g = h
    by false h g =
        ap (λ xs. q ∷ xs) g
        ∙ ap (λ t. q ∷ (first_to_each (q.output ∷ seen) ps ++ (if t then [] else p ∷ []))) (or-three (p.output == q.output) (is_in p.output seen) (is_in p.output (outputs_in (first_to_each (q.output ∷ seen) ps))))

-- what was seen comes no more
pub seen-gone : (b : ℕ) (seen : List ℕ) (ps : List PathTo) → is_in b seen ≡ true → is_in b (outputs_in (first_to_each seen ps)) ≡ false
seen-gone b seen [] h = refl
seen-gone b seen (q ∷ ps) h = by (is_in q.output seen) refl (seen-gone b seen ps h) (seen-gone b (q.output ∷ seen) ps)
  where
    other : is_in q.output seen ≡ false → (b == q.output) ≡ false
    other e = at (b == q.output) refl
      where
        at : (t : Bool) → (b == q.output) ≡ t → t ≡ false
        at true u = let is : b ≡ q.output = eqb-true b q.output u in let f : true ≡ false = sym h ∙ ap (λ k. is_in k seen) is ∙ e in cc
        at false u = refl

    or-true : (t : Bool) → (t || is_in b seen) ≡ true
    or-true true = refl
    or-true false = h

    by : (t : Bool) → is_in q.output seen ≡ t → is_in b (outputs_in (first_to_each seen ps)) ≡ false
        → ((b == q.output || is_in b seen) ≡ true → is_in b (outputs_in (first_to_each (q.output ∷ seen) ps)) ≡ false)
        → is_in b (outputs_in (if t then first_to_each seen ps else q ∷ first_to_each (q.output ∷ seen) ps)) ≡ false
    by true e g k = g
    by false e g k = ap (λ t. t || is_in b (outputs_in (first_to_each (q.output ∷ seen) ps))) (other e) ∙ k (or-true (b == q.output))

-- an output to which no path is the first has no path
pub none-there : (b : ℕ) (seen : List ℕ) (ps : List PathTo) → is_in b seen ≡ false → is_in b (outputs_in (first_to_each seen ps)) ≡ false → paths_at b ps ≡ []
none-there b seen [] h g = refl
none-there b seen (q ∷ ps) h g = by (is_in q.output seen) refl (b == q.output) refl g (none-there b seen ps h) (none-there b (q.output ∷ seen) ps)
  where
    by : (s : Bool) → is_in q.output seen ≡ s → (t : Bool) → (b == q.output) ≡ t
        → is_in b (outputs_in (if s then first_to_each seen ps else q ∷ first_to_each (q.output ∷ seen) ps)) ≡ false
        → (is_in b (outputs_in (first_to_each seen ps)) ≡ false → paths_at b ps ≡ [])
        → (is_in b (q.output ∷ seen) ≡ false → is_in b (outputs_in (first_to_each (q.output ∷ seen) ps)) ≡ false → paths_at b ps ≡ [])
        → map (λ p. p.path) (if b == q.output then q ∷ filter (λ p. b == p.output) ps else filter (λ p. b == p.output) ps) ≡ []
    by true e true u k same next = let is : b ≡ q.output = eqb-true b q.output u in let f : true ≡ false = sym e ∙ ap (λ n. is_in n seen) (sym is) ∙ h in cc
    by true e false u k same next = ap (λ t. map (λ p. p.path) (if t then q ∷ filter (λ p. b == p.output) ps else filter (λ p. b == p.output) ps)) u ∙ same k
    by false e true u k same next = let f : true ≡ false = sym (ap (λ t. t || is_in b (outputs_in (first_to_each (q.output ∷ seen) ps))) u) ∙ k in cc
    by false e false u k same next =
        ap (λ t. map (λ p. p.path) (if t then q ∷ filter (λ p. b == p.output) ps else filter (λ p. b == p.output) ps)) u
        ∙ next (ap (λ t. t || is_in b seen) u ∙ h) (sym (ap (λ t. t || is_in b (outputs_in (first_to_each (q.output ∷ seen) ps))) u) ∙ k)

pub paths-more : (b : ℕ) (ps : List PathTo) (p : PathTo) → paths_at b (ps ++ p ∷ []) ≡ paths_at b ps ++ (if b == p.output then p.path ∷ [] else [])
paths-more b [] p = by (b == p.output)
  where
    by : (t : Bool) → map (λ q. q.path) (if t then p ∷ [] else []) ≡ (if t then p.path ∷ [] else [])
    by true = refl
    by false = refl
paths-more b (q ∷ ps) p = by (b == q.output) (paths-more b ps p)
  where
    by : (t : Bool) → paths_at b (ps ++ p ∷ []) ≡ paths_at b ps ++ (if b == p.output then p.path ∷ [] else [])
        → map (λ p. p.path) (if t then q ∷ filter (λ p. b == p.output) (ps ++ p ∷ []) else filter (λ p. b == p.output) (ps ++ p ∷ []))
        ≡ map (λ p. p.path) (if t then q ∷ filter (λ p. b == p.output) ps else filter (λ p. b == p.output) ps) ++ (if b == p.output then p.path ∷ [] else [])
    by true h = ap (λ xs. q.path ∷ xs) h
    by false h = h

-- ---- an output that takes one more path

module _ (style : ℕ → PulseStyle) (whole : List PathTo) (p : PathTo) where
  abbrev old : PathTo → Output
  old = output_at style whole

  abbrev new : PathTo → Output
  new = output_at style (whole ++ p ∷ [])

  new-is : (f : PathTo) (t : Bool) → (p.output == f.output) ≡ t → new f ≡ (if t then with_path p.path (old f) else old f)
  new-is f true e =
      let is : f.output ≡ p.output = sym (eqb-true p.output f.output e) in
      let u : (f.output == p.output) ≡ true = eq-eqb f.output p.output is in
      ap (λ l. record { output = f.output; place = f.place; style = style f.output; paths = l }) (paths-more f.output whole p ∙ ap (λ t. paths_at f.output whole ++ (if t then p.path ∷ [] else [])) u)
  new-is f false e = by (f.output == p.output) refl
    where
      by : (t : Bool) → (f.output == p.output) ≡ t → new f ≡ old f
      by true u =
          let is : p.output ≡ f.output = sym (eqb-true f.output p.output u) in
          let g : true ≡ false = sym (eq-eqb p.output f.output is) ∙ e in cc
      by false u =
          ap (λ l. record { output = f.output; place = f.place; style = style f.output; paths = l })
          (paths-more f.output whole p ∙ ap (λ t. paths_at f.output whole ++ (if t then p.path ∷ [] else [])) u ∙ append-nil (paths_at f.output whole))

  -- those with other outputs stay
  others-stay : (fs : List PathTo) → is_in p.output (outputs_in fs) ≡ false → map new fs ≡ map old fs
  others-stay [] h = refl
  others-stay (f ∷ fs) h = by (p.output == f.output) refl h (others-stay fs)
    where
      by : (t : Bool) → (p.output == f.output) ≡ t → (t || is_in p.output (outputs_in fs)) ≡ false → (is_in p.output (outputs_in fs) ≡ false → map new fs ≡ map old fs) → map new (f ∷ fs) ≡ map old (f ∷ fs)
      by true e g rest = cc
      by false e g rest = ap (λ o. o ∷ map new fs) (new-is f false e) ∙ ap (λ os. old f ∷ os) (rest g)

  -- one that is there takes the path
  known-takes : (seen : List ℕ) (ps : List PathTo) → is_in p.output (outputs_in (first_to_each seen ps)) ≡ true
      → set_at (place_in p.output (outputs_in (first_to_each seen ps))) p.path (map old (first_to_each seen ps)) ≡ map new (first_to_each seen ps)
  known-takes seen [] h = cc
  known-takes seen (q ∷ ps) h = by (is_in q.output seen) (known-takes seen ps) (known-takes (q.output ∷ seen) ps) h
    where
      rest : List PathTo
      rest = first_to_each (q.output ∷ seen) ps

      at : (t : Bool) → (p.output == q.output) ≡ t → (t || is_in p.output (outputs_in rest)) ≡ true
          → (is_in p.output (outputs_in rest) ≡ true → set_at (place_in p.output (outputs_in rest)) p.path (map old rest) ≡ map new rest)
          → set_at (place_in p.output (q.output ∷ outputs_in rest)) p.path (old q ∷ map old rest) ≡ new q ∷ map new rest
      at true e g k =
          let there : is_in p.output (q.output ∷ seen) ≡ true = ap (λ t. t || is_in p.output seen) e in
          rw e (ap (λ o. o ∷ map old rest) (sym (new-is q true e)) ∙ ap (λ os. new q ∷ os) (sym (others-stay rest (seen-gone p.output (q.output ∷ seen) ps there))))
      at false e g k = rw e (ap (λ o. o ∷ set_at (place_in p.output (outputs_in rest)) p.path (map old rest)) (sym (new-is q false e)) ∙ ap (λ os. new q ∷ os) (k g))

      by : (s : Bool)
          → (is_in p.output (outputs_in (first_to_each seen ps)) ≡ true → set_at (place_in p.output (outputs_in (first_to_each seen ps))) p.path (map old (first_to_each seen ps)) ≡ map new (first_to_each seen ps))
          → (is_in p.output (outputs_in rest) ≡ true → set_at (place_in p.output (outputs_in rest)) p.path (map old rest) ≡ map new rest)
          → is_in p.output (outputs_in (if s then first_to_each seen ps else q ∷ rest)) ≡ true
          → set_at (place_in p.output (outputs_in (if s then first_to_each seen ps else q ∷ rest))) p.path (map old (if s then first_to_each seen ps else q ∷ rest))
          ≡ map new (if s then first_to_each seen ps else q ∷ rest)
      by true k l g = k g
      by false k l g = at (p.output == q.output) refl g l

-- ---- grouped, with one more path

pub grouped-known : (style : ℕ → PulseStyle) (ps : List PathTo) (p : PathTo) → is_in p.output (outputs_in (first_to_each [] ps)) ≡ true
    → grouped style (ps ++ p ∷ []) ≡ set_at (place_in p.output (outputs_in (first_to_each [] ps))) p.path (grouped style ps)
grouped-known style ps p h =
    ap (map (output_at style (ps ++ p ∷ []))) (first-more [] ps p ∙ ap (λ t. first_to_each [] ps ++ (if t then [] else p ∷ [])) h ∙ append-nil (first_to_each [] ps))
    ∙ sym (known-takes style ps p [] ps h)

pub keys-known : (ps : List PathTo) (p : PathTo) → is_in p.output (outputs_in (first_to_each [] ps)) ≡ true → outputs_in (first_to_each [] (ps ++ p ∷ [])) ≡ outputs_in (first_to_each [] ps)
keys-known ps p h = ap outputs_in (first-more [] ps p ∙ ap (λ t. first_to_each [] ps ++ (if t then [] else p ∷ [])) h ∙ append-nil (first_to_each [] ps))

set-last : (os : List Output) (o : Output) (m : ModulePath) → set_at (length os) m (os ++ o ∷ []) ≡ os ++ with_path m o ∷ []
set-last [] o m = refl
set-last (x ∷ os) o m = ap (λ xs. x ∷ xs) (set-last os o m)

pub grouped-new : (style : ℕ → PulseStyle) (ps : List PathTo) (p : PathTo) → is_in p.output (outputs_in (first_to_each [] ps)) ≡ false
    → grouped style (ps ++ p ∷ []) ≡ set_at (length (grouped style ps)) p.path (grouped style ps ++ blank_output style p ∷ [])
grouped-new style ps p h =
    let fs = first_to_each [] ps in
    let g = output_at style (ps ++ p ∷ []) in
    let self : (p.output == p.output) ≡ true = eq-eqb p.output p.output refl in
    let alone : paths_at p.output (ps ++ p ∷ []) ≡ p.path ∷ [] =
    paths-more p.output ps p ∙ ap (λ xs. xs ++ (if p.output == p.output then p.path ∷ [] else [])) (none-there p.output [] ps refl h) ∙ ap (λ t. if t then p.path ∷ [] else []) self in
    ap (map g) (first-more [] ps p ∙ ap (λ t. fs ++ (if t then [] else p ∷ [])) h) ∙ map-append g fs (p ∷ [])
    ∙ ap (λ os. os ++ g p ∷ []) (others-stay style ps p fs h)
    ∙ ap (λ l. grouped style ps ++ record { output = p.output; place = p.place; style = style p.output; paths = l } ∷ []) alone
    ∙ sym (set-last (grouped style ps) (blank_output style p) p.path)

pub keys-new : (ps : List PathTo) (p : PathTo) → is_in p.output (outputs_in (first_to_each [] ps)) ≡ false → outputs_in (first_to_each [] (ps ++ p ∷ [])) ≡ outputs_in (first_to_each [] ps) ++ p.output ∷ []
keys-new ps p h = ap outputs_in (first-more [] ps p ∙ ap (λ t. first_to_each [] ps ++ (if t then [] else p ∷ [])) h) ∙ map-append (λ q. q.output) (first_to_each [] ps) (p ∷ [])

-- ---- as the code places it

is-there : (t b : Bool) → t ≡ not b → t ≡ false → b ≡ true
is-there t true e h = refl
is-there t false e h = let f : true ≡ false = sym e ∙ h in cc

isnt-there : (t b : Bool) → t ≡ not b → t ≡ true → b ≡ false
isnt-there t true e h = let f : false ≡ true = sym e ∙ h in cc
isnt-there t false e h = refl

-- an output that was there
pub placed-known : (style : ℕ → PulseStyle) (ps : List PathTo) (p : PathTo) (at : ℕ) (old new : List ℕ) (os : List Output) (t : Bool) → old ≡ outputs_in (first_to_each [] ps) → os ≡ grouped style ps
    → t ≡ not (is_in p.output old) → t ≡ false → at ≡ position_or_len (λ k. p.output == k) old → new ≡ (if is_in p.output old then old else old ++ p.output ∷ []) → IsPlaced style ps p at new os
placed-known style ps p at old new os t keys group e is place grown =
    let there : is_in p.output old ≡ true = is-there t (is_in p.output old) e is in
    let known : is_in p.output (outputs_in (first_to_each [] ps)) ≡ true = ap (is_in p.output) (sym keys) ∙ there in
    record {
      keys_are = grown ∙ ap (λ b. if b then old else old ++ p.output ∷ []) there ∙ keys ∙ sym (keys-known ps p known);
      taking =
          ap (λ n. set_at n p.path os) (place ∙ place-is p.output old ∙ ap (place_in p.output) keys) ∙ ap (set_at (place_in p.output (outputs_in (first_to_each [] ps))) p.path) group ∙ sym (grouped-known style ps p known);
    }

not-there : (b : ℕ) (ks : List ℕ) → is_in b ks ≡ false → place_in b ks ≡ length ks
not-there b [] h = refl
not-there b (k ∷ ks) h = by (b == k) h (not-there b ks)
  where
    by : (t : Bool) → (t || is_in b ks) ≡ false → (is_in b ks ≡ false → place_in b ks ≡ length ks) → (if t then 0 else suc (place_in b ks)) ≡ suc (length ks)
    by true h rest = cc
    by false h rest = ap suc (rest h)

-- a new one
pub placed-new : (style : ℕ → PulseStyle) (ps : List PathTo) (p : PathTo) (at : ℕ) (old new : List ℕ) (os more : List Output) (t : Bool) → old ≡ outputs_in (first_to_each [] ps) → os ≡ grouped style ps
    → t ≡ not (is_in p.output old) → t ≡ true → at ≡ position_or_len (λ k. p.output == k) old → new ≡ (if is_in p.output old then old else old ++ p.output ∷ []) → more ≡ os ++ blank_output style p ∷ []
    → IsPlaced style ps p at new more
placed-new style ps p at old new os more t keys group e is place grown added =
    let absent : is_in p.output old ≡ false = isnt-there t (is_in p.output old) e is in
    let new_one : is_in p.output (outputs_in (first_to_each [] ps)) ≡ false = ap (is_in p.output) (sym keys) ∙ absent in
    let count : length old ≡ length (grouped style ps) = ap length keys ∙ length-map (first_to_each [] ps) (λ q. q.output) ∙ sym (length-map (first_to_each [] ps) (output_at style ps)) in
    record {
      keys_are = grown ∙ ap (λ b. if b then old else old ++ p.output ∷ []) absent ∙ ap (λ ks. ks ++ p.output ∷ []) keys ∙ sym (keys-new ps p new_one);
      taking =
          ap (λ n. set_at n p.path more) (place ∙ place-is p.output old ∙ not-there p.output old absent ∙ count)
          ∙ ap (set_at (length (grouped style ps)) p.path) (added ∙ ap (λ xs. xs ++ blank_output style p ∷ []) group) ∙ sym (grouped-new style ps p new_one);
    }

-- ---- the code's outputs

pub one-set : (os : List code_output.PathOutput) (i : ℕ) (x y : code_output.PathOutput) (p : ModulePath) → i < length os → x ≡ slice_index_or os i x → output_kept y ≡ with_path p (output_kept x)
    → map output_kept (slice_set os i y) ≡ set_at i p (map output_kept os)
one-set [] i x y p lt at e = absurd (omega (arith, lt))
one-set (o ∷ os) zero x y p lt at e = ap (λ k. k ∷ map output_kept os) (e ∙ ap (λ z. with_path p (output_kept z)) at)
one-set (o ∷ os) (suc i) x y p lt at e = ap (λ ks. output_kept o ∷ ks) (one-set os i x y p (omega (arith, lt)) at e)

none-past : (os : List code_output.PathOutput) (i : ℕ) (p : ModulePath) → (i < length os → ⊥) → map output_kept os ≡ set_at i p (map output_kept os)
none-past [] i p h = refl
none-past (o ∷ os) zero p h = absurd (h (omega arith))
none-past (o ∷ os) (suc i) p h = ap (λ ks. output_kept o ∷ ks) (none-past os i p (λ lt. h (omega (arith, lt))))

pub none-set : (os : List code_output.PathOutput) (n i : ℕ) (p : ModulePath) → n ≡ length os → (i < n → false ≡ true) → map output_kept os ≡ set_at i p (map output_kept os)
none-set os n i p count h = none-past os i p (λ lt. false≢true (h (omega (arith, lt, count))))
