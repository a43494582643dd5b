-- Bits that are marked and added, one after another.
use Rattle.std.specs.Prelude.{◌≡◌, ℕ, ◌+◌, ◌<◌, ◌≤◌, ◌==◌, List, [], ◌∷◌, ◌++◌, Bool, true, false, ◌||◌, Some, filter, flat_map, length, map, refl, slice_index_or, slice_set, take, if◌then◌else◌}
use Rattle.std.specs.Borrow.{Bor}
use Rattle.std.specs.List.{AllByRecursion}
use Rattle.std.proofs.Common.{arith, sym, ◌∙◌, ap, subst, append_assoc, append-nil}
use Rattle.std.proofs.lemmas.Bool.{eq-eqb, eqb-true}
use Rattle.std.proofs.lemmas.List.{get_or-set_other, get_or-set_same, length-set, map-append, map_more, take_all}
use Rattle.std.proofs.lemmas.List.Elements.{All-from_recursion, All-push, filter-append}
use Rattle.std.proofs.lemmas.List.Folds.{list_any-append}
use Rattle.std.proofs.lemmas.Option.{get_or_from_slice_get, slice_get-get_or}
use Rattle.vl_tree.specs.declared.paths.SpecifyPath as code_path
use Rattle.vl_tree.specs.Seen.{view_path}
use Rattle.vl_tree.specs.Tree.{Module}
use Rattle.elab_bits.specs.Seen.{bit_at}
use Rattle.elab_laws.specs.Handing.{all_bits, variable_bits}
use Rattle.elab_laws.proofs.Ends.{bits-decide, is_one_of, first_bits-append}
use Rattle.elab_laws.proofs.Lists.{all-anyway, all-append, all-map}
use Rattle.elab_model.specs.Bits.{positions}
use Rattle.elab_model.specs.Ends.{ends, first_bits}
use Rattle.elab_model.specs.Homes.{is_output}
use Rattle.elab_model.specs.Names.{Variable, variable, variables, variable_names}
use Rattle.elab_model.specs.Terms.{NetBit, is_same_bit, path_pairs}
use Rattle.elab_variables.specs.Seen.{view_member}
use Rattle.elab_variables.specs.declared.member_list.Member as code_member
use Rattle.elab_variables.specs.declared.member_list.Member.TheVariants as member
use Rattle.elab_ends.specs.Seen.{AreInRow, bit_seen, bits_seen}
use Rattle.elab_ends.specs.Words.{AreAlike, HasAdded, HasSeen, LeadsTo, is_of_output}
use Rattle.elab_ends.proofs.RowBits.{places-apart}

-- ---- a bit is an output's where its variable in the row is

own-bits : (m : Module) (ns : List (List ℕ)) → AllByRecursion (λ x. variable m x.0.name ≡ x.0) (flat_map variable_bits (map (variable m) ns))
own-bits m [] = tt
own-bits m (n ∷ ns) =
    let P : Variable × ℕ → Type 0 = λ x. variable m x.0.name ≡ x.0 in
    let v : Variable = variable m n in
    all-append P (variable_bits v) (flat_map variable_bits (map (variable m) ns)) (all-map P (λ p. (v, p)) (positions v.range) (all-anyway (λ p. P (v, p)) (positions v.range) (λ p. refl))) (own-bits m ns)

pub output-seen : (m : Module) (i : ℕ) → i < length (all_bits (variables m)) → is_of_output m (bit_seen (variables m) i) ≡ is_output (bit_at (variables m) i).0.port
output-seen m i lt = ap (λ (v : Variable). is_output v.port) (All-from_recursion (λ (x : Variable × ℕ). variable m x.0.name ≡ x.0) (all_bits (variables m)) (own-bits m (variable_names m)) i _ lt)

-- ---- one bit more

or-true : (x : Bool) → true ≡ (x || true)
or-true true = refl
or-true false = refl

or-false : (x : Bool) → x ≡ (x || false)
or-false true = refl
or-false false = refl

pub marked-as : (m : Module) (seen : List Bool) (xs ys : List NetBit) → ((b : NetBit) → is_one_of b xs ≡ is_one_of b ys) → HasSeen m seen xs → HasSeen m seen ys
marked-as m seen xs ys e h = λ i lt. h i lt ∙ ap Some (e (bit_seen (variables m) i))

module _ (m : Module) (before bs : List NetBit) where
  one-of : (b c : NetBit) → is_one_of c (before ++ (bs ++ b ∷ [])) ≡ (is_one_of c (before ++ bs) || (is_same_bit c b || false))
  one-of b c = ap (is_one_of c) (sym (append_assoc before bs (b ∷ []))) ∙ list_any-append (is_same_bit c) (before ++ bs) (b ∷ [])

  first-of : (b : NetBit) (t : Bool) → is_one_of b (before ++ bs) ≡ t → first_bits before bs ++ (if t then [] else b ∷ []) ≡ first_bits before (bs ++ b ∷ [])
  first-of b t e = ap (λ t. first_bits before bs ++ (if t then [] else b ∷ [])) (sym e) ∙ sym (first_bits-append before bs (b ∷ []))

  -- one that was seen adds nothing
  seen-again : (b : NetBit) → is_one_of b (before ++ bs) ≡ true → (seen : List Bool) (old bits : List ℕ) → HasAdded m bs before seen old bits → HasAdded m (bs ++ b ∷ []) before seen old bits
  seen-again b e seen old bits h = record {
    marked = marked-as m seen (before ++ bs) (before ++ (bs ++ b ∷ [])) (λ c. absorbed c (is_same_bit c b) refl ∙ sym (one-of b c)) h.marked;
    bits = h.bits ∙ ap (λ cs. bits_seen (variables m) old ++ cs) (sym (append-nil (first_bits before bs)) ∙ first-of b true e);
  }
    where
      absorbed : (c : NetBit) (x : Bool) → is_same_bit c b ≡ x → is_one_of c (before ++ bs) ≡ (is_one_of c (before ++ bs) || (x || false))
      absorbed c true f = let g : is_one_of c (before ++ bs) ≡ true = ap (λ d. is_one_of d (before ++ bs)) (bits-decide c b f) ∙ e in g ∙ or-true (is_one_of c (before ++ bs))
      absorbed c false f = or-false (is_one_of c (before ++ bs))

  -- a new one is marked and added
  module _ (p : ℕ) (within : p < length (all_bits (variables m))) where
    abbrev b : NetBit
    b = bit_seen (variables m) p

    marked-at : (seen : List Bool) → length seen ≡ length (all_bits (variables m)) → HasSeen m seen (before ++ bs) → (i : ℕ) → i < length (all_bits (variables m)) → (t : Bool) → (i == p) ≡ t
        → slice_index_or (slice_set seen p true) i true ≡ is_one_of (bit_seen (variables m) i) (before ++ (bs ++ b ∷ []))
    marked-at seen room h i lt true f =
        let same : is_same_bit (bit_seen (variables m) i) b ≡ true = places-apart m i p lt within ∙ f in
        let here : i ≡ p = eqb-true i p f in
        ap (λ k. slice_index_or (slice_set seen p true) k true) here ∙ get_or-set_same seen p true true (omega (arith, room, within))
        ∙ or-true (is_one_of (bit_seen (variables m) i) (before ++ bs)) ∙ ap (λ x. is_one_of (bit_seen (variables m) i) (before ++ bs) || (x || false)) (sym same) ∙ sym (one-of b (bit_seen (variables m) i))
    marked-at seen room h i lt false f =
        let other : is_same_bit (bit_seen (variables m) i) b ≡ false = places-apart m i p lt within ∙ f in
        get_or-set_other seen p i true true (not-same f) ∙ get_or_from_slice_get seen i _ true (h i lt)
        ∙ or-false (is_one_of (bit_seen (variables m) i) (before ++ bs)) ∙ ap (λ x. is_one_of (bit_seen (variables m) i) (before ++ bs) || (x || false)) (sym other) ∙ sym (one-of b (bit_seen (variables m) i))
      where
        not-same : (i == p) ≡ false → i ≡ p → ⊥
        not-same g e = let t : (i == p) ≡ true = eq-eqb i p e in cc

    seen-first : is_one_of b (before ++ bs) ≡ false → (seen : List Bool) (old bits new : List ℕ) → length seen ≡ length (all_bits (variables m)) → new ≡ bits ++ p ∷ [] → HasAdded m bs before seen old bits
        → HasAdded m (bs ++ b ∷ []) before (slice_set seen p true) old new
    seen-first e seen old bits new room more h = record {
      marked = λ i lt. slice_get-get_or (slice_set seen p true) i true (subst (λ n. i < n) (sym (length-set seen p true ∙ room)) lt) ∙ ap Some (marked-at seen room h.marked i lt (i == p) refl);
      bits =
          ap (bits_seen (variables m)) more ∙ map-append (bit_seen (variables m)) bits (p ∷ []) ∙ ap (λ cs. cs ++ b ∷ []) h.bits ∙ append_assoc (bits_seen (variables m) old) (first_bits before bs) (b ∷ [])
          ∙ ap (λ cs. bits_seen (variables m) old ++ cs) (first-of b false e);
    }

-- ---- the next place

module _ (m : Module) (before : List NetBit) (places : List ℕ) (k d : ℕ) (lt : k < length places) (row : AreInRow (variables m) places) where
  abbrev outputs : ℕ → List NetBit
  outputs n = filter (is_of_output m) (bits_seen (variables m) (take n places))

  abbrev place : ℕ
  place = slice_index_or places k d

  within : place < length (all_bits (variables m))
  within = row k d lt

  abbrev next : Bool → List NetBit
  next t = outputs k ++ (if t then bit_seen (variables m) place ∷ [] else [])

  more-outputs : (t : Bool) → is_of_output m (bit_seen (variables m) place) ≡ t → next t ≡ outputs (k + 1)
  more-outputs t e =
      ap next (sym e) ∙ sym (filter-append (is_of_output m) (bits_seen (variables m) (take k places)) (bit_seen (variables m) place ∷ []))
      ∙ ap (filter (is_of_output m)) (sym (map_more (bit_seen (variables m)) places k d lt))

  mark-is : (seen : List Bool) (old bits : List ℕ) → HasAdded m (outputs k) before seen old bits → (e : Bool) → slice_index_or seen place e ≡ is_one_of (bit_seen (variables m) place) (before ++ outputs k)
  mark-is seen old bits h e = get_or_from_slice_get seen place _ e (h.marked place within)

  pub passed-inner : is_output (bit_at (variables m) place).0.port ≡ false → (seen : List Bool) (old bits : List ℕ) → HasAdded m (outputs k) before seen old bits → HasAdded m (outputs (k + 1)) before seen old bits
  passed-inner e seen old bits h = subst (λ bs. HasAdded m bs before seen old bits) (sym (append-nil (outputs k)) ∙ more-outputs false (output-seen m place within ∙ e)) h

  pub passed-seen : (seen : List Bool) (e : Bool) → slice_index_or seen place e ≡ true → (old bits : List ℕ) → HasAdded m (outputs k) before seen old bits → HasAdded m (outputs (k + 1)) before seen old bits
  passed-seen seen e is old bits h = by (is_of_output m (bit_seen (variables m) place)) refl
    where
      by : (t : Bool) → is_of_output m (bit_seen (variables m) place) ≡ t → HasAdded m (outputs (k + 1)) before seen old bits
      by true t = subst (λ bs. HasAdded m bs before seen old bits) (more-outputs true t) (seen-again m before (outputs k) (bit_seen (variables m) place) (sym (mark-is seen old bits h e) ∙ is) seen old bits h)
      by false t = subst (λ bs. HasAdded m bs before seen old bits) (sym (append-nil (outputs k)) ∙ more-outputs false t) h

  pub one-added : is_output (bit_at (variables m) place).0.port ≡ true → (seen : List Bool) (e : Bool) → slice_index_or seen place e ≡ false → (old bits new : List ℕ) → length seen ≡ length (all_bits (variables m))
      → new ≡ bits ++ place ∷ [] → HasAdded m (outputs k) before seen old bits → HasAdded m (outputs (k + 1)) before (slice_set seen place true) old new
  one-added o seen e is old bits new room more h =
      subst (λ bs. HasAdded m bs before (slice_set seen place true) old new) (more-outputs true (output-seen m place within ∙ o))
      (seen-first m before (outputs k) place within (sym (mark-is seen old bits h e) ∙ is) seen old bits new room more h)

-- ---- what a loop over the places keeps

module _ (vs : List Variable) (places : List ℕ) (start : List Bool) (old : List ℕ) where
  abbrev pub Marked : ℕ → List Bool → List ℕ → Type 0
  Marked k seen bits =
      (length seen ≡ length (all_bits vs)) × (AreInRow vs old → AreInRow vs bits)
      × ((m : Module) (before : List NetBit) → vs ≡ variables m → HasSeen m start before → HasAdded m (filter (is_of_output m) (bits_seen (variables m) (take k places))) before seen old bits)

  module _ (k d : ℕ) (lt : k < length places) (row : AreInRow vs places) (seen : List Bool) (bits : List ℕ) (h : Marked k seen bits) where
    abbrev at : ℕ
    at = slice_index_or places k d

    port-in : (m : Module) (t : Bool) → vs ≡ variables m → is_output (bit_at vs at).0.port ≡ t → is_output (bit_at (variables m) at).0.port ≡ t
    port-in m t e o = subst (λ ws. is_output (bit_at ws at).0.port ≡ t) e o

    pub marked-inner : is_output (bit_at vs at).0.port ≡ false → Marked (k + 1) seen bits
    marked-inner o = (h.0, h.1, λ m before e s. passed-inner m before places k d lt (subst (λ ws. AreInRow ws places) e row) (port-in m false e o) seen old bits (h.2 m before e s))

    pub marked-seen : (e : Bool) → slice_index_or seen at e ≡ true → Marked (k + 1) seen bits
    marked-seen f is = (h.0, h.1, λ m before e s. passed-seen m before places k d lt (subst (λ ws. AreInRow ws places) e row) seen f is old bits (h.2 m before e s))

    pub marked-more : is_output (bit_at vs at).0.port ≡ true → (e : Bool) → slice_index_or seen at e ≡ false → (new : List ℕ) → new ≡ bits ++ at ∷ [] → Marked (k + 1) (slice_set seen at true) new
    marked-more o f is new more = (
      length-set seen at true ∙ h.0,
      λ r. subst (AreInRow vs) (sym more) (All-push (λ i. i < length (all_bits vs)) bits at (h.1 r) (row k d lt)),
      λ m before e s.
          one-added m before places k d lt (subst (λ ws. AreInRow ws places) e row) (port-in m true e o) seen f is old bits new (h.0 ∙ ap (λ ws. length (all_bits ws)) e) more (h.2 m before e s),
    )

-- at the end all places were
pub all-marked : (vs : List Variable) (places : List ℕ) (start : List Bool) (old : List ℕ) (k : ℕ) (seen : List Bool) (bits : List ℕ) → length places ≤ k → Marked vs places start old k seen bits → (m : Module) (before : List NetBit)
    → vs ≡ variables m → HasSeen m start before → HasAdded m (filter (is_of_output m) (bits_seen vs places)) before seen old bits
all-marked vs places start old k seen bits le h m before e s =
    subst (λ ws. HasAdded m (filter (is_of_output m) (bits_seen ws places)) before seen old bits) (sym e)
    (subst (λ ps. HasAdded m (filter (is_of_output m) (bits_seen (variables m) ps)) before seen old bits) (take_all k places le) (h.2 m before e s))

-- ---- none, and others that are alike

pub none-added : (m : Module) (before : List NetBit) (seen : List Bool) (old new : List ℕ) → new ≡ old → HasSeen m seen before → HasAdded m [] before seen old new
none-added m before seen old new e h = record {
  marked = subst (HasSeen m seen) (sym (append-nil before)) h;
  bits = ap (bits_seen (variables m)) e ∙ sym (append-nil (bits_seen (variables m) old));
}

pub alike-added : (m : Module) (xs ys before : List NetBit) (seen : List Bool) (old new : List ℕ) → AreAlike xs ys → HasAdded m ys before seen old new → HasAdded m xs before seen old new
alike-added m xs ys before seen old new a h = record {
  marked = marked-as m seen (before ++ ys) (before ++ xs)
      (λ b. list_any-append (is_same_bit b) before ys ∙ ap (λ t. is_one_of b before || t) (sym (a.same b)) ∙ sym (list_any-append (is_same_bit b) before xs)) h.marked;
  bits = h.bits ∙ ap (λ bs. bits_seen (variables m) old ++ bs) (sym (a.firsts before));
}

-- the bits of a path are its member's ends
pub path-added : (vs : List Variable) (m : Module) (x : code_member.Member) (p : Bor code_path.SpecifyPath) (places now : List ℕ) (before : List NetBit) (seen : List Bool) (old new : List ℕ) → x ≡ member.Path p
    → LeadsTo vs (view_path p.now) (bits_seen vs places) → now ≡ places → vs ≡ variables m → HasAdded m (filter (is_of_output m) (bits_seen vs now)) before seen old new
    → HasAdded m (ends m (view_member x)) before seen old new
path-added vs m x p places now before seen old new is leads same e h =
    subst (λ y. HasAdded m (ends m (view_member y)) before seen old new) (sym is)
    (subst (λ ws. HasAdded m (filter (is_of_output m) (map (λ (d : NetBit × NetBit). d.1) (path_pairs ws (view_path p.now)))) before seen old new) e
    (alike-added m (filter (is_of_output m) (map (λ (d : NetBit × NetBit). d.1) (path_pairs vs (view_path p.now)))) (filter (is_of_output m) (bits_seen vs places)) before seen old new (leads (is_of_output m))
    (subst (λ ps. HasAdded m (filter (is_of_output m) (bits_seen vs ps)) before seen old new) same h)))
