-- Connections that are written one after another.
use Rattle.std.specs.Prelude.{◌≡◌, ℕ, zero, suc, ◌+◌, ◌<◌, ◌≤◌, List, [], ◌∷◌, ◌++◌, All, IfSome, Option, Some, None, length, map, filter_map, take, drop, zip, min, replicate, refl, slice_index_or}
use Rattle.std.specs.List.{cons_option, fold}
use Rattle.std.specs.Option.{option_map}
use Rattle.std.proofs.Common.{sym, ◌∙◌, ap, subst, arith, get_or}
use Rattle.std.proofs.lemmas.List.{map-append, length-map, take_more, get_or-map}
use Rattle.std.proofs.lemmas.List.Elements.{All-append, All-take, All-drop, All-map, filter_map-append}
use Rattle.std.proofs.Math.Seq.{take-length}
use Rattle.std.proofs.lemmas.Slice.Zip.{length-zip, get_or-zip}
use Rattle.vl_tree.specs.declared.expressions.Expression as code_expression
use Rattle.vl_tree.specs.declared.items.NamedConnection as code_connection
use Rattle.vl_tree.specs.declared.names.Name as code_name
use Rattle.vl_tree.specs.Seen.{view_name, view_expression, view_named_connection}
use Rattle.sg_text.specs.declared.places.Place.{Place}
use Rattle.vl_tree.specs.Tree.{Named, Expression, NamedConnection, Connections, Module}
use Rattle.elab_laws.specs.Handing.{all_bits}
use Rattle.elab_bits.specs.declared.bits.Bit as code_bit
use Rattle.elab_bits.specs.Seen.{view_bit, IsInRow}
use Rattle.elab_model.specs.Bits.{bits}
use Rattle.elab_model.specs.Connections.{with_port, port_values}
use Rattle.elab_model.specs.Names.{Variable}
use Rattle.elab_ports.specs.Binding.{put, put_at, room_at, bind, AreInRow, Binds}
use Rattle.elab_ports.specs.Bound.{bound_in, AreConnected, AreOf}
use Rattle.elab_ports.proofs.BoundRow.{bound-row}
use Rattle.elab_ports.proofs.Putting.{map-put, length-put}

fold-append : {A B : Type 0} (f : B → A → B) (b : B) (xs ys : List A) → fold f b (xs ++ ys) ≡ fold f (fold f b xs) ys
fold-append f b [] ys = refl
fold-append f b (x ∷ xs) ys = fold-append f (f b x) xs ys

pub binds-then : (vs child : List Variable) (es fs : List (List ℕ × Expression)) (old row new : List (Option code_bit.Bit)) → Binds vs child es old row → Binds vs child fs row new
    → Binds vs child (es ++ fs) old new
binds-then vs child es fs old row new a b = record {
  bound = b.bound ∙ ap (λ xs. fold (bind vs child) xs fs) a.bound ∙ sym (fold-append (bind vs child) (map (option_map (view_bit vs)) old) es fs);
  long = b.long ∙ a.long;
  row = λ h. b.row (a.row h);
}

some-seen : (vs : List Variable) (bs : List code_bit.Bit) → map (option_map (view_bit vs)) (map Some bs) ≡ map Some (map (view_bit vs) bs)
some-seen vs [] = refl
some-seen vs (b ∷ bs) = ap (λ xs. Some (view_bit vs b) ∷ xs) (some-seen vs bs)

put-in-row : (vs : List Variable) (start : ℕ) (bs : List code_bit.Bit) (old : List (Option code_bit.Bit)) → All (IsInRow vs) bs → AreInRow vs old → AreInRow vs (put start (map Some bs) old)
put-in-row vs start bs old h g =
    All-append (λ b. IfSome b (IsInRow vs)) (take start old) (map Some bs ++ drop (start + length (map Some bs)) old) (All-take (λ b. IfSome b (IsInRow vs)) start old g)
    (All-append (λ b. IfSome b (IsInRow vs)) (map Some bs) (drop (start + length (map Some bs)) old) (All-map (λ b. IfSome b (IsInRow vs)) Some bs h)
    (All-drop (λ b. IfSome b (IsInRow vs)) (start + length (map Some bs)) old g))

-- a port that has room
pub binds-one : (vs child : List Variable) (n : List ℕ) (e : Expression) (start : ℕ) (bs : List code_bit.Bit) (old new : List (Option code_bit.Bit))
    → map (view_bit vs) bs ≡ bits vs e → Some start ≡ room_at child n (length bs) → start + length bs ≤ length old → All (IsInRow vs) bs → new ≡ put start (map Some bs) old
    → Binds vs child ((n, e) ∷ []) old new
binds-one vs child n e start bs old new b r le h g =
    let seen = map (option_map (view_bit vs)) old in
    let n_is : length bs ≡ length (bits vs e) = sym (length-map bs (view_bit vs)) ∙ ap length b in
    record {
      bound = ap (map (option_map (view_bit vs))) g ∙ map-put (option_map (view_bit vs)) start (map Some bs) old
          ∙ ap (λ ys. put start ys seen) (some-seen vs bs ∙ ap (map Some) b)
          ∙ ap (λ o. put_at o (map Some (bits vs e)) seen) (r ∙ ap (room_at child n) n_is);
      long = ap length g ∙ length-put start (map Some bs) old (subst (λ k. start + k ≤ length old) (sym (length-map bs Some)) le);
      row = λ k. subst (AreInRow vs) (sym g) (put-in-row vs start bs old h k);
    }

-- what may be connected
pub binds-value : (vs child : List Variable) (n : List ℕ) (value : Option code_expression.Expression) (e : code_expression.Expression) (room : Option ℕ) (start : ℕ) (bs cs : List code_bit.Bit)
    (old new : List (Option code_bit.Bit)) → value ≡ Some e → map (view_bit vs) bs ≡ bits vs (view_expression e) → room ≡ room_at child n (length bs) → room ≡ Some start
    → IfSome room (λ s. s + length bs ≤ length (all_bits child)) → length old ≡ length (all_bits child) → All (IsInRow vs) bs → cs ≡ bs → new ≡ put start (map Some cs) old
    → Binds vs child (cons_option (with_port n (option_map view_expression value)) []) old new
binds-value vs child n value e room start bs cs old new v b r is le long h c g =
    let fits : start + length bs ≤ length (all_bits child) = subst (λ o. IfSome o (λ s. s + length bs ≤ length (all_bits child))) is le in
    subst (λ o. Binds vs child (cons_option (with_port n (option_map view_expression o)) []) old new) (sym v)
    (binds-one vs child n (view_expression e) start bs old new b (sym is ∙ r) (subst (λ k. start + length bs ≤ k) (sym long) fits) h (g ∙ ap (λ ys. put start (map Some ys) old) c))

-- ---- the connections so far, and one more

abbrev of_named : NamedConnection → Option (List ℕ × Expression)
of_named c = with_port c.port.text c.value

abbrev pub named_values : List code_connection.NamedConnection → List (List ℕ × Expression)
named_values cs = filter_map of_named (map view_named_connection cs)

pub named-more : (x : code_connection.NamedConnection) (cs : List code_connection.NamedConnection) (i : ℕ) → i < length cs → x ≡ slice_index_or cs i x
    → named_values (take i cs) ++ cons_option (with_port x.port.text.now (option_map view_expression x.value)) [] ≡ named_values (take (i + 1) cs)
named-more x cs i lt is =
    sym (ap named_values (take_more cs i x lt ∙ ap (λ y. take i cs ++ y ∷ []) (sym is)) ∙ ap (filter_map of_named) (map-append view_named_connection (take i cs) (x ∷ []))
    ∙ filter_map-append of_named (map view_named_connection (take i cs)) (view_named_connection x ∷ []))

pub named-next : (vs child : List Variable) (x : code_connection.NamedConnection) (cs : List code_connection.NamedConnection) (i : ℕ) (old row new : List (Option code_bit.Bit)) → i < length cs
    → x ≡ slice_index_or cs i x → Binds vs child (named_values (take i cs)) old row → Binds vs child (cons_option (with_port x.port.text.now (option_map view_expression x.value)) []) row new
    → Binds vs child (named_values (take (i + 1) cs)) old new
named-next vs child x cs i old row new lt is a b =
    subst (λ es. Binds vs child es old new) (named-more x cs i lt is)
    (binds-then vs child (named_values (take i cs)) (cons_option (with_port x.port.text.now (option_map view_expression x.value)) []) old row new a b)

abbrev of_ordered : Named × Option Expression → Option (List ℕ × Expression)
of_ordered p = with_port p.0.text p.1

abbrev pub seen_pairs : List code_name.Name → List (Option code_expression.Expression) → List (Named × Option Expression)
seen_pairs ps es = zip (map view_name ps) (map (option_map view_expression) es)

abbrev pub ordered_values : ℕ → List code_name.Name → List (Option code_expression.Expression) → List (List ℕ × Expression)
ordered_values k ps es = filter_map of_ordered (take k (seen_pairs ps es))

pub ordered-more : (ps : List code_name.Name) (es : List (Option code_expression.Expression)) (k : ℕ) (p : code_name.Name) (e : Option code_expression.Expression) → k < length ps → k < length es
    → p ≡ get_or ps k p → e ≡ get_or es k e
    → ordered_values k ps es ++ cons_option (with_port p.text.now (option_map view_expression e)) [] ≡ ordered_values (k + 1) ps es
ordered-more ps es k p e lp le pe ee =
    let qs = map view_name ps in
    let ys = map (option_map view_expression) es in
    let x : Named × Option Expression = (view_name p, option_map view_expression e) in
    let lq : length qs ≡ length ps = length-map ps view_name in
    let ly : length ys ≡ length es = length-map es (option_map view_expression) in
    let lz : length (zip qs ys) ≡ min (length qs) (length ys) = length-zip qs ys in
    let q : get_or qs k (view_name p) ≡ view_name p = get_or-map view_name ps k p (view_name p) lp ∙ ap view_name (sym pe) in
    let y : get_or ys k (option_map view_expression e) ≡ option_map view_expression e = get_or-map (option_map view_expression) es k e (option_map view_expression e) le
    ∙ ap (option_map view_expression) (sym ee) in
    let at : get_or (zip qs ys) k x ≡ x = get_or-zip qs ys k x (omega arith) (omega arith) ∙ ap (λ a. (a, get_or ys k (option_map view_expression e))) q ∙ ap (λ b. (view_name p, b)) y in
    sym (ap (filter_map of_ordered) (take_more (zip qs ys) k x (below k (length qs) (length ys) (length (zip qs ys)) lz (omega arith) (omega arith)) ∙ ap (λ z. take k (zip qs ys) ++ z ∷ []) at)
    ∙ filter_map-append of_ordered (take k (zip qs ys)) (x ∷ []))
  where
    below : (k a b c : ℕ) → c ≡ min a b → k < a → k < b → k < c
    below k a b c e f g = grind (arith, e)

pub ordered-next : (vs child : List Variable) (ps : List code_name.Name) (es : List (Option code_expression.Expression)) (k : ℕ) (p : code_name.Name) (e : Option code_expression.Expression)
    (old row new : List (Option code_bit.Bit)) → k < length ps → k < length es → p ≡ get_or ps k p → e ≡ get_or es k e
    → Binds vs child (ordered_values k ps es) old row → Binds vs child (cons_option (with_port p.text.now (option_map view_expression e)) []) row new
    → Binds vs child (ordered_values (k + 1) ps es) old new
ordered-next vs child ps es k p e old row new lp le pe ee a b =
    subst (λ es. Binds vs child es old new) (ordered-more ps es k p e lp le pe ee)
    (binds-then vs child (ordered_values k ps es) (cons_option (with_port p.text.now (option_map view_expression e)) []) old row new a b)

pub ordered-all : (ps : List code_name.Name) (es : List (Option code_expression.Expression)) (k : ℕ) → k ≡ min (length ps) (length es)
    → ordered_values k ps es ≡ filter_map of_ordered (seen_pairs ps es)
ordered-all ps es k e =
    let lz : length (seen_pairs ps es) ≡ k =
    length-zip (map view_name ps) (map (option_map view_expression) es) ∙ ap (λ n. min n (length (map (option_map view_expression) es))) (length-map ps view_name)
    ∙ ap (min (length ps)) (length-map es (option_map view_expression)) ∙ sym e in
    ap (λ n. filter_map of_ordered (take n (seen_pairs ps es))) (sym lz) ∙ ap (filter_map of_ordered) (take-length (seen_pairs ps es))

-- ---- the whole row

seen-empty : (vs : List Variable) (n : ℕ) → map (option_map (view_bit vs)) (replicate n None) ≡ replicate n None
seen-empty vs zero = refl
seen-empty vs (suc n) = ap (λ xs. None ∷ xs) (seen-empty vs n)

pub row-is : (vs child : List Variable) (m : Module) (at : Place) (x : Connections) (ports : List Named) (n : ℕ) (old new : List (Option code_bit.Bit)) → n ≡ length (all_bits child)
    → old ≡ replicate n None
    → Binds vs child (port_values x ports) old new → AreOf m child ports → AreConnected vs m at x
    → map (option_map (view_bit vs)) new ≡ map (λ b. bound_in vs x ports b.0.name b.1) (all_bits child)
row-is vs child m at x ports n old new e f h o c =
    h.bound ∙ ap (λ row. fold (bind vs child) row (port_values x ports)) (ap (map (option_map (view_bit vs))) f ∙ seen-empty vs n ∙ ap (λ k. replicate k None) e)
    ∙ bound-row vs child m at x ports o c
