-- The name of a net means that net alone.
use Rattle.std.proofs.Common.{◌≡◌, zero, suc, ◌<◌, Bool, true, false, List, [], ◌∷◌, ◌++◌, length, refl, sym, ◌∙◌, ap, subst, arith, append-nil, inl, inr}
use Rattle.std.specs.Prelude.{ℕ, ◌+◌, ◌==◌, ◌&&◌, ◌||◌, ◌⊎◌, ℤ, pos, negsuc, ◌+ℤ◌, ◌-ℤ◌, nat_abs, int_le, All, Contains, Option, Some, None, unwrap_or, bytes_eq, if◌then◌else◌, slice_get}
use Rattle.std.specs.List.{position_from}
use Rattle.std.specs.Option.{option_map}
use Rattle.std.proofs.lemmas.Bool.{eqb-true, and_from, or_right}
use Rattle.std.proofs.lemmas.Int.{ints}
use borrow.Author.Differences.{up, down}
use Rattle.std.proofs.lemmas.Slice.Eq.{bytes_eq-Decides}
use Rattle.sg_circuit.specs.declared.scopes.Port.{Port as PortKind}
use Rattle.sg_circuit.specs.declared.scopes.Range.{Range}
use Rattle.sg_circuit.specs.Circuit.{Circuit, Variable, scope_at}
use Rattle.sg_circuit.specs.Closed.{width_of}
use Rattle.sdf_tree.specs.declared.words.Divider.TheVariants.{Slash}
use Rattle.annotation_model.specs.Matching.{port_nets}
use Rattle.annotation_model.specs.Ports.{position_at, net_in, bits_of, nets_named, own_nets}
use Rattle.written_model.specs.Names.{BitName, index_at, bit_at, name_of}
use Rattle.written_model.specs.Tree.{port_of}
use Rattle.written_reading.specs.Named.{AreApart, IsNetOf}
use Rattle.written_giving.proofs.MemberLaws.{Mem, stands-in, in-place, each-of-all, in-contained, contained-in}
use Rattle.written_giving.proofs.LetterLaws.{name-back}

-- ---- places among bits

abbrev is : ℕ → ℕ → Bool
is net n = n == net

record At (bits : List ℕ) (a p net : ℕ) : Type 0 where
  pub place : ℕ
  pub from : p ≡ a + place
  pub stands : slice_get bits place ≡ Some net
  pub within : place < length bits

position-at : (net a p : ℕ) (bits : List ℕ) → position_from (is net) a bits ≡ Some p → At bits a p net
position-at net a p [] e = absurd cc
position-at net a p (b ∷ bits) e = by (b == net) refl e (position-at net (a + 1) p bits)
  where
    by : (t : Bool) → (b == net) ≡ t → (if t then Some a else position_from (is net) (a + 1) bits) ≡ Some p → (position_from (is net) (a + 1) bits ≡ Some p → At bits (a + 1) p net) → At (b ∷ bits) a p net
    by true f g rec = let h : a ≡ p = ap (λ (o : Option ℕ). unwrap_or o p) g in record { place = 0; from = omega (arith, h); stands = ap Some (eqb-true b net f); within = omega arith }
    by false f g rec = let r = rec g in record { place = suc r.place; from = omega (arith, r.from); stands = r.stands; within = omega (arith, r.within) }

position-none : (net a : ℕ) (bits : List ℕ) → position_from (is net) a bits ≡ None → Mem net bits → ⊥
position-none net a [] e m = absurd m
position-none net a (b ∷ bits) e m = by (b == net) refl e (position-none net (a + 1) bits)
  where
    by : (t : Bool) → (b == net) ≡ t → (if t then Some a else position_from (is net) (a + 1) bits) ≡ None → (position_from (is net) (a + 1) bits ≡ None → Mem net bits → ⊥) → ⊥
    by true f g rec = absurd cc
    by false f g rec = elim m [
      | inl h ↦ absurd (let x : true ≡ false = sym (same b net (sym h)) ∙ f in cc)
      | inr n ↦ rec g n
    ]
      where
        same : (x y : ℕ) → x ≡ y → (x == y) ≡ true
        same x y e = grind arith

-- ---- the index of a place is that of the place

abs-is : (z : ℤ) → nat_abs z ≡ up z + down z
abs-is (pos n) = omega arith
abs-is (negsuc n) = omega arith

one-side : (z : ℤ) → (up z ≡ 0) ⊎ (down z ≡ 0)
one-side (pos n) = inr refl
one-side (negsuc n) = inl refl

record Inside (l r i : ℤ) (k : ℕ) : Type 0 where
  pub within : ((int_le l i && int_le i r) || (int_le r i && int_le i l)) ≡ true
  pub far : nat_abs (i -ℤ l) ≡ k

inside-down : (l r : ℤ) (k : ℕ) → int_le r l ≡ true → k < nat_abs (l -ℤ r) + 1 → Inside l r (l -ℤ pos k) k
inside-down l r k e h =
    let m : k < (up (l -ℤ r) + down (l -ℤ r)) + 1 = subst (λ n. k < n + 1) (abs-is (l -ℤ r)) h in
    let p = one-side (l -ℤ r) in
    let q = one-side ((l -ℤ pos k) -ℤ l) in
    let low : int_le r (l -ℤ pos k) ≡ true = grind (arith, ints) in
    let high : int_le (l -ℤ pos k) l ≡ true = grind (arith, ints) in
    record {
      within = or_right (int_le l (l -ℤ pos k) && int_le (l -ℤ pos k) r) (int_le r (l -ℤ pos k) && int_le (l -ℤ pos k) l) (and_from (int_le r (l -ℤ pos k)) (int_le (l -ℤ pos k) l) low high);
      far = abs-is ((l -ℤ pos k) -ℤ l) ∙ grind (arith, ints);
    }

inside-up : (l r : ℤ) (k : ℕ) → int_le r l ≡ false → k < nat_abs (l -ℤ r) + 1 → Inside l r (l +ℤ pos k) k
inside-up l r k e h =
    let m : k < (up (l -ℤ r) + down (l -ℤ r)) + 1 = subst (λ n. k < n + 1) (abs-is (l -ℤ r)) h in
    let p = one-side (l -ℤ r) in
    let q = one-side ((l +ℤ pos k) -ℤ l) in
    let low : int_le l (l +ℤ pos k) ≡ true = grind (arith, ints) in
    let high : int_le (l +ℤ pos k) r ≡ true = grind (arith, ints) in
    record {
      within = ap (λ b. b || (int_le r (l +ℤ pos k) && int_le (l +ℤ pos k) l)) (and_from (int_le l (l +ℤ pos k)) (int_le (l +ℤ pos k) r) low high);
      far = abs-is ((l +ℤ pos k) -ℤ l) ∙ grind (arith, ints);
    }

index-within : (r : Range) (k : ℕ) → k < nat_abs (r.left -ℤ r.right) + 1 → position_at (Some r) (index_at r k) ≡ Some k
index-within r k l = by (int_le r.right r.left) refl
  where
    placed : (i : ℤ) → Inside r.left r.right i k → position_at (Some r) i ≡ Some k
    placed i h = ap (λ b. if b then Some (nat_abs (i -ℤ r.left)) else None) h.within ∙ ap Some h.far

    by : (b : Bool) → int_le r.right r.left ≡ b → position_at (Some r) (if b then r.left -ℤ pos k else r.left +ℤ pos k) ≡ Some k
    by true e = placed (r.left -ℤ pos k) (inside-down r.left r.right k e l)
    by false e = placed (r.left +ℤ pos k) (inside-up r.left r.right k e l)

-- a bit's name means the bit
bit-back : (v : Variable) (k net : ℕ) → length v.bits ≡ width_of v.range → slice_get v.bits k ≡ Some net → k < length v.bits → bits_of v (bit_at v k).index ≡ net ∷ []
bit-back v k net w e l = by v.range refl w
  where
    lone : (bs : List ℕ) (j : ℕ) → length bs ≡ 1 → j < length bs → slice_get bs j ≡ Some net → bs ≡ net ∷ []
    lone [] j w l e = absurd (omega (arith, w))
    lone (b ∷ []) zero w l e = ap (λ (o : Option ℕ). unwrap_or o b ∷ []) e
    lone (b ∷ []) (suc j) w l e = absurd (omega (arith, l))
    lone (b ∷ d ∷ bs) j w l e = absurd (omega (arith, w))

    by : (o : Option Range) → v.range ≡ o → length v.bits ≡ width_of o → bits_of v (option_map (λ (r : Range). index_at r k) o) ≡ net ∷ []
    by None f w = lone v.bits k w l e
    by (Some r) f w =
        ap (λ o. net_in v.bits (position_at o (index_at r k))) f
        ∙ (ap (λ o. net_in v.bits o) (index-within r k (omega (arith, l, w))) ∙ ap (λ (o : Option ℕ). one o) e)
      where
        one : Option ℕ → List ℕ
        one None = []
        one (Some n) = n ∷ []

-- ---- names among variables

apart-behind : (v : Variable) (vs : List Variable) → AreApart (v ∷ vs) → AreApart vs
apart-behind v vs a = record { names = λ i j x y e f g. let n : suc i ≡ suc j = a.names (suc i) (suc j) x y e f g in omega (arith, n) }

apart-first : (v : Variable) (vs : List Variable) → AreApart (v ∷ vs) → (w : Variable) → Mem w vs → v.name ≡ w.name → ⊥
apart-first v vs a w m e = let p = in-place vs w m in let n : 0 ≡ suc p.0 = a.names 0 (suc p.0) v w refl p.1 e in absurd (omega (arith, n))

other-name : (kind : PortKind → Bool) (vs : List Variable) (name : List ℕ) (bit : Option ℤ) → ((w : Variable) → Mem w vs → w.name ≡ name → ⊥) → nets_named kind vs name bit ≡ []
other-name kind [] name bit h = refl
other-name kind (w ∷ ws) name bit h = by (bytes_eq w.name name) refl ∙ other-name kind ws name bit (λ x m. h x (inr m))
  where
    by : (t : Bool) → bytes_eq w.name name ≡ t → (if t && kind w.port then bits_of w bit else []) ++ nets_named kind ws name bit ≡ nets_named kind ws name bit
    by true e = absurd (h w (inl refl) ((bytes_eq-Decides w.name name).0 e))
    by false e = refl

-- the first variable that has a net names it
record Names (kind : PortKind → Bool) (vs : List Variable) (net : ℕ) : Type 0 where
  pub nets : nets_named kind vs (name_of vs net).name (name_of vs net).index ≡ net ∷ []
  pub variable : Variable
  pub among : Mem variable vs
  pub named : (name_of vs net).name ≡ variable.name

names : (kind : PortKind → Bool) (net : ℕ) (vs : List Variable) → AreApart vs → ((v : Variable) → Mem v vs → length v.bits ≡ width_of v.range) → ((v : Variable) → Mem v vs → Mem net v.bits → kind v.port ≡ true)
    → (w : Variable) → Mem w vs → Mem net w.bits → Names kind vs net
names kind net [] apart widths kinds w m n = absurd m
names kind net (v ∷ vs) apart widths kinds w m n =
    by (position_from (is net) 0 v.bits) refl (λ x k. names kind net vs (apart-behind v vs apart) (λ y j. widths y (inr j)) (λ y j. kinds y (inr j)) w x k)
  where
    first : BitName → Type 0
    first b = nets_named kind (v ∷ vs) b.name b.index ≡ net ∷ []

    by : (o : Option ℕ) → position_from (is net) 0 v.bits ≡ o → (Mem w vs → Mem net w.bits → Names kind vs net) → Names kind (v ∷ vs) net
    by (Some p) e rec =
        let at = position-at net 0 p v.bits e in
        let named : name_of (v ∷ vs) net ≡ bit_at v p = ap (λ o. unwrap_or (option_map (bit_at v) o) (name_of vs net)) e in
        let place : p ≡ at.place = omega (arith, at.from) in
        let yes : (bytes_eq v.name v.name && kind v.port) ≡ true =
        ap (λ b. b && kind v.port) ((bytes_eq-Decides v.name v.name).1 refl) ∙ kinds v (inl refl) (stands-in v.bits at.place net at.stands) in
        let nets : nets_named kind (v ∷ vs) v.name (bit_at v p).index ≡ net ∷ [] =
        ap (λ b. (if b then bits_of v (bit_at v p).index else []) ++ nets_named kind vs v.name (bit_at v p).index) yes
        ∙ (ap (λ xs. bits_of v (bit_at v p).index ++ xs) (other-name kind vs v.name (bit_at v p).index (λ x k f. apart-first v vs apart x k (sym f)))
        ∙ (append-nil (bits_of v (bit_at v p).index)
        ∙ bit-back v p net (widths v (inl refl)) (subst (λ k. slice_get v.bits k ≡ Some net) (sym place) at.stands) (omega (arith, place, at.within)))) in
        record { nets = subst first (sym named) nets; variable = v; among = inl refl; named = ap (λ (b : BitName). b.name) named }
    by None e rec =
        let named : name_of (v ∷ vs) net ≡ name_of vs net = ap (λ o. unwrap_or (option_map (bit_at v) o) (name_of vs net)) e in
        let r : Names kind vs net = elim m [
          | inl f ↦ absurd (position-none net 0 v.bits e (subst (λ (x : Variable). Mem net x.bits) f n))
          | inr k ↦ rec k n
        ] in
        let b = name_of vs net in
        let no : bytes_eq v.name b.name ≡ false = not-named (bytes_eq v.name b.name) refl r in
        let nets : nets_named kind (v ∷ vs) b.name b.index ≡ net ∷ [] = ap (λ t. (if t && kind v.port then bits_of v b.index else []) ++ nets_named kind vs b.name b.index) no ∙ r.nets in
        record { nets = subst first (sym named) nets; variable = r.variable; among = inr r.among; named = ap (λ (x : BitName). x.name) named ∙ r.named }
      where
        not-named : (t : Bool) → bytes_eq v.name (name_of vs net).name ≡ t → Names kind vs net → t ≡ false
        not-named true f r = absurd (apart-first v vs apart r.variable r.among ((bytes_eq-Decides v.name (name_of vs net).name).0 f ∙ r.named))
        not-named false f r = refl

-- a net of a scope, of a kind that all that have it are of
pub net-named : (kind : PortKind → Bool) (Is : PortKind → Type 0) (vs : List Variable) (net : ℕ) → ((p : PortKind) → Is p → kind p ≡ true) → AreApart vs → All (λ (v : Variable). length v.bits ≡ width_of v.range) vs
    → IsNetOf Is vs net → nets_named kind vs (name_of vs net).name (name_of vs net).index ≡ net ∷ []
net-named kind Is vs net kinds apart widths of =
    let h = names kind net vs apart (each-of-all (λ (v : Variable). length v.bits ≡ width_of v.range) vs widths)
    (λ v m n. kinds v.port (each-of-all (λ (x : Variable). Contains x.bits net → Is x.port) vs of.each v m (in-contained v.bits net n)))
    of.variable (stands-in vs of.place of.variable of.stands) (contained-in of.variable.bits net of.has) in h.nets

-- its port means it
pub port-net : (c : Circuit) (kind : PortKind → Bool) (s net : ℕ) → nets_named kind (scope_at c s).variables (name_of (scope_at c s).variables net).name (name_of (scope_at c s).variables net).index ≡ net ∷ []
    → port_nets c Slash kind s (port_of (scope_at c s).variables net) ≡ net ∷ []
port-net c kind s net h = let n = name_of (scope_at c s).variables net in ap (λ ns. own_nets c kind s ns n.index) (name-back n.name) ∙ h
