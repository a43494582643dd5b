-- Connections as pairs of a port and what is connected to it, and what the last of a port's connections is.
use Rattle.std.specs.Prelude.{◌≡◌, ℕ, List, [], ◌∷◌, Bool, true, false, Option, Some, None, map, find, filter_map, zip, refl, cond, bytes_eq, slice_get, if◌then◌else◌}
use Rattle.std.specs.List.{AllByRecursion, cons_option}
use Rattle.std.specs.Option.{option_and_then}
use Rattle.std.proofs.Common.{◌∙◌, ap}
use Rattle.std.proofs.lemmas.Slice.Eq.{bytes_eq-Decides}
use Rattle.vl_tree.specs.Tree.{Named, Expression, NamedConnection, Connections, by_order, by_name}
use Rattle.elab_model.specs.Bits.{Bit, bits}
use Rattle.elab_model.specs.Connections.{in_order, connection_at, port_values, with_port}
use Rattle.elab_model.specs.Names.{Variable}
use Rattle.elab_laws.proofs.Lists.{Pairwise}
use Rattle.elab_ports.proofs.Updates.{Row, update, updates}

abbrev pub Pair : Type 0
Pair = List ℕ × Option Expression

abbrev pub pairs : Connections → List Named → List Pair
pairs (by_order es) ps = map (λ x. (x.0.text, x.1)) (zip ps es)
pairs (by_name cs) ps = map (λ c. (c.port.text, c.value)) cs

abbrev pub values : List Pair → List (List ℕ × Expression)
values xs = filter_map (λ x. with_port x.0 x.1) xs

abbrev is_named : List ℕ → Pair → Bool
is_named n x = bytes_eq n x.0

abbrev value : Pair → Option Expression
value x = x.1

abbrev pub value_of : List ℕ → List Pair → Option Expression
value_of n xs = option_and_then value (find (is_named n) xs)

-- ---- they say the same

kept-map : {A B C : Type 0} (f : A → B) (h : B → Option C) (xs : List A) → filter_map h (map f xs) ≡ filter_map (λ x. h (f x)) xs
kept-map f h [] = refl
kept-map f h (x ∷ xs) = ap (cons_option (h (f x))) (kept-map f h xs)

pub values-are : (x : Connections) (ps : List Named) → values (pairs x ps) ≡ port_values x ps
values-are (by_order es) ps = kept-map (λ x. (x.0.text, x.1)) (λ x. with_port x.0 x.1) (zip ps es)
values-are (by_name cs) ps = kept-map (λ c. (c.port.text, c.value)) (λ x. with_port x.0 x.1) cs

order-found : (n : List ℕ) (ps : List Named) (es : List (Option Expression)) → value_of n (map (λ x. (x.0.text, x.1)) (zip ps es)) ≡ in_order n ps es
order-found n [] es = refl
order-found n (p ∷ ps) [] = refl
order-found n (p ∷ ps) (e ∷ es) = by (bytes_eq n p.text) (order-found n ps es)
  where
    by : (b : Bool) → value_of n (map (λ x. (x.0.text, x.1)) (zip ps es)) ≡ in_order n ps es
        → option_and_then value (cond b (Some (p.text, e)) (find (is_named n) (map (λ x. (x.0.text, x.1)) (zip ps es)))) ≡ (if b then e else in_order n ps es)
    by true h = refl
    by false h = h

name-found : (n : List ℕ) (cs : List NamedConnection) → value_of n (map (λ c. (c.port.text, c.value)) cs) ≡ option_and_then (λ c. c.value) (find (λ c. bytes_eq n c.port.text) cs)
name-found n [] = refl
name-found n (c ∷ cs) = by (bytes_eq n c.port.text) (name-found n cs)
  where
    by : (b : Bool) → value_of n (map (λ c. (c.port.text, c.value)) cs) ≡ option_and_then (λ c. c.value) (find (λ c. bytes_eq n c.port.text) cs)
        → option_and_then value (cond b (Some (c.port.text, c.value)) (find (is_named n) (map (λ c. (c.port.text, c.value)) cs)))
        ≡ option_and_then (λ c. c.value) (cond b (Some c) (find (λ c. bytes_eq n c.port.text) cs))
    by true h = refl
    by false h = h

pub value-is : (x : Connections) (ps : List Named) (n : List ℕ) → value_of n (pairs x ps) ≡ connection_at x ps n
value-is (by_order es) ps n = order-found n ps es
value-is (by_name cs) ps n = name-found n cs

-- ---- where no port is connected twice, the last connection is the first

abbrev pub Differ : Pair → Pair → Type 0
Differ x y = bytes_eq x.0 y.0 ≡ false

none-further : (n m : List ℕ) (xs : List Pair) → bytes_eq n m ≡ true → AllByRecursion (λ y. bytes_eq m y.0 ≡ false) xs → value_of n xs ≡ None
none-further n m [] e h = refl
none-further n m (x ∷ xs) e h =
    let same : n ≡ m = (bytes_eq-Decides n m).0 e in
    let d : bytes_eq n x.0 ≡ false = ap (λ k. bytes_eq k x.0) same ∙ h.0 in
    ap (λ b. option_and_then value (cond b (Some x) (find (is_named n) xs))) d ∙ none-further n m xs e h.1

abbrev bound_or : List Variable → Row → List ℕ → ℕ → Option Expression → Option Bit
bound_or vs f n p None = f n p
bound_or vs f n p (Some e) = slice_get (bits vs e) p

other-row : (vs : List Variable) (f g : Row) (n : List ℕ) (p : ℕ) (o : Option Expression) → f n p ≡ g n p → bound_or vs f n p o ≡ bound_or vs g n p o
other-row vs f g n p None h = h
other-row vs f g n p (Some e) h = refl

updates-are : (vs : List Variable) (f : Row) (n : List ℕ) (p : ℕ) (xs : List Pair) → Pairwise Differ xs → updates vs f (values xs) n p ≡ bound_or vs f n p (value_of n xs)
updates-are vs f n p [] h = refl
updates-are vs f n p ((m, None) ∷ xs) h = by (bytes_eq n m) refl (updates-are vs f n p xs h.1)
  where
    by : (b : Bool) → bytes_eq n m ≡ b → updates vs f (values xs) n p ≡ bound_or vs f n p (value_of n xs)
        → updates vs f (values xs) n p ≡ bound_or vs f n p (option_and_then value (cond b (Some (m, None)) (find (is_named n) xs)))
    by true e k = k ∙ ap (bound_or vs f n p) (none-further n m xs e h.0)
    by false e k = k
updates-are vs f n p ((m, Some e) ∷ xs) h = by (bytes_eq n m) refl (updates-are vs (update vs f (m, e)) n p xs h.1)
  where
    by : (b : Bool) → bytes_eq n m ≡ b → updates vs (update vs f (m, e)) (values xs) n p ≡ bound_or vs (update vs f (m, e)) n p (value_of n xs)
        → updates vs (update vs f (m, e)) (values xs) n p ≡ bound_or vs f n p (option_and_then value (cond b (Some (m, Some e)) (find (is_named n) xs)))
    by true t k = k ∙ ap (bound_or vs (update vs f (m, e)) n p) (none-further n m xs t h.0) ∙ ap (λ b. if b then slice_get (bits vs e) p else f n p) t
    by false t k = k ∙ other-row vs (update vs f (m, e)) f n p (value_of n xs) (ap (λ b. if b then slice_get (bits vs e) p else f n p) t)

pub none-bound : (vs : List Variable) (n : List ℕ) (p : ℕ) (xs : List Pair) → Pairwise Differ xs
    → updates vs (λ n p. None) (values xs) n p ≡ option_and_then (λ e. slice_get (bits vs e) p) (value_of n xs)
none-bound vs n p xs h = updates-are vs (λ n p. None) n p xs h ∙ by (value_of n xs)
  where
    by : (o : Option Expression) → bound_or vs (λ n p. None) n p o ≡ option_and_then (λ e. slice_get (bits vs e) p) o
    by None = refl
    by (Some e) = refl
