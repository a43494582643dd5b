-- The paths of one specify path, as the definition has them.
use Rattle.std.specs.Prelude.{◌≡◌, ℕ, ◌+◌, ◌<◌, ◌≤◌, List, [], ◌∷◌, ◌++◌, Option, Some, length, map, flat_map, slice_get, slice_index_or, take, refl}
use Rattle.std.specs.Borrow.{Bor}
use Rattle.std.specs.Option.{option_map}
use Rattle.std.proofs.Common.{sym, ◌∙◌, ap}
use Rattle.std.proofs.lemmas.List.{length-map, length-take-le}
use Rattle.std.proofs.lemmas.Option.{get_or_from_slice_get}
use Rattle.elab_laws.specs.Handing.{all_bits}
use Rattle.elab_model.specs.Names.{Variable}
use Rattle.sg_delay.specs.declared.limits.Widths.{Widths}
use Rattle.sg_text.specs.declared.places.Place.{Place}
use Rattle.vl_tree.specs.Seen.{view_path}
use Rattle.vl_tree.specs.declared.paths.SpecifyPath as code_path
use Rattle.vl_tree.specs.Tree.{SpecifyPath}
use Rattle.specify_model.specs.Paths.{PathTo as Seen, paths_of, timings_with}
use Rattle.specify_model.specs.PulseLimits.{Limits}
use Rattle.elab_model.specs.Terms.{NetBit, pairs, terms_bits}
use Rattle.specify_model.specs.Values.{Measure, Values}
use Rattle.specify_values.specs.Seen.{view_paths, widths_seen}
use Rattle.elab_ends.specs.Seen.{bit_seen}
use Rattle.specify_paths.specs.Seen.{Said, path_to_seen, path_said, said_at, said_by, said_of}
use Rattle.specify_paths.specs.declared.statements.Statement as code_statement
use Rattle.specify_paths.proofs.Added.{at-view, flat-taken, map-taken}

-- the name of a bit of the row
name-at : (vs : List Variable) (i : ℕ) (n : List ℕ) (a : Variable × ℕ) → slice_get (all_bits vs) i ≡ Some a → n ≡ a.0.name → n ≡ (bit_seen vs i).name
name-at vs i n a at is = is ∙ sym (ap (λ (x : Variable × ℕ). x.0.name) (get_or_from_slice_get (all_bits vs) i a _ at))

-- a path between two bits of the row
pub between-bits : (vs : List Variable) (limits : Limits) (statement i o : ℕ) (place : Place) (from to : List ℕ) (a b : Variable × ℕ) (w : Option Widths) → slice_get (all_bits vs) i ≡ Some a → slice_get (all_bits vs) o ≡ Some b
    → from ≡ a.0.name → to ≡ b.0.name → option_map widths_seen w ≡ limits from to → (said : List Said)
    → path_to_seen vs said (record { output = o; place = place; path = record { input = i; statement = statement; limits = w } }) ≡ path_said (said_at said statement) place limits (bit_seen vs i, bit_seen vs o)
between-bits vs limits statement i o place from to a b w at there f t is said =
    let s : Said = said_at said statement in
    let made : Option (ℕ × ℕ) → Seen = λ l. record {
      output = bit_seen vs o;
      place = place;
      path = record { input = bit_seen vs i; edge = s.edge; condition = s.condition; timings = timings_with l s.delays };
    } in
    ap made (is ∙ ap (λ n. limits n to) (name-at vs i from a at f) ∙ ap (limits (bit_seen vs i).name) (name-at vs o to b there t))

-- those of a specify path whose number has what it says
path-added : (by : Measure) (vs : List Variable) (values : Values) (limits : Limits) (p : SpecifyPath) (s : Said) (inputs outputs : List NetBit) (old new : List Seen)
    → new ≡ old ++ map (path_said s p.place limits) (pairs p.arrow inputs outputs) → s ≡ said_of by vs values p → inputs ≡ terms_bits vs p.sources → outputs ≡ terms_bits vs p.destination.terms
    → new ≡ old ++ paths_of by vs values limits p
path-added by vs values limits p s inputs outputs old new grown said ins outs =
    grown ∙ ap (λ t. old ++ map (path_said t p.place limits) (pairs p.arrow inputs outputs)) said
    ∙ ap (λ is. old ++ map (path_said (said_of by vs values p) p.place limits) (pairs p.arrow is outputs)) ins
    ∙ ap (λ os. old ++ map (path_said (said_of by vs values p) p.place limits) (pairs p.arrow (terms_bits vs p.sources) os)) outs

-- ---- in turn, over the specify paths of a module

module _ {A : Type 0} (view : A → SpecifyPath) (by : Measure) (vs : List Variable) (values : Values) (xs : List A) where
  abbrev pub all_said : List Said
  all_said = map (said_of by vs values) (map view xs)

  abbrev pub said_so_far : ℕ → List Said
  said_so_far i = map (said_of by vs values) (map view (take i xs))

  -- the number of the next
  pub number-is : (i n : ℕ) (ss : List code_statement.Statement) → i ≤ length xs → n ≡ length ss → map (said_by vs) ss ≡ said_so_far i → n ≡ i
  number-is i n ss le is h =
      is ∙ sym (length-map ss (said_by vs)) ∙ ap length h ∙ length-map (map view (take i xs)) (said_of by vs values) ∙ length-map (take i xs) view ∙ length-take-le i xs le

  pub next-said : (i : ℕ) (x : A) (s : code_statement.Statement) (old new : List code_statement.Statement) → i < length xs → x ≡ slice_index_or xs i x → new ≡ old ++ s ∷ [] → said_by vs s ≡ said_of by vs values (view x)
      → map (said_by vs) old ≡ said_so_far i → map (said_by vs) new ≡ said_so_far (i + 1)
  next-said i x s old new lt at grown is h =
      ap (map (said_by vs)) grown ∙ pushed old ∙ ap (λ l. l ++ said_by vs s ∷ []) h ∙ ap (λ t. said_so_far i ++ t ∷ []) is ∙ sym (map-taken view xs (said_of by vs values) i x lt at)
    where
      pushed : (ss : List code_statement.Statement) → map (said_by vs) (ss ++ s ∷ []) ≡ map (said_by vs) ss ++ said_by vs s ∷ []
      pushed [] = refl
      pushed (t ∷ ts) = ap (λ l. said_by vs t ∷ l) (pushed ts)

  pub next-paths : (limits : Limits) (i n : ℕ) (x : A) (inputs outputs : List NetBit) (old new : List Seen) → i < length xs → x ≡ slice_index_or xs i x → n ≡ i
      → new ≡ old ++ map (path_said (said_at all_said n) (view x).place limits) (pairs (view x).arrow inputs outputs) → inputs ≡ terms_bits vs (view x).sources → outputs ≡ terms_bits vs (view x).destination.terms
      → old ≡ flat_map (paths_of by vs values limits) (map view (take i xs)) → new ≡ flat_map (paths_of by vs values limits) (map view (take (i + 1) xs))
  next-paths limits i n x inputs outputs old new lt at number grown ins outs h =
      let said : said_at all_said n ≡ said_of by vs values (view x) = ap (said_at all_said) number ∙ at-view view (said_of by vs values) _ xs i x lt at in
      path-added by vs values limits (view x) (said_at all_said n) inputs outputs old new grown said ins outs
      ∙ ap (λ l. l ++ paths_of by vs values limits (view x)) h ∙ sym (flat-taken view xs (paths_of by vs values limits) i x lt at)

-- how many there are
pub said-counted : (by : Measure) (vs : List Variable) (values : Values) (ps : List (Bor code_path.SpecifyPath)) (ss : List code_statement.Statement) → map (said_by vs) ss ≡ map (said_of by vs values) (view_paths ps) → length ss ≡ length ps
said-counted by vs values ps ss h = sym (length-map ss (said_by vs)) ∙ ap length h ∙ length-map (view_paths ps) (said_of by vs values) ∙ length-map ps (λ p. view_path p.now)
