-- Items that are gathered one after another.
use Rattle.std.specs.Prelude.{◌≡◌, ℕ, ◌+◌, ◌<◌, ◌≤◌, List, [], ◌∷◌, ◌++◌, length, map, flat_map, filter_map, slice_index_or, take, refl}
use Rattle.std.proofs.Common.{sym, ◌∙◌, ap, subst, append-nil, append_assoc}
use Rattle.std.proofs.lemmas.Grind.{flat_map-append}
use Rattle.std.proofs.lemmas.List.{map-append, take_more, take_all}
use Rattle.std.proofs.lemmas.List.Elements.{filter_map-append}
use Rattle.vl_tree.specs.declared.items.Item as code_item
use Rattle.vl_tree.specs.Seen.{view_item}
use Rattle.vl_tree.specs.Tree.{Specparam, SpecifyItem}
use Rattle.specify_model.specs.Blocks.{items_of_item, parameter_of, parameters, pulse_of, pulses, specparams_of_item, path_of_item, specify_paths, style_of_item, style_texts}
use Rattle.specify_model.specs.Checks.{check_of_item, check_texts}
use Rattle.specify_values.specs.Seen.{Adds, AddsSpecparams, AreItems, view_parameter, view_pulse, view_paths, view_style, view_checks}
use Rattle.specify_values.specs.declared.items.BlockItems.{BlockItems}

two : {A : Type 0} (a b c xs ys zs : List A) → b ≡ a ++ xs → c ≡ b ++ ys → zs ≡ xs ++ ys → c ≡ a ++ zs
two a b c xs ys zs e f g = f ∙ ap (λ d. d ++ ys) e ∙ append_assoc a xs ys ∙ ap (λ l. a ++ l) (sym g)

-- ---- specparams

pub no-specparams : (a : BlockItems) → AddsSpecparams [] a a
no-specparams a = record { parameters_more = sym (append-nil _); pulses_more = sym (append-nil _); paths_stay = refl; styles_stay = refl; checks_stay = refl }

pub more-specparams : (xs ys : List Specparam) (a b c : BlockItems) → AddsSpecparams xs a b → AddsSpecparams ys b c → AddsSpecparams (xs ++ ys) a c
more-specparams xs ys a b c h g = record {
  parameters_more = two (map view_parameter a.parameters.items) (map view_parameter b.parameters.items) (map view_parameter c.parameters.items) (filter_map parameter_of xs) (filter_map parameter_of ys) (filter_map parameter_of (xs ++ ys)) h.parameters_more g.parameters_more (filter_map-append parameter_of xs ys);
  pulses_more = two (map view_pulse a.pulses.items) (map view_pulse b.pulses.items) (map view_pulse c.pulses.items) (filter_map pulse_of xs) (filter_map pulse_of ys) (filter_map pulse_of (xs ++ ys)) h.pulses_more g.pulses_more (filter_map-append pulse_of xs ys);
  paths_stay = g.paths_stay ∙ h.paths_stay;
  styles_stay = g.styles_stay ∙ h.styles_stay;
  checks_stay = g.checks_stay ∙ h.checks_stay;
}

-- ---- items

parameters-append : (xs ys : List SpecifyItem) → parameters (xs ++ ys) ≡ parameters xs ++ parameters ys
parameters-append xs ys = ap (filter_map parameter_of) (flat_map-append specparams_of_item xs ys) ∙ filter_map-append parameter_of (flat_map specparams_of_item xs) (flat_map specparams_of_item ys)

pulses-append : (xs ys : List SpecifyItem) → pulses (xs ++ ys) ≡ pulses xs ++ pulses ys
pulses-append xs ys = ap (filter_map pulse_of) (flat_map-append specparams_of_item xs ys) ∙ filter_map-append pulse_of (flat_map specparams_of_item xs) (flat_map specparams_of_item ys)

pub none-added : (a : BlockItems) → Adds [] a a
none-added a =
    record { parameters_grow = sym (append-nil _); pulses_grow = sym (append-nil _); paths_grow = sym (append-nil _); styles_grow = sym (append-nil _); checks_grow = sym (append-nil _) }

pub more-added : (xs ys : List SpecifyItem) (a b c : BlockItems) → Adds xs a b → Adds ys b c → Adds (xs ++ ys) a c
more-added xs ys a b c h g = record {
  parameters_grow = two (map view_parameter a.parameters.items) (map view_parameter b.parameters.items) (map view_parameter c.parameters.items) (parameters xs) (parameters ys) (parameters (xs ++ ys)) h.parameters_grow g.parameters_grow (parameters-append xs ys);
  pulses_grow = two (map view_pulse a.pulses.items) (map view_pulse b.pulses.items) (map view_pulse c.pulses.items) (pulses xs) (pulses ys) (pulses (xs ++ ys)) h.pulses_grow g.pulses_grow (pulses-append xs ys);
  paths_grow = two (view_paths a.paths.items) (view_paths b.paths.items) (view_paths c.paths.items) (specify_paths xs) (specify_paths ys) (specify_paths (xs ++ ys)) h.paths_grow g.paths_grow (filter_map-append path_of_item xs ys);
  styles_grow = two (map view_style a.styles.items) (map view_style b.styles.items) (map view_style c.styles.items) (style_texts xs) (style_texts ys) (style_texts (xs ++ ys)) h.styles_grow g.styles_grow (filter_map-append style_of_item xs ys);
  checks_grow = two (view_checks a.checks.items) (view_checks b.checks.items) (view_checks c.checks.items) (check_texts xs) (check_texts ys) (check_texts (xs ++ ys)) h.checks_grow g.checks_grow (filter_map-append check_of_item xs ys);
}

-- ---- in loops

one-more : {A B : Type 0} (view : A → B) (xs : List A) (i : ℕ) (x : A) → i < length xs → x ≡ slice_index_or xs i x → map view (take (i + 1) xs) ≡ map view (take i xs) ++ view x ∷ []
one-more view xs i x lt e = ap (map view) (take_more xs i x lt) ∙ map-append view (take i xs) (slice_index_or xs i x ∷ []) ∙ ap (λ y. map view (take i xs) ++ view y ∷ []) (sym e)

pub next-specparam : {A : Type 0} (view : A → Specparam) (xs : List A) (i : ℕ) (x : A) (a b c : BlockItems) → i < length xs → x ≡ slice_index_or xs i x
    → AddsSpecparams (map view (take i xs)) a b → AddsSpecparams (view x ∷ []) b c → AddsSpecparams (map view (take (i + 1) xs)) a c
next-specparam view xs i x a b c lt e h g = subst (λ l. AddsSpecparams l a c) (sym (one-more view xs i x lt e)) (more-specparams (map view (take i xs)) (view x ∷ []) a b c h g)

pub all-specparams : {A : Type 0} (view : A → Specparam) (xs : List A) (i : ℕ) (a b : BlockItems) → length xs ≤ i → AddsSpecparams (map view (take i xs)) a b → AddsSpecparams (map view xs) a b
all-specparams view xs i a b le h = subst (λ l. AddsSpecparams (map view l) a b) (take_all i xs le) h

pub next-one : {A : Type 0} (view : A → SpecifyItem) (xs : List A) (i : ℕ) (x : A) (a b c : BlockItems) → i < length xs → x ≡ slice_index_or xs i x
    → Adds (map view (take i xs)) a b → Adds (view x ∷ []) b c → Adds (map view (take (i + 1) xs)) a c
next-one view xs i x a b c lt e h g = subst (λ l. Adds l a c) (sym (one-more view xs i x lt e)) (more-added (map view (take i xs)) (view x ∷ []) a b c h g)

pub all-ones : {A : Type 0} (view : A → SpecifyItem) (xs : List A) (i : ℕ) (a b : BlockItems) → length xs ≤ i → Adds (map view (take i xs)) a b → Adds (map view xs) a b
all-ones view xs i a b le h = subst (λ l. Adds (map view l) a b) (take_all i xs le) h

-- ---- all

items-more : (xs ys : List SpecifyItem) (b c : BlockItems) → AreItems xs b → Adds ys b c → AreItems (xs ++ ys) c
items-more xs ys b c h g = record {
  parameters_are = g.parameters_grow ∙ ap (λ l. l ++ parameters ys) h.parameters_are ∙ sym (parameters-append xs ys);
  pulses_are = g.pulses_grow ∙ ap (λ l. l ++ pulses ys) h.pulses_are ∙ sym (pulses-append xs ys);
  paths_are = g.paths_grow ∙ ap (λ l. l ++ specify_paths ys) h.paths_are ∙ sym (filter_map-append path_of_item xs ys);
  styles_are = g.styles_grow ∙ ap (λ l. l ++ style_texts ys) h.styles_are ∙ sym (filter_map-append style_of_item xs ys);
  checks_are = g.checks_grow ∙ ap (λ l. l ++ check_texts ys) h.checks_are ∙ sym (filter_map-append check_of_item xs ys);
}

next-block : {A : Type 0} (view : A → List SpecifyItem) (xs : List A) (i : ℕ) (x : A) (b c : BlockItems) → i < length xs → x ≡ slice_index_or xs i x
    → AreItems (flat_map view (take i xs)) b → Adds (view x) b c → AreItems (flat_map view (take (i + 1) xs)) c
next-block view xs i x b c lt e h g =
    let s : flat_map view (take (i + 1) xs) ≡ flat_map view (take i xs) ++ view x =
    ap (flat_map view) (take_more xs i x lt) ∙ flat_map-append view (take i xs) (slice_index_or xs i x ∷ []) ∙ ap (λ y. flat_map view (take i xs) ++ (view y ++ [])) (sym e)
    ∙ ap (λ l. flat_map view (take i xs) ++ l) (append-nil (view x)) in
    subst (λ l. AreItems l c) (sym s) (items-more (flat_map view (take i xs)) (view x) b c h g)

pub next-block_of : {A : Type 0} (view : A → List SpecifyItem) (ys xs : List A) (i : ℕ) (x : A) (b c : BlockItems) → ys ≡ xs → i < length ys → x ≡ slice_index_or ys i x
    → AreItems (flat_map view (take i xs)) b → Adds (view x) b c → AreItems (flat_map view (take (i + 1) xs)) c
next-block_of view ys xs i x b c same lt e h g =
    subst (λ zs. AreItems (flat_map view (take (i + 1) zs)) c) same (next-block view ys i x b c lt e (subst (λ zs. AreItems (flat_map view (take i zs)) b) (sym same) h) g)

pub all-blocks : (ys xs : List code_item.Item) (i : ℕ) (b : BlockItems) → ys ≡ xs → length ys ≤ i → AreItems (flat_map (λ x. items_of_item (view_item x)) (take i xs)) b → AreItems (flat_map items_of_item (map view_item xs)) b
all-blocks ys xs i b same le h = subst (λ l. AreItems l b) (ap (flat_map (λ x. items_of_item (view_item x))) (ap (take i) (sym same) ∙ take_all i ys le ∙ same) ∙ by-view xs) h
  where
    by-view : (xs : List code_item.Item) → flat_map (λ x. items_of_item (view_item x)) xs ≡ flat_map items_of_item (map view_item xs)
    by-view [] = refl
    by-view (x ∷ xs) = ap (λ l. items_of_item (view_item x) ++ l) (by-view xs)
