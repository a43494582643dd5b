-- The first of some names that is one of others.
use Rattle.std.specs.Prelude.{◌≡◌, ℕ, suc, ◌<◌, List, [], ◌∷◌, Bool, true, false, ◌||◌, Option, Some, find, map, length, slice_index_or, refl, bytes_eq, if◌then◌else◌}
use Rattle.std.proofs.Common.{sym, ◌∙◌, ap, drop, drop-cons}
use Rattle.vl_tree.specs.declared.names.Name as name
use Rattle.vl_tree.specs.Seen.{view_name}
use Rattle.vl_tree.specs.Tree.{Named}
use Rattle.elab_model.specs.Names.{is_among}
use Rattle.elab_model.specs.Faults.{texts_of}
use Rattle.elab_model.specs.PrimitiveFaults.{is_in}
use Rattle.elab_primitives.specs.Declarations.{is_one_of}

among-names : (text : List ℕ) (ns : List name.Name) → is_one_of ns text ≡ is_among text (texts_of (map view_name ns))
among-names text [] = refl
among-names text (n ∷ ns) = ap (λ b. bytes_eq text n.text.now || b) (among-names text ns)

abbrev pub first_in : List name.Name → List name.Name → Option Named
first_in others ns = find (is_in (map view_name others)) (map view_name ns)

unfolded : (d : name.Name) (others ns : List name.Name) (i : ℕ) (b : Bool) → i < length ns → b ≡ is_one_of others (slice_index_or ns i d).text.now
    → first_in others (drop i ns) ≡ (if b then Some (view_name (slice_index_or ns i d)) else first_in others (drop (suc i) ns))
unfolded d others ns i b lt e =
    ap (first_in others) (drop-cons ns i d lt)
    ∙ ap (λ t. if t then Some (view_name (slice_index_or ns i d)) else first_in others (drop (suc i) ns)) (sym (among-names (slice_index_or ns i d).text.now others) ∙ sym e)

pub found : (d : name.Name) (others ns : List name.Name) (i : ℕ) (b : Bool) → i < length ns → b ≡ is_one_of others (slice_index_or ns i d).text.now → b ≡ true
    → first_in others (drop i ns) ≡ first_in others ns → Some (view_name (slice_index_or ns i d)) ≡ first_in others ns
found d others ns i b lt e t h =
    ap (λ t. if t then Some (view_name (slice_index_or ns i d)) else first_in others (drop (suc i) ns)) (sym t) ∙ sym (unfolded d others ns i b lt e) ∙ h

pub passed : (d : name.Name) (others ns : List name.Name) (i : ℕ) (b : Bool) → i < length ns → b ≡ is_one_of others (slice_index_or ns i d).text.now → b ≡ false
    → first_in others (drop i ns) ≡ first_in others ns → first_in others (drop (suc i) ns) ≡ first_in others ns
passed d others ns i b lt e t h =
    ap (λ t. if t then Some (view_name (slice_index_or ns i d)) else first_in others (drop (suc i) ns)) (sym t) ∙ sym (unfolded d others ns i b lt e) ∙ h
