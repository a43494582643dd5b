-- No two definitions have one name.
use Rattle.std.specs.Prelude.{◌≡◌, ℕ, suc, ◌<◌, List, [], ◌∷◌, ◌++◌, Bool, true, false, not, ◌||◌, map, length, slice_index_or, refl, bytes_eq, if◌then◌else◌}
use Rattle.std.specs.Borrow.{Bor}
use Rattle.std.specs.List.{IsAmong}
use Rattle.std.proofs.Common.{sym, ◌∙◌, ap, take, drop, ◌+◌, drop-cons, add-one}
use Rattle.std.proofs.Math.Seq.{take-length, drop-length}
use Rattle.std.proofs.lemmas.List.{map-append, take_more}
use Rattle.vl_tree.specs.declared.names.Name as code_name
use Rattle.vl_tree.specs.declared.modules.Part as code_part
use Rattle.vl_tree.specs.Seen.{view_name, view_part}
use Rattle.vl_tree.specs.Tree.{Named}
use Rattle.elab_model.specs.Definitions.{name_of}
use Rattle.elab_model.specs.declared.kinds.ElabKind.TheVariants.{DuplicateName}
use Rattle.elab_model.specs.Names.{is_among}
use Rattle.elab_model.specs.Faults.{fault, places_again}
use Rattle.elab_model.specs.HierarchyFaults.{two_definitions}
use Rattle.elab_declared.specs.Words.{first_of, is_seen}
use Rattle.elab_declared.proofs.Again.{new-seen, old-seen}
use Rattle.elab_declared.proofs.Refusals.{some-again, none-again}

abbrev pub texts : List (Bor (List ℕ)) → List (List ℕ)
texts keys = map (λ k. k.now) keys

abbrev pub named : code_part.Part → Named
named p = name_of (view_part p)

-- the names of the first i definitions were seen, and none of them twice
pub record AreSeen (keys : List (Bor (List ℕ))) (parts : List code_part.Part) (i : ℕ) : Type 0 where
  pub same : texts keys ≡ map (λ p. (name_of p).text) (map view_part (take i parts))
  pub left : first_of (places_again (texts keys) (map name_of (map view_part (drop i parts)))) ≡ first_of (places_again [] (map name_of (map view_part parts)))

among-texts : (n : List ℕ) (keys : List (Bor (List ℕ))) → is_among n (texts keys) ≡ is_seen n keys
among-texts n [] = refl
among-texts n (k ∷ ks) = ap (λ b. bytes_eq n k.now || b) (among-texts n ks)

pub not-is : (b c : Bool) → b ≡ not c → b ≡ false → c ≡ true
not-is b true e h = refl
not-is b false e h = let x : true ≡ false = sym e ∙ h in cc

pub not-isnt : (b c : Bool) → b ≡ not c → b ≡ true → c ≡ false
not-isnt b false e h = refl
not-isnt b true e h = let x : false ≡ true = sym e ∙ h in cc

pub seen-again : (d : code_part.Part) (n : code_name.Name) (keys : List (Bor (List ℕ))) (parts : List code_part.Part) (i : ℕ) (b : Bool) → i < length parts
    → view_name n ≡ named (slice_index_or parts i d) → b ≡ not (is_seen n.text.now keys) → b ≡ false → AreSeen keys parts i
    → IsAmong (two_definitions (map view_part parts)) (fault DuplicateName n.place)
seen-again d n keys parts i b lt is added e h =
    let t : is_among n.text.now (texts keys) ≡ true = among-texts n.text.now keys ∙ not-is b (is_seen n.text.now keys) added e in
    some-again (map name_of (map view_part parts)) n.place
    (sym (old-seen (texts keys) (view_name n) (map name_of (map view_part (drop (suc i) parts))) t)
    ∙ ap (λ m. first_of (places_again (texts keys) (m ∷ map name_of (map view_part (drop (suc i) parts))))) is
    ∙ ap (λ ps. first_of (places_again (texts keys) (map name_of (map view_part ps)))) (sym (drop-cons parts i d lt)) ∙ h.left)

pub one-more : (d : code_part.Part) (n : code_name.Name) (keys after : List (Bor (List ℕ))) (parts : List code_part.Part) (i : ℕ) (b : Bool) → i < length parts
    → view_name n ≡ named (slice_index_or parts i d) → b ≡ not (is_seen n.text.now keys) → b ≡ true
    → after ≡ (if is_seen n.text.now keys then keys else keys ++ n.text ∷ []) → AreSeen keys parts i → AreSeen after parts (i + 1)
one-more d n keys after parts i b lt is added e grown h =
    let f : is_seen n.text.now keys ≡ false = not-isnt b (is_seen n.text.now keys) added e in
    let g : texts after ≡ texts keys ++ n.text.now ∷ [] =
    ap texts (grown ∙ ap (λ b. if b then keys else keys ++ n.text ∷ []) f) ∙ map-append (λ k. k.now) keys (n.text ∷ []) in
    let t : is_among n.text.now (texts keys) ≡ false = among-texts n.text.now keys ∙ f in
    record {
      same = g ∙ ap (λ ts. ts ++ n.text.now ∷ []) h.same ∙ ap (λ m. map (λ p. (name_of p).text) (map view_part (take i parts)) ++ m.text ∷ []) is
          ∙ sym (ap (λ ps. map (λ p. (name_of p).text) (map view_part ps)) (take_more parts i d lt)
          ∙ ap (map (λ p. (name_of p).text)) (map-append view_part (take i parts) (slice_index_or parts i d ∷ []))
          ∙ map-append (λ p. (name_of p).text) (map view_part (take i parts)) (view_part (slice_index_or parts i d) ∷ []));
      left = ap (λ ks. first_of (places_again ks (map name_of (map view_part (drop (i + 1) parts))))) g
          ∙ (rw add-one (ap first_of (sym (new-seen (texts keys) (view_name n) (map name_of (map view_part (drop (suc i) parts))) t))
          ∙ ap (λ m. first_of (places_again (texts keys) (m ∷ map name_of (map view_part (drop (suc i) parts))))) is
          ∙ ap (λ ps. first_of (places_again (texts keys) (map name_of (map view_part ps)))) (sym (drop-cons parts i d lt)) ∙ h.left));
    }

pub all-seen : (keys : List (Bor (List ℕ))) (parts : List code_part.Part) (i : ℕ) → i ≡ length parts → AreSeen keys parts i → two_definitions (map view_part parts) ≡ []
all-seen keys parts i e h =
    none-again (map name_of (map view_part parts)) (ap (λ ps. first_of (places_again (texts keys) (map name_of (map view_part ps)))) (sym (drop_all parts i e)) ∙ h.left)
  where
    drop_all : (ps : List code_part.Part) (k : ℕ) → k ≡ length ps → drop k ps ≡ []
    drop_all ps k e = ap (λ n. drop n ps) e ∙ drop-length ps

pub all-named : (keys : List (Bor (List ℕ))) (parts : List code_part.Part) (i : ℕ) → i ≡ length parts → AreSeen keys parts i
    → texts keys ≡ map (λ p. (name_of p).text) (map view_part parts)
all-named keys parts i e h = h.same ∙ ap (λ ps. map (λ p. (name_of p).text) (map view_part ps)) (take_all parts i e)
  where
    take_all : (ps : List code_part.Part) (k : ℕ) → k ≡ length ps → take k ps ≡ ps
    take_all ps k e = ap (λ n. take n ps) e ∙ take-length ps
