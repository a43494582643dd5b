-- What is left in the file of a dump, by how the call that writes it is answered.
use Rattle.std.proofs.Common.{◌≡◌, ◌∙◌, sym, ap, refl, subst, ℕ, List, [], ◌++◌, length, take, inl, inr, arith}
use Rattle.std.proofs.lemmas.List.{append-nil, take_all}
use Rattle.std.specs.Prelude.{Option, Some, None, Result, Ok, Err}
use Rattle.sg_io.specs.Files.{File, BothTell, HasAfter}
use Rattle.sg_io.specs.declared.outside.ShelfError.{ShelfError}
use Rattle.sg_io.specs.declared.outside.ShelfError.TheVariants as shelf
use Rattle.sg_circuit.specs.Circuit.{Circuit}
use Rattle.wave_out.specs.Files.{FileBegins, FileHolds, KeepsOthers, Leaves, LeavesPrefix, others_then}
use Rattle.wave_out.specs.Writing.{Writer}
use Rattle.wave_out.proofs.FileLaws.{begins, first-bytes, told_before}

-- the file as an answer has it
abbrev pub FileAs : {X : Type 0} → List ℕ → List ℕ → Option (List File) → Result X ShelfError → Type 0
FileAs name text told (Ok x) = FileHolds name text told
FileAs name text told (Err e) = FileBegins name text told

-- what is held is begun
pub held_begins : (name text : List ℕ) (told : Option (List File)) → FileHolds name text told → FileBegins name text told
held_begins name text told h = subst (λ t. FileBegins name t told) (append-nil text) (begins name text [] told h)

-- what all calls together leave
others_new : (name text : List ℕ) (old new : Option (List File)) → BothTell old new (HasAfter name text) → KeepsOthers name old new
others_new name text (Some a) (Some b) h = h.others
others_new name text None None h = tt
others_new name text None (Some b) h = h
others_new name text (Some a) None h = h

leaves_as : {X : Type 0} (name text : List ℕ) (old new : Option (List File)) (o : Result X ShelfError) → KeepsOthers name old new → FileAs name text new o → BothTell old new (Leaves name text o)
leaves_as name text (Some a) (Some b) (Ok x) others h = record { this = h b refl; others = others }
leaves_as name text (Some a) (Some b) (Err e) others h = record { this = inr (h b refl); others = others }
leaves_as name text None None o others h = tt
leaves_as name text None (Some b) o others h = others
leaves_as name text (Some a) None o others h = others

-- a text begins with a head, of which the file has nothing, or the first bytes
pub leaves_less : (name head more text : List ℕ) (old new : Option (List File)) → text ≡ head ++ more → BothTell old new (LeavesPrefix name head) → BothTell old new (LeavesPrefix name text)
leaves_less name head more text (Some a) (Some b) e h = record {
  this = elim h.this [
    | inl same ↦ inl same
    | inr first ↦ inr (length (take first.0 head), first.1 ∙ ap Some (first-bytes first.0 head more ∙ ap (take (length (take first.0 head))) (sym e)))
  ];
  others = h.others;
}
leaves_less name head more text None None e h = tt
leaves_less name head more text None (Some b) e h = h
leaves_less name head more text (Some a) None e h = h

-- or the head alone, in a new file
pub leaves_head : {S : Type 0} (files : S → Option (List File)) (name head more text : List ℕ) (old : Option (List File)) (a b : S) → text ≡ head ++ more → BothTell old (files a) (HasAfter name head) → b ≡ a → BothTell old (files b) (LeavesPrefix name text)
leaves_head files name head more text old a b e h same =
    subst (λ x. BothTell old (files x) (LeavesPrefix name text)) (sym same)
    (leaves_less name head more text old (files a) e (leaves_as {X = Unit {0}} name head old (files a) (Err shelf.NoMemory) (others_new name head old (files a) h)
    (λ x f. let told = told_before (HasAfter name head) old (files a) x h f in (length head, told.2.this ∙ ap Some (sym (take_all (length head) head (omega arith)))))))

-- a new file that had the head has what its writer left there
pub leaves_own : {X : Type 0} (text_of : Circuit → List ℕ) (name head : List ℕ) (circuit : Circuit) (w w' : Writer) (old a b : Option (List File)) (result : Result X ShelfError) → w.name ≡ name → w.circuit ≡ circuit → BothTell old a (HasAfter name head)
    → w'.name ≡ w.name → w'.circuit ≡ w.circuit → KeepsOthers w.name a b → FileAs w'.name (text_of w'.circuit) b result → BothTell old b (Leaves name (text_of circuit) result)
leaves_own text_of name head circuit w w' old a b result named of begun same_name same_circuit others own =
    leaves_as name (text_of circuit) old b result (others_then name old a b (others_new name head old a begun) (subst (λ n. KeepsOthers n a b) named others))
    (subst (λ c. FileAs name (text_of c) b result) (same_circuit ∙ of) (subst (λ n. FileAs n (text_of w'.circuit) b result) (same_name ∙ named) own))
