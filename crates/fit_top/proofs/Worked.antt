-- What the work leaves, from the answer and from the making of its files.
use Rattle.std.proofs.Common.{◌≡◌, ◌∙◌, sym, subst, refl, inl, ℕ, List, map}
use Rattle.std.specs.Prelude.{Option, Some, None, Ok, Err}
use Rattle.sg_io.specs.Files.{File, BothTell}
use Rattle.fit_words.specs.Words.{Asked, inputs_of, made_of}
use Rattle.fit_top.specs.Answer.{Answer, IsAnswerFor, Meeting, refusal, usage_line}
use Rattle.fit_top.specs.Including.{FailsReading}
use Rattle.fit_top.specs.Promises.{FilesAfter, IsRight, OthersStay}
use Rattle.fit_top.specs.Stops.{FailsAmong, IfFailed, IfFolder}
use Rattle.fit_top.specs.Work.{IsNamed, WorkLeaves}
use Rattle.fit_top.specs.declared.answer.Told as code
use Rattle.fit_top.specs.declared.status.Status.TheVariants as status
use Rattle.fit_top.specs.declared.stop.Stop.{Stop}
use Rattle.fit_top.specs.declared.stop.Stop.TheVariants as stop
use Rattle.fit_top.proofs.MadeNames.{answer_made, none_made_by, one_made_by}
use Rattle.fit_top.proofs.Putting.{both_same}
use Rattle.fit_top.proofs.IncludingLaws.{reached_by}
use Rattle.fit_top.proofs.Reading.{one_behind}

-- what both tell, where the first is known
both_from : (P Q : List File → List File → Type 0) (a mid b : Option (List File)) → mid ≡ a → BothTell mid b P → ((x : List File) → a ≡ Some x → (y : List File) → P x y → Q x y) → BothTell a b Q
both_from P Q a mid b e h f = by a b (subst (λ o. BothTell o b P) e h) f
  where
    by : (c d : Option (List File)) → BothTell c d P → ((x : List File) → c ≡ Some x → (y : List File) → P x y → Q x y) → BothTell c d Q
    by (Some x) (Some y) p g = g x refl y p
    by None None p g = tt
    by None (Some y) p g = absurd p
    by (Some x) None p g = absurd p

module _ (asked : Asked) (meeting : Meeting) where
  -- a call to read failed
  pub read_named : (X Y : Type 0) (old : Option (List File)) (last : Option (List ℕ)) (s : Stop) → FailsReading {X = X} asked last (Err s) → IfFailed {X = Y} (IsNamed (Some asked) old last) (Err s)
  read_named X Y old last stop.Failed h = record { name = h.name; is_last = h.told; among = λ files e. reached_by asked h.name h.reached }
  read_named X Y old last (stop.Folder n) h = tt
  read_named X Y old last stop.NoMemory h = tt

  module _ (answer : Answer) (a mid : Option (List File)) (same : mid ≡ a) (right : (held : List File) → a ≡ Some held → IsAnswerFor asked meeting held answer) where
    -- a call to make one failed
    pub make_named : (X Y : Type 0) (last : Option (List ℕ)) (s : Stop) → FailsAmong {X = X} last (map (λ f. f.name) answer.made) (Err s) → IfFailed {X = Y} (IsNamed (Some asked) a last) (Err s)
    make_named X Y last stop.Failed h = record {
      name = h.name;
      is_last = h.told;
      among = λ held e. inl (one_behind h.name (inputs_of asked) (made_of asked) (one_made_by asked answer.made (answer_made asked meeting held answer (right held e)) h.name h.among));
    }
    make_named X Y last (stop.Folder n) h = tt
    make_named X Y last stop.NoMemory h = tt

    others : (b : Option (List File)) → BothTell mid b (OthersStay (map (λ f. f.name) answer.made)) → BothTell a b (OthersStay (made_of asked))
    others b h = both_from (OthersStay (map (λ f. f.name) answer.made)) (OthersStay (made_of asked)) a mid b same h
        (λ x e y k q none. k q (none_made_by asked answer.made (answer_made asked meeting x answer (right x e)) q none))

    pub stopped_left : (X : Type 0) (b : Option (List File)) (s : Stop) → BothTell mid b (OthersStay (map (λ f. f.name) answer.made)) → IfFolder {X = X} (λ _. b ≡ mid) (Err s) → BothTell a b (WorkLeaves (Some asked) meeting (Err s))
    stopped_left X b stop.Failed h f = others b h
    stopped_left X b (stop.Folder n) h f = both_same (λ x y. y ≡ x) a b (f ∙ same) (λ x e. refl)
    stopped_left X b stop.NoMemory h f = others b h

    pub right_left : (b : Option (List File)) (end : code.Told) → end.status ≡ answer.status → end.text.items ≡ answer.report → BothTell mid b (FilesAfter answer.made) → BothTell a b (WorkLeaves (Some asked) meeting (Ok end))
    right_left b end s t h = both_from (FilesAfter answer.made) (IsRight (Some asked) meeting end.status end.text.items) a mid b same h
        (λ x e y k. record { answer = answer; right = right x e; status = s; report = t; files = k })

-- the words are refused
pub usage_left : (o : Option Asked) (meeting : Meeting) (end : code.Told) (a : Option (List File)) → o ≡ None → end.status ≡ status.Usage → end.text.items ≡ usage_line → BothTell a a (WorkLeaves o meeting (Ok end))
usage_left o meeting end a e s t =
    both_same (IsRight o meeting end.status end.text.items) a a refl (λ x is. subst (λ p. IsRight p meeting end.status end.text.items x x) (sym e) (record {
      answer = refusal status.Usage usage_line;
      right = refl;
      status = s;
      report = t;
      files = refl;
    }))
