-- What was asked for by words that were read.
use Rattle.std.proofs.Common.{◌≡◌, sym, ℕ, List, ◌≤◌, map, length, arith}
use Rattle.std.proofs.lemmas.List.{length-map}
use Rattle.std.specs.Prelude.{Some}
use Rattle.why_words.specs.Words.{asked_of}
use Rattle.why_words.specs.WordsSeen.{asked_seen, question_seen}
use Rattle.why_words.specs.declared.words.Asked as code
use Rattle.why_words.specs.declared.questions.Question as code_question
use Rattle.why_words.specs.declared.questions.Question.TheVariants as question
use Rattle.why_words.proofs.Laws as law
use Rattle.why_top.specs.Seen.{IsReady, IsSoon}

soon : (q : code_question.Question) → law.IsSoon (question_seen q) → IsSoon q
soon (question.Net name time) h = omega (arith, h)
soon (question.Violation line) h = tt

pub asked_ready : (ws : List (List ℕ)) (x : code.Asked) → Some (asked_seen x) ≡ asked_of ws → IsReady x
asked_ready ws x e =
    let fit = law.asked_fit ws (asked_seen x) (sym e) in
    let some : 1 ≤ length (map (λ n. n.now) x.design.netlists.items) = fit.netlists in
    record { netlists = omega (arith, some, length-map x.design.netlists.items (λ n. n.now)); rounds = omega (arith, fit.rounds); soon = soon x.question fit.soon }
