use Rattle.std.proofs.Common.{rules, ◌≡◌, ◌∷◌, [], true, IfOk, Ok, map}
use Rattle.fit_checks.specs.Forms.{AreExact}
use Rattle.vl_lex.specs.Lexes.{Lexes}
use Rattle.vl_lex.specs.Seen.{texts}
use Rattle.vl_token.specs.Seen.{lexeme}
use Rattle.fit_checks.proofs.FormLaws.{texts_if}
use Rattle.fit_checks.proofs.exact.is_exact.Goals as goal

pub returns : goal.returns
returns c =
    let p : texts c.in_ok-old_files.old_files.items ≡ c.args.replaced.now ∷ [] = search rules in
    let q : texts c.in_ok-new_files.new_files.items ≡ c.args.text.now ∷ [] = search rules in
    let r : Lexes (texts c.in_ok-old_files.old_files.items) (Ok (map lexeme c.in-Some.old.items)) = search rules in
    let s : Lexes (texts c.in_ok-new_files.new_files.items) (Ok (map lexeme c.in-Some-2.new.items)) = search rules in
    let e : IfOk c.are_exact.result (λ exact. exact ≡ true → AreExact (map lexeme c.in-Some.old.items) (map lexeme c.in-Some-2.new.items)) = search rules in
    texts_if c.are_exact.result c.args.replaced.now c.args.text.now (texts c.in_ok-old_files.old_files.items) (texts c.in_ok-new_files.new_files.items) (map lexeme c.in-Some.old.items) (map lexeme c.in-Some-2.new.items) p q r s e
