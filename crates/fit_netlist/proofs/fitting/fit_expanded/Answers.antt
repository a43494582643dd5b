-- The rounds, and the check.
use Rattle.std.specs.Prelude.{map}
use Rattle.std.proofs.Common.{◌∙◌, ap, subst}
use Rattle.vl_lex.specs.Seen.{texts}
use Rattle.vl_token.specs.Seen.{lexeme}
use Rattle.fit_changes.specs.Lines.{line_seen}
use Rattle.fit_inside.specs.Inside.{IsAccepted}
use Rattle.fit_parts.specs.Parts.{heading_seen, headings_of}
use Rattle.fit_netlist.proofs.CheckingLaws.{kept-as}
use Rattle.fit_netlist.proofs.RoundLaws.{made-ahead}
use Rattle.fit_netlist.proofs.fitting.fit_expanded.Goals as goal

pub returns-clause-made : goal.returns-clause-made
returns-clause-made c = record {
  all = map line_seen c.rule_rounds.new.lines.items;
  made = made-ahead _ _ _ _ _ _ c.in_ok-shaped.ensures.made c.in_ok-texts.ensures.made;
  sorted = c.in_ok-sort_lines.ensures;
  accepted = subst (λ ts. IsAccepted (texts ts)) c.deref-3.ensures.value c.in_ok-check.ensures.accepted;
  kept =
      kept-as _ _ _ _ _ _ _ c.bytes_of.ensures (ap texts c.deref-3.ensures.value) (ap (map line_seen) c.deref-4.ensures.value)
      (c.in_ok-check.ensures.kept (texts c.args.expanded.now) (map lexeme c.in_ok-tokens.tokens.items) c.in_ok-tokens.ensures.read
      (ap (map heading_seen) c.deref-5.ensures.value ∙ c.in_ok-headings.ensures ∙ ap (λ ts. headings_of (map lexeme ts)) c.deref.ensures.value));
}
