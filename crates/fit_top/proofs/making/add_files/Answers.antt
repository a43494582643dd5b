-- One file more.
use Rattle.std.proofs.Common.{◌∙◌, sym, ap, rules, [], ◌∷◌, ◌++◌, drop, length, map}
use Rattle.std.proofs.lemmas.List.{map-append}
use Rattle.std.proofs.lemmas.Slice.Zip.{zip_turn, zip_end}
use Rattle.std.specs.Prelude.{zip}
use Rattle.fit_top.specs.Answer.{made_file}
use Rattle.fit_top.specs.Work.{made_seen}
use Rattle.fit_top.proofs.Pairs.{pair_last, pair_step, zip_seen}
use Rattle.fit_top.proofs.ToldLaws.{made_last, made_step, same_file}
use Rattle.fit_top.proofs.making.add_files.Goals as goal

pub loop-name-preserved : goal.loop-name-preserved
loop-name-preserved c = record {
  steps = (tt, tt);
  ends = tt;
  left = made_step (made_file c.args.folder.now) (zip c.args.names.now c.args.texts.now) (drop (length c.loop-name.yielded) (zip c.args.names.now c.args.texts.now))
      (drop (length (c.loop-name.yielded ++ (c.in-Some.name, c.in-Some.written) ∷ [])) (zip c.args.names.now c.args.texts.now)) (c.in-Some.name.now, c.in-Some.written.now)
      (map made_seen c.args.made.now.items) (map made_seen c.loop-name.made.items) (map made_seen c.push.new.self.items)
      (pair_step c.args.names.now c.args.texts.now c.loop-name.yielded (c.in-Some.name, c.in-Some.written)
      (zip_turn c.args.names.now c.args.texts.now c.loop-name.yielded c.into_iter-name-iterator.result c.loop-name.name-iterator c.next.new.self c.next.result
      (search (rules, c.zip-name-items.ensures.first, c.iter.ensures.rest, c.into_iter-name-iterator.ensures.into_iter_gives))
      (search (rules, c.zip-name-items.ensures.second, c.iter.ensures.rest, c.into_iter-name-iterator.ensures.into_iter_gives))
      c.loop-name.yielded_by (c.in-Some.name, c.in-Some.written) c.in-Some.is c.next.ensures.steps))
      (ap (map made_seen) c.in_ok-push.ensures.items ∙ map-append made_seen c.loop-name.made.items (_ ∷ [])
      ∙ ap (λ f. map made_seen c.loop-name.made.items ++ f ∷ []) (same_file _ _ _ _ c.in_ok-name.ensures (c.in_ok-text.ensures.items ∙ c.deref.ensures.value)))
      c.loop-name.invariant.left;
}

pub returns : goal.returns
returns c =
    made_last (made_file c.args.folder.now) (zip c.args.names.now c.args.texts.now) (drop (length c.loop-name.yielded) (zip c.args.names.now c.args.texts.now))
    (map made_seen c.args.made.now.items) (map made_seen c.loop-name.made.items)
    (pair_last c.args.names.now c.args.texts.now c.loop-name.yielded
    (zip_end c.args.names.now c.args.texts.now c.loop-name.yielded c.into_iter-name-iterator.result c.loop-name.name-iterator c.next.new.self c.next.result
    (search (rules, c.zip-name-items.ensures.first, c.iter.ensures.rest, c.into_iter-name-iterator.ensures.into_iter_gives))
    (search (rules, c.zip-name-items.ensures.second, c.iter.ensures.rest, c.into_iter-name-iterator.ensures.into_iter_gives))
    c.loop-name.yielded_by c.in-None.is c.next.ensures.steps))
    c.loop-name.invariant.left
    ∙ ap (λ ps. map made_seen c.args.made.now.items ++ map (made_file c.args.folder.now) ps) (sym (zip_seen (λ n. n.now) (λ t. t.items) c.args.names.now c.args.texts.now))
