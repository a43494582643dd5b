-- Joins `Words` to the code.
use Rattle.std.specs.Prelude.{map, option_map}
use Rattle.fit_words.specs.declared.words.Asked as code
use Rattle.fit_words.specs.Words.{Asked}

abbrev pub asked_seen : code.Asked → Asked
asked_seen a = record {
  netlists = map (λ name. name.now) a.netlists.items;
  out = a.out.now;
  sdf = map (λ name. name.now) a.sdf.items;
  top = option_map (λ name. name.now) a.top;
  defines = map (λ name. name.now) a.defines.items;
  includes = map (λ name. name.now) a.includes.items;
  supply0 = map (λ name. name.now) a.supply0.items;
  supply1 = map (λ name. name.now) a.supply1.items;
  cut = map (λ name. name.now) a.cut.items;
  dropped = map (λ name. name.now) a.dropped.items;
  drop_missing = a.drop_missing;
  no_checks = map (λ name. name.now) a.no_checks.items;
  no_notifier = map (λ name. name.now) a.no_notifier.items;
  is_strict = a.is_strict;
}
