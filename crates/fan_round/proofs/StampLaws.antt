-- How stamps follow the changed nets.
use Rattle.std.specs.Prelude.{◌≡◌, ℕ, ◌+◌, ◌<◌, ◌≤◌, Bool, true, false, not, if◌then◌else◌, List, length, map, take, slice_index_or, slice_set, refl}
use Rattle.std.proofs.Common.{sym, ◌∙◌, ap, arith}
use Rattle.std.proofs.lemmas.List.{map-set, get_or_default, take_all}
use Rattle.std.specs.declared.option.Option.{Option}
use Rattle.std.specs.declared.option.Option.TheVariants.{Some, None}
use Rattle.sg_logic.specs.declared.values.Value.{Value}
use Rattle.sg_logic.specs.declared.values.Value.TheVariants.{X}
use Rattle.sg_logic.specs.Values.{is_same}
use Rattle.sg_model.specs.Values.{value_at}
use Rattle.sg_model.specs.Machine as model
use Rattle.sg_model.specs.Round.{each_from, stamp_after}
use Rattle.fan_round.specs.declared.stamps.Stamp as code_stamp
use Rattle.fan_round.specs.Lists.{at_places}
use Rattle.fan_round.specs.Nets.{differs, AreChanged}
use Rattle.fan_round.specs.Nets.{stamp_seen}
use Rattle.fan_round.proofs.ListLaws.{listed_at, at_places-more, at_places-each}
use Rattle.fan_round.proofs.NetLaws.{changed-within}

-- a net that changed gets its stamp whatever it had
stamp_given : (now : ℕ) (before values : List Value) (net : ℕ) (old : Option model.Stamp) → differs before values net ≡ true → stamp_after now before values net old ≡ Some (record { time = now; before = value_at before net; after = value_at values net })
stamp_given now before values net old h = at (is_same (value_at before net) (value_at values net)) h
  where
    new : Option model.Stamp
    new = Some (record { time = now; before = value_at before net; after = value_at values net })

    at : (b : Bool) → not b ≡ true → (if b then old else Some (record { time = now; before = value_at before net; after = value_at values net })) ≡ Some (record { time = now; before = value_at before net; after = value_at values net })
    at true e = cc
    at false e = refl

-- one net more, which gets a stamp of its change
pub stamped_more : (now : ℕ) (before values : List Value) (nets : List ℕ) (i blank : ℕ) (d : Value) (stamp : code_stamp.Stamp) (start mid : List (Option code_stamp.Stamp)) → AreChanged before values nets → i < length nets
    → stamp.time ≡ now → stamp.before ≡ slice_index_or before (slice_index_or nets i blank) d → stamp.after ≡ slice_index_or values (slice_index_or nets i blank) d
    → map stamp_seen mid ≡ at_places (stamp_after now before values) None (take i nets) (map stamp_seen start)
    → map stamp_seen (slice_set mid (slice_index_or nets i blank) (Some stamp)) ≡ at_places (stamp_after now before values) None (take (i + 1) nets) (map stamp_seen start)
stamped_more now before values nets i blank d stamp start mid are l t was is e =
    let net : ℕ = slice_index_or nets i blank in
    let m : net < length before = changed-within before values nets i blank are l in
    let b : stamp.before ≡ value_at before net = was ∙ get_or_default before net d X m in
    let v : stamp.after ≡ value_at values net = is ∙ get_or_default values net d X (let many = are.as_many in omega arith) in
    let done : List (Option model.Stamp) = at_places (stamp_after now before values) None (take i nets) (map stamp_seen start) in
    let given = stamp_given now before values net (slice_index_or done net None) (listed_at (differs before values) nets i blank are.each l) in
    map-set stamp_seen mid net (Some stamp)
    ∙ (ap (λ ss. slice_set ss net (Some (record { time = stamp.time; before = stamp.before; after = stamp.after }))) e
    ∙ (ap (λ x. slice_set done net (Some (record { time = x; before = stamp.before; after = stamp.after }))) t
    ∙ (ap (λ x. slice_set done net (Some (record { time = now; before = x; after = stamp.after }))) b
    ∙ (ap (λ x. slice_set done net (Some (record { time = now; before = value_at before net; after = x }))) v
    ∙ (ap (λ s. slice_set done net s) (sym given) ∙ sym (at_places-more (stamp_after now before values) None nets i blank (map stamp_seen start) l))))))

-- all have theirs
pub stamped_all : (now : ℕ) (before values : List Value) (nets : List ℕ) (i : ℕ) (start mid : List (Option code_stamp.Stamp)) → AreChanged before values nets → length nets ≤ i
    → map stamp_seen mid ≡ at_places (stamp_after now before values) None (take i nets) (map stamp_seen start)
    → map stamp_seen mid ≡ each_from (stamp_after now before values) 0 (map stamp_seen start)
stamped_all now before values nets i start mid are l e =
    e ∙ (ap (λ ns. at_places (stamp_after now before values) None ns (map stamp_seen start)) (take_all i nets l)
    ∙ at_places-each (differs before values) (stamp_after now before values) None nets (map stamp_seen start) are.each (λ j m h. stays j (is_same (value_at before j) (value_at values j)) (slice_index_or (map stamp_seen start) j None) h))
  where
    stays : (j : ℕ) (b : Bool) (old : Option model.Stamp) → not b ≡ false → (if b then old else Some (record { time = now; before = value_at before j; after = value_at values j })) ≡ old
    stays j true old h = refl
    stays j false old h = cc
