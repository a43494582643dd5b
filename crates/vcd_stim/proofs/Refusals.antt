-- One of several faults is refused.
use Rattle.std.specs.Prelude.{ℕ, ◌+◌, ◌/◌, ◌*◌, ◌^◌, ◌≡◌, Bool, true, false, not, nat_le, nat_lt, List, [], ◌∷◌, ◌++◌, length, Result, Ok, Err, MatchResult, IfErr, refl, if◌then◌else◌}
use Rattle.std.specs.List.{IsAmong}
use Rattle.std.proofs.Common.{sym, ◌∙◌, ap, subst, arith, length-append}
use Rattle.std.proofs.lemmas.List.{get_or_append_left, get_or-append-add}
use Rattle.sg_text.specs.declared.refusals.Refused.{Refused}
use Rattle.sg_text.specs.declared.refusals.Refused.TheVariants as refused
use Rattle.sg_time.specs.Spelling.{number_from}
use Rattle.vcd_model.specs.declared.kinds.VcdKind.{VcdKind}
use Rattle.vcd_model.specs.declared.kinds.VcdKind.TheVariants.{NotWholeTick, TimeFalls, TooLarge}
use Rattle.vcd_model.specs.Faults.{fault, fault_if, many_digits, time_faults, Fault}
use Rattle.vcd_model.specs.Values.{denominator, is_too_large, is_whole, numerator, Scale}
use Rattle.vcd_stim.specs.Meant.{time_ticks, told, RefusesOneOf}

among-left : {A : Type 0} (xs ys : List A) (v : A) → IsAmong xs v → IsAmong (xs ++ ys) v
among-left xs ys v (i, (lt, e)) =
    let l : length (xs ++ ys) ≡ length xs + length ys = length-append xs ys in
    (i, (omega arith, e ∙ sym (get_or_append_left xs ys v i lt)))

among-right : {A : Type 0} (xs ys : List A) (v : A) → IsAmong ys v → IsAmong (xs ++ ys) v
among-right xs ys v (i, (lt, e)) =
    let l : length (xs ++ ys) ≡ length xs + length ys = length-append xs ys in
    (length xs + i, (omega arith, e ∙ sym (get_or-append-add xs ys i v)))

pub refused-left : (xs ys : List Fault) (r : Refused VcdKind) → RefusesOneOf xs r → RefusesOneOf (xs ++ ys) r
refused-left xs ys (refused.Fault k p) h = among-left xs ys (record { kind = k; place = p }) h
refused-left xs ys refused.NoMemory h = tt

pub refused-right : (xs ys : List Fault) (r : Refused VcdKind) → RefusesOneOf ys r → RefusesOneOf (xs ++ ys) r
refused-right xs ys (refused.Fault k p) h = among-right xs ys (record { kind = k; place = p }) h
refused-right xs ys refused.NoMemory h = tt

pub head-refused : (k : VcdKind) (byte : ℕ) (more : List Fault) → RefusesOneOf (fault k byte ∷ more) (told k byte)
head-refused k byte more = (0, (omega arith, refl))

-- a fault is told where its test holds
pub test-refused : (test : Bool) (k : VcdKind) (byte : ℕ) → test ≡ true → RefusesOneOf (fault_if test k byte) (told k byte)
test-refused test k byte e = rw e (head-refused k byte [])

-- the exits of a `?`
pub exit-match : {A : Type 0} (P : A → Type 0) (Q : Refused VcdKind → Type 0) (result : Result A (Refused VcdKind)) (e : Refused VcdKind) → ((x : Refused VcdKind) × (result ≡ Err x) × (x ≡ e)) → Q e → MatchResult result P Q
exit-match P Q result e (x, r, s) h = subst (λ y. MatchResult y P Q) (sym r) (subst Q (sym s) h)

pub exit-err : {A : Type 0} (Q : Refused VcdKind → Type 0) (result : Result A (Refused VcdKind)) (e : Refused VcdKind) → ((x : Refused VcdKind) × (result ≡ Err x) × (x ≡ e)) → Q e → IfErr result Q
exit-err Q result e (x, r, s) h = subst (λ y. IfErr y Q) (sym r) (subst Q (sym s) h)

-- a time that isn't a whole number of ticks, or is too large
pub time-refused : (scale : Scale) (byte before number : ℕ) (digits : List ℕ) (kind : VcdKind) → number ≡ number_from 0 digits → Err kind ≡ time_ticks scale number → RefusesOneOf (time_faults scale byte before digits) (told kind byte)
time-refused scale byte before number digits kind n e =
    by (is_whole scale t) (is_too_large scale t) refl refl (e ∙ ap (time_ticks scale) n)
  where
    t : ℕ
    t = number_from 0 digits

    whole : is_whole scale t ≡ false → RefusesOneOf (time_faults scale byte before digits) (told NotWholeTick byte)
    whole f =
        refused-right (fault_if (many_digits digits) TooLarge byte) _ (told NotWholeTick byte)
        (refused-right (fault_if (is_too_large scale t) TooLarge byte) _ (told NotWholeTick byte)
        (refused-left (fault_if (not (is_whole scale t)) NotWholeTick byte) (fault_if (nat_lt t before) TimeFalls byte) (told NotWholeTick byte) (test-refused (not (is_whole scale t)) NotWholeTick byte (ap not f))))

    large : is_too_large scale t ≡ true → RefusesOneOf (time_faults scale byte before digits) (told TooLarge byte)
    large f =
        refused-right (fault_if (many_digits digits) TooLarge byte) _ (told TooLarge byte)
        (refused-left (fault_if (is_too_large scale t) TooLarge byte) _ (told TooLarge byte) (test-refused (is_too_large scale t) TooLarge byte f))

    by : (w l : Bool) → is_whole scale t ≡ w → is_too_large scale t ≡ l → Err kind ≡ time_ticks scale t → RefusesOneOf (time_faults scale byte before digits) (told kind byte)
    by false l f g k =
        let same : ◌≡◌ {A = Result ℕ VcdKind} (Err kind) (Err NotWholeTick) = k ∙ ap (λ b. if not b then Err NotWholeTick else if nat_le (2 ^ 60 * denominator scale) (numerator scale t) then Err TooLarge else Ok (numerator scale t / denominator scale)) f in
        let is : NotWholeTick ≡ kind = cc in
        subst (λ x. RefusesOneOf (time_faults scale byte before digits) (told x byte)) is (whole f)
    by true true f g k =
        let same : ◌≡◌ {A = Result ℕ VcdKind} (Err kind) (Err TooLarge) = k ∙ ap (λ b. if not b then Err NotWholeTick else if nat_le (2 ^ 60 * denominator scale) (numerator scale t) then Err TooLarge else Ok (numerator scale t / denominator scale)) f ∙ ap (λ b. if b then Err TooLarge else Ok (numerator scale t / denominator scale)) g in
        let is : TooLarge ≡ kind = cc in
        subst (λ x. RefusesOneOf (time_faults scale byte before digits) (told x byte)) is (large g)
    by true false f g k =
        let same : ◌≡◌ {A = Result ℕ VcdKind} (Err kind) (Ok (numerator scale t / denominator scale)) = k ∙ ap (λ b. if not b then Err NotWholeTick else if nat_le (2 ^ 60 * denominator scale) (numerator scale t) then Err TooLarge else Ok (numerator scale t / denominator scale)) f ∙ ap (λ b. if b then Err TooLarge else Ok (numerator scale t / denominator scale)) g in
        absurd (cc)
