-- The tokens of values and of delays.
use Rattle.std.specs.Prelude.{◌≡◌, true, List, [], ◌∷◌, ◌++◌, Option, Some, None}
use Rattle.std.specs.Option.{option_map}
use Rattle.std.proofs.Common.{ℕ, refl, ap, ◌∙◌}
use Rattle.grammar.specs.Rule.{◌∙∙◌, ◌▸◌, ◌◂◌, mapped}
use Rattle.sg_text.specs.declared.places.Place.{Place}
use Rattle.sdf_lex.specs.Tokens.{Meaning, word_token, left_token, right_token}
use Rattle.sdf_tree.specs.Kinds.{is_left, is_right, is_select, is_number, word_text}
use Rattle.sdf_tree.specs.Rules.{mark, optional, placed}
use Rattle.sdf_tree.specs.Values.{number_word, number_parts, number, value_of, others, numbers_parts, numbers, value_or_none, value_parts, value, limits_of, delay_rest_parts, delay_rest, delay_parts, delay}
use Rattle.sdf_tree.specs.Words.{begins_number}
use Rattle.sdf_tree.specs.Written.{Number, Value, Limits, Delay}
use Rattle.sdf_tree.proofs.NumberLaws.{number_word as number_kind}
use Rattle.written_model.specs.Tree.{nowhere, number_of, lone}
use Rattle.written_reading.specs.Meanings.{value_meanings}
use Rattle.written_reading.specs.Placeless as placeless
use Rattle.written_reading.proofs.Tells.{Tells, Says, tells_token, tells_mark, tells_image, tells_placed, tells_none, tells_some, tells_left, tells_both, tells_first, tells_second}

module _ (text : List ℕ) (begins : begins_number text ≡ true) where
  pub says_number : Says number.language placeless.number (number_of text) (word_token text ∷ [])
  unfolding number_parts
  says_number =
      tells_first number_word.language (optional (mark is_select)).language (λ n. placeless.number n ≡ number_of text) (λ o. o ≡ None) (word_token text ∷ []) []
      (tells_token (λ t. record { place = t.place; text = word_text t.meaning }) is_number (λ n. placeless.number n ≡ number_of text) (word_token text) (number_kind text ∙ begins) (λ t e. ap (λ (m : Meaning). number_of (word_text m)) e))
      (tells_none (mark is_select).language)

  lone_value : (n : Number) → placeless.number n ≡ number_of text → placeless.value (value_of n None) ≡ lone text
  lone_value n e = ap (λ (x : Number). let v : Value = record { min = Some x; typ = Some x; max = Some x } in v) e

  pub says_numbers : Says numbers.language placeless.value (lone text) (word_token text ∷ [])
  unfolding numbers_parts
  says_numbers =
      tells_left (mapped (λ x. value_of x.0 x.1) (number ∙∙ optional others)).language (mapped (λ x. let v : Value = record { min = None; typ = x.0; max = x.1 } in v) others).language (λ v. placeless.value v ≡ lone text) (word_token text ∷ [])
      (tells_image (λ (x : Number × Option (Option Number × Option Number)). value_of x.0 x.1) (number ∙∙ optional others).language (λ x. (placeless.number x.0 ≡ number_of text) × (x.1 ≡ None)) (λ v. placeless.value v ≡ lone text) (word_token text ∷ [])
      (tells_both number.language (optional others).language (λ n. placeless.number n ≡ number_of text) (λ o. o ≡ None) (word_token text ∷ []) [] says_number (tells_none others.language))
      (λ x p. ap (λ (o : Option (Option Number × Option Number)). placeless.value (value_of x.0 o)) p.1 ∙ lone_value x.0 p.0))

pub says_value : (text : List ℕ) → begins_number text ≡ true → Says value.language placeless.value (lone text) (value_meanings text)
unfolding value_parts
says_value text begins =
    tells_image value_or_none (mark is_left ▸ (optional numbers ◂ mark is_right)).language (λ o. option_map placeless.value o ≡ Some (lone text)) (λ v. placeless.value v ≡ lone text) (value_meanings text)
    (tells_second (mark is_left).language (optional numbers ◂ mark is_right).language (λ u. Unit {0}) (λ o. option_map placeless.value o ≡ Some (lone text)) (left_token ∷ []) (word_token text ∷ right_token ∷ [])
    (tells_mark is_left left_token refl)
    (tells_first (optional numbers).language (mark is_right).language (λ o. option_map placeless.value o ≡ Some (lone text)) (λ u. Unit {0}) (word_token text ∷ []) (right_token ∷ [])
    (tells_some numbers.language (λ v. placeless.value v ≡ lone text) (λ o. option_map placeless.value o ≡ Some (lone text)) (word_token text ∷ []) (says_numbers text begins) (λ v e. ap (λ (x : Value). Some x) e))
    (tells_mark is_right right_token refl)))
    given
  where
    given : (o : Option Value) → option_map placeless.value o ≡ Some (lone text) → placeless.value (value_or_none o) ≡ lone text
    given None e = absurd cc
    given (Some v) e = cc

-- ---- a delay and its limits

module _ (delay_text reject error : List ℕ) where
  abbrev pub rest_meanings : List Meaning
  rest_meanings = value_meanings delay_text ++ (value_meanings reject ++ (value_meanings error ++ right_token ∷ []))

  abbrev pub with_limits : Delay
  with_limits = record { place = nowhere; delay = lone delay_text; limits = Some (record { reject = lone reject; error = Some (lone error) }) }

  abbrev pub IsRest : Value × Option Limits → Type 0
  IsRest x = (placeless.value x.0 ≡ lone delay_text) × (option_map placeless.limits x.1 ≡ Some (record { reject = lone reject; error = Some (lone error) }))

  abbrev ErrorIs : Option Value → Type 0
  ErrorIs o = option_map placeless.value o ≡ Some (lone error)

  abbrev IsLimits : Value × Option Value → Type 0
  IsLimits x = (placeless.value x.0 ≡ lone reject) × ErrorIs x.1

  limits_are : (x : Value × Option Value) → IsLimits x → placeless.limits (limits_of x.0 x.1) ≡ record { reject = lone reject; error = Some (lone error) }
  limits_are x p = ap (λ (v : Value). let l : Limits = record { reject = v; error = option_map placeless.value x.1 } in l) p.0 ∙ ap (λ (o : Option Value). let l : Limits = record { reject = lone reject; error = o } in l) p.1

  pub delay_is : (place : Place) (x : Value × Option Limits) → IsRest x → (let d : Delay = record { place = place; delay = x.0; limits = x.1 } in placeless.delay d) ≡ with_limits
  delay_is place x p = ap (λ (v : Value). let y : Delay = record { place = nowhere; delay = v; limits = option_map placeless.limits x.1 } in y) p.0 ∙ ap (λ (l : Option Limits). let y : Delay = record { place = nowhere; delay = lone delay_text; limits = l } in y) p.1

  module _ (d : begins_number delay_text ≡ true) (r : begins_number reject ≡ true) (e : begins_number error ≡ true) where
    pub tells_rest : Tells delay_rest.language IsRest rest_meanings
    unfolding delay_rest_parts
    tells_rest =
        tells_left (mapped (λ (x : Value × (Value × Option Value)). (x.0, Some (limits_of x.1.0 x.1.1))) (value ∙∙ (value ∙∙ (optional value ◂ mark is_right)))).language (mapped (λ (v : Option Value). (value_or_none v, None)) (optional numbers ◂ mark is_right)).language IsRest rest_meanings
        (tells_image (λ (x : Value × (Value × Option Value)). (x.0, Some (limits_of x.1.0 x.1.1))) (value ∙∙ (value ∙∙ (optional value ◂ mark is_right))).language (λ x. (placeless.value x.0 ≡ lone delay_text) × IsLimits x.1) IsRest rest_meanings
        (tells_both value.language (value ∙∙ (optional value ◂ mark is_right)).language (λ v. placeless.value v ≡ lone delay_text) IsLimits (value_meanings delay_text) (value_meanings reject ++ (value_meanings error ++ right_token ∷ []))
        (says_value delay_text d)
        (tells_both value.language (optional value ◂ mark is_right).language (λ v. placeless.value v ≡ lone reject) ErrorIs (value_meanings reject) (value_meanings error ++ right_token ∷ [])
        (says_value reject r)
        (tells_first (optional value).language (mark is_right).language ErrorIs (λ u. Unit {0}) (value_meanings error) (right_token ∷ [])
        (tells_some value.language (λ v. placeless.value v ≡ lone error) ErrorIs (value_meanings error) (says_value error e) (λ v p. ap (λ (x : Value). Some x) p))
        (tells_mark is_right right_token refl))))
        (λ x p. (p.0, ap (λ (l : Limits). Some l) (limits_are x.1 p.1))))

    pub says_delay : Says delay.language placeless.delay with_limits (left_token ∷ rest_meanings)
    unfolding delay_parts
    says_delay =
        tells_image (λ (x : Place × (Value × Option Limits)). let y : Delay = record { place = x.0; delay = x.1.0; limits = x.1.1 } in y) (placed (mark is_left ▸ delay_rest)).language (λ x. IsRest x.1) (λ y. placeless.delay y ≡ with_limits) (left_token ∷ rest_meanings)
        (tells_placed (mark is_left ▸ delay_rest).language IsRest left_token rest_meanings
        (tells_second (mark is_left).language delay_rest.language (λ u. Unit {0}) IsRest (left_token ∷ []) rest_meanings (tells_mark is_left left_token refl) tells_rest))
        (λ x p. delay_is x.0 x.1 p)
