-- The ack and credit payload pairs of the plain layer (01, "Plain layer"): 29, then 27 or 28. Their limits and a payload's number are in `Outer`.
use Rattle.std.specs.Prelude.{ℕ, Bool, List, [], ◌∷◌, length, replicate, eqb, Result, Ok, Err}
use Rattle.wire.specs.Bytes.{from_le, to_le}
use Rattle.wire.specs.Refusals.{pick, refusal, none, refusal_of, first, passes}
use Rattle.wire.specs.declared.Refusal.{Refusal}
use Rattle.outer.specs.Outer.{window_ok, credit_ok}
use Rattle.wire.specs.declared.errors.Error.{Error}

-- what encoding a payload answers: what is refused, and the four bytes
pub record EncodedPayload : Type 0 where
  pub refusal : Refusal
  pub payload : List ℕ

abbrev pub encoded : Result (List ℕ) Error → EncodedPayload
encoded (Ok payload) = record { refusal = none; payload = payload }
encoded (Err e) = record { refusal = refusal_of e; payload = replicate 4 0 }

-- what decoding a payload answers: what is refused, and the value
pub record DecodedPayload : Type 0 where
  pub refusal : Refusal
  pub value : ℕ

abbrev pub decoded : Result ℕ Error → DecodedPayload
decoded (Ok value) = record { refusal = none; value = value }
decoded (Err e) = record { refusal = refusal_of e; value = 0 }

abbrev pub accepted_encoding : ℕ → EncodedPayload
accepted_encoding v = record { refusal = none; payload = to_le 4 v }

abbrev pub refused_encoding : ℕ → EncodedPayload
refused_encoding number = record { refusal = refusal number 0 0 0; payload = replicate 4 0 }

abbrev pub accepted_decoding : ℕ → DecodedPayload
accepted_decoding v = record { refusal = none; value = v }

abbrev pub refused_decoding : ℕ → DecodedPayload
refused_decoding number = record { refusal = refusal number 0 0 0; value = 0 }

-- a value within its limits, or the number
unfoldable pub encode_payload : (ℕ → Bool) → ℕ → ℕ → EncodedPayload
encode_payload ok number v =
    let r : Refusal = first ((ok v, refusal number 0 0 0) ∷ []) in
    pick (passes r) (accepted_encoding v) (refused_encoding r.number)

-- 29 not four bytes, then a value within its limits, or the number
unfoldable pub decode_payload : (ℕ → Bool) → ℕ → List ℕ → DecodedPayload
decode_payload ok number p =
    let r : Refusal = first ((eqb (length p) 4, refusal 29 0 0 0) ∷ (ok (from_le p), refusal number 0 0 0) ∷ []) in
    pick (passes r) (accepted_decoding (from_le p)) (refused_decoding r.number)

-- 27 window
abbrev pub encode_ack_payload : ℕ → EncodedPayload
encode_ack_payload = encode_payload window_ok 27

abbrev pub decode_ack_payload : List ℕ → DecodedPayload
decode_ack_payload = decode_payload window_ok 27

-- 28 credit
abbrev pub encode_credit_payload : ℕ → EncodedPayload
encode_credit_payload = encode_payload credit_ok 28

abbrev pub decode_credit_payload : List ℕ → DecodedPayload
decode_credit_payload = decode_payload credit_ok 28
