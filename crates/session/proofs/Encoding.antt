-- What a loop that encodes has written; and that decoding undoes it.
use Rattle.std.proofs.Common.{◌≡◌, ℕ, suc, ◌+◌, ◌/◌, ◌%◌, ◌<◌, List, [], ◌∷◌, ◌++◌, length, get_or, take, Some, Ok, sym, refl, ap, ◌∙◌, append_assoc, arith}
use Rattle.std.proofs.lemmas.List.{take_more}
use Rattle.std.proofs.lemmas.Bool.Decides.{nat_tests}
use Rattle.session.specs.Hex.{before, byte_from, byte_of, digit_of, hex_bytes, hex_text, letter}

hex_push : (bytes : List ℕ) (b : ℕ) → hex_text (bytes ++ b ∷ []) ≡ hex_text bytes ++ (letter (b / 16) ∷ letter (b % 16) ∷ [])
hex_push [] b = refl
hex_push (a ∷ bytes) b = ap (λ text. letter (a / 16) ∷ letter (a % 16) ∷ text) (hex_push bytes b)

-- one more byte, as its two digits
pub digits_more : (bytes high low : List ℕ) (i : ℕ) → i < length bytes → high ≡ letter (get_or bytes i 0 / 16) ∷ [] → low ≡ letter (get_or bytes i 0 % 16) ∷ []
    → (hex_text (take i bytes) ++ high) ++ low ≡ hex_text (take (i + 1) bytes)
digits_more bytes high low i h eh el =
    rw (eh, el) (append_assoc (hex_text (take i bytes)) _ _ ∙ sym (ap hex_text (take_more bytes i 0 h) ∙ hex_push (take i bytes) (get_or bytes i 0)))

digit_letter : (n : ℕ) → n < 16 → digit_of (letter n) ≡ Some n
digit_letter n h = grind (arith, nat_tests)

byte_letters : (b : ℕ) → b < 256 → byte_of (letter (b / 16)) (letter (b % 16)) ≡ Some b
byte_letters b h =
    ap (λ o. byte_from o (digit_of (letter (b % 16)))) (digit_letter (b / 16) (omega arith))
    ∙ ap (byte_from (Some (b / 16))) (digit_letter (b % 16) (omega arith))
    ∙ ap Some (omega arith)

-- decoding what was encoded gives the bytes back
pub decodes : (bs : List ℕ) → ((i : ℕ) → get_or bs i 0 < 256) → hex_bytes (hex_text bs) ≡ Ok bs
decodes [] fit = refl
decodes (b ∷ bs) fit =
    ap (λ o. before o (hex_bytes (hex_text bs))) (byte_letters b (fit 0)) ∙ ap (before (Some b)) (decodes bs (λ i. fit (suc i)))
