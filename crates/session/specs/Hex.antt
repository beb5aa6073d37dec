-- Bytes as text, two hex digits to a byte.
use Rattle.std.specs.Prelude.{ℕ, ◌+◌, ◌-◌, ◌*◌, ◌/◌, ◌%◌, Bool, cond, ◌&&◌, List, [], ◌∷◌, Some, None, Ok, Err, Option, Result, nat_le, nat_lt}
use Rattle.session.specs.declared.fault.LineFault.{LineFault}
use Rattle.session.specs.declared.fault.LineFault.TheVariants.{BadDigit, OddDigits}

abbrev pub within : ℕ → ℕ → ℕ → Bool
within low high b = nat_le low b && nat_le b high

-- the value of the digit with code b: '0' is 48, 'a' is 97, 'A' is 65
abbrev pub digit_of : ℕ → Option ℕ
digit_of b = cond (within 48 57 b) (Some (b - 48)) (cond (within 97 102 b) (Some (b - 97 + 10)) (cond (within 65 70 b) (Some (b - 65 + 10)) None))

abbrev pub byte_from : Option ℕ → Option ℕ → Option ℕ
byte_from (Some high) (Some low) = Some (high * 16 + low)
byte_from (Some high) None = None
byte_from None low = None

-- the byte that two digits spell
abbrev pub byte_of : ℕ → ℕ → Option ℕ
byte_of high low = byte_from (digit_of high) (digit_of low)

-- what follows from a first byte, if there is one, and the bytes after it
abbrev pub before : Option ℕ → Result (List ℕ) LineFault → Result (List ℕ) LineFault
before (Some x) (Ok xs) = Ok (x ∷ xs)
before (Some x) (Err e) = Err e
before None r = Err BadDigit

-- the bytes that digits spell
abbrev pub hex_bytes : List ℕ → Result (List ℕ) LineFault
hex_bytes [] = Ok []
hex_bytes (a ∷ []) = Err OddDigits
hex_bytes (a ∷ b ∷ ds) = before (byte_of a b) (hex_bytes ds)

-- the lower-case digit of a value below 16
abbrev pub letter : ℕ → ℕ
letter n = cond (nat_lt n 10) (48 + n) (87 + n)

-- bytes as lower-case digits
abbrev pub hex_text : List ℕ → List ℕ
hex_text [] = []
hex_text (b ∷ bs) = letter (b / 16) ∷ letter (b % 16) ∷ hex_text bs
