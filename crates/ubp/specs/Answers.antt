-- The formats of the six answers: the fields after the first byte, which is the slip's kind. Answers are written and not read, so their bytes count and not their tests.
use Rattle.std.specs.Prelude.{ℕ, List, [], ◌∷◌, ◌++◌, replicate, Some, None, Option}
use Rattle.orders.specs.Codes.{kind_byte, letter_byte, side_byte, time_number, capacity_byte, style_byte, peg_byte, grade_number, lots_byte}
use Rattle.orders.specs.declared.fields.Terms.{Terms}
use Rattle.orders.specs.declared.slip.Slip.{Slip}
use Rattle.orders.specs.declared.slip.SlipKind.{SlipKind}
use Rattle.orders.specs.declared.slip.SlipKind.TheVariants.{Accepted, Replaced, Executed, Cancelled, CancelRejected, Rejected}
use Rattle.ubp.specs.declared.shown.ShownTerms.{ShownTerms}
use Rattle.ubp.specs.Formats.{Field, text, number, long, price, byte, spaces, zeros, message, message_size}

-- the terms as an answer shows them: absent terms are spaces and zeros
abbrev pub shown : Option Terms → ShownTerms
shown None = record { side = 32; stock = replicate 6 32; time = 0; firm = replicate 4 32; capacity = 32; minimum = 0; style = 32; peg = 32; grade = 0; lots = 32 }
shown (Some t) = record {
  side = side_byte t.side;
  stock = t.stock;
  time = time_number t.time;
  firm = t.firm;
  capacity = capacity_byte t.capacity;
  minimum = t.minimum;
  style = style_byte t.style;
  peg = peg_byte t.peg;
  grade = grade_number t.grade;
  lots = lots_byte t.lots;
}

-- how every answer begins: when, and of which order
unfoldable pub head_fields : List (Field Slip)
head_fields = long (λ s. s.clock) ∷ text 14 (λ s. s.token) ∷ []

-- how an order is told, in the answers that tell one whole
unfoldable pub order_fields : List (Field Slip)
order_fields =
    byte (λ s. (shown s.terms).side)
    ∷ number (λ s. s.shares)
    ∷ text 6 (λ s. (shown s.terms).stock)
    ∷ price (λ s. s.price)
    ∷ number (λ s. (shown s.terms).time)
    ∷ text 4 (λ s. (shown s.terms).firm)
    ∷ spaces 1
    ∷ long (λ s. s.number)
    ∷ byte (λ s. (shown s.terms).capacity)
    ∷ spaces 1
    ∷ number (λ s. (shown s.terms).minimum)
    ∷ spaces 1
    ∷ byte (λ s. letter_byte s.letter)
    ∷ []

unfoldable pub accepted_fields : List (Field Slip)
accepted_fields =
    head_fields ++ order_fields
    ++ (spaces 8
    ∷ byte (λ s. (shown s.terms).style)
    ∷ byte (λ s. (shown s.terms).peg)
    ∷ spaces 1
    ∷ zeros 4
    ∷ byte (λ s. (shown s.terms).grade)
    ∷ zeros 4
    ∷ byte (λ s. (shown s.terms).lots)
    ∷ [])

unfoldable pub replaced_fields : List (Field Slip)
replaced_fields =
    head_fields ++ order_fields
    ++ (text 14 (λ s. s.old.token)
    ∷ spaces 8
    ∷ byte (λ s. (shown s.terms).style)
    ∷ byte (λ s. (shown s.terms).peg)
    ∷ spaces 1
    ∷ zeros 4
    ∷ spaces 1
    ∷ zeros 4
    ∷ byte (λ s. (shown s.terms).lots)
    ∷ [])

unfoldable pub executed_fields : List (Field Slip)
executed_fields =
    head_fields ++ (number (λ s. s.shares) ∷ price (λ s. s.price) ∷ byte (λ s. letter_byte s.letter) ∷ long (λ s. s.match_number) ∷ [])

unfoldable pub cancelled_fields : List (Field Slip)
cancelled_fields = head_fields ++ (number (λ s. s.shares) ∷ byte (λ s. letter_byte s.letter) ∷ [])

unfoldable pub rejected_fields : List (Field Slip)
rejected_fields = head_fields ++ (byte (λ s. letter_byte s.letter) ∷ [])

abbrev pub slip_fields : SlipKind → List (Field Slip)
slip_fields Accepted = accepted_fields
slip_fields Replaced = replaced_fields
slip_fields Executed = executed_fields
slip_fields Cancelled = cancelled_fields
slip_fields CancelRejected = head_fields
slip_fields Rejected = rejected_fields

-- a slip's message, and how many bytes it has
abbrev pub slip_bytes : Slip → List ℕ
slip_bytes s = message (kind_byte s.kind) (slip_fields s.kind) s

abbrev pub slip_size : Slip → ℕ
slip_size s = message_size (slip_fields s.kind)
