-- The formats of the three commands: the fields after the first byte.
use Rattle.std.specs.Prelude.{ℕ, Bool, cond, List, [], ◌∷◌, is_some, ◌==◌, slice_index}
use Rattle.orders.specs.Codes.{side_byte, sides, time_number, times, capacity_byte, capacities, constraint_byte, constraint_of, leaves_byte, leaves_modes, style_byte, styles, peg_byte, pegs, grade_number, grades, lots_byte, lots_kinds}
use Rattle.orders.specs.declared.fields.Peg.TheVariants.{Midpoint}
use Rattle.orders.specs.declared.fields.Constraint.TheVariants.{Unstated}
use Rattle.orders.specs.declared.enter.EnterOrder.{EnterOrder}
use Rattle.orders.specs.declared.command.ReplaceOrder.{ReplaceOrder}
use Rattle.orders.specs.declared.command.CancelOrder.{CancelOrder}
use Rattle.ubp.specs.Formats.{Field, text, number, price, code, code_number, spaces, zeros}

-- whether the constraint byte b may stand beside the peg byte p: beside a midpoint peg any constraint, beside any other byte a space
abbrev pub beside_peg : ℕ → ℕ → Bool
beside_peg b p = cond (p == peg_byte Midpoint) (is_some (constraint_of b)) (b == constraint_byte Unstated)

-- the constraint of an enter: its peg follows nine bytes on
abbrev pub constraint : Field EnterOrder
constraint = record { size = 1; bytes = λ c. constraint_byte c.terms.constraint ∷ []; lawful = λ f. beside_peg (slice_index f 0) (slice_index f 9) }

abbrev pub enter_type : ℕ
enter_type = 111  -- 'o'

unfoldable pub enter_fields : List (Field EnterOrder)
enter_fields =
    text 14 (λ c. c.token)
    ∷ code side_byte sides (λ c. c.terms.side)
    ∷ number (λ c. c.shares)
    ∷ text 6 (λ c. c.terms.stock)
    ∷ price (λ c. c.price)
    ∷ code_number time_number times (λ c. c.terms.time)
    ∷ text 4 (λ c. c.terms.firm)
    ∷ spaces 1
    ∷ code capacity_byte capacities (λ c. c.terms.capacity)
    ∷ spaces 1
    ∷ number (λ c. c.terms.minimum)
    ∷ spaces 1
    ∷ constraint
    ∷ spaces 1
    ∷ code leaves_byte leaves_modes (λ c. c.terms.leaves)
    ∷ spaces 5
    ∷ code style_byte styles (λ c. c.terms.style)
    ∷ code peg_byte pegs (λ c. c.terms.peg)
    ∷ spaces 1
    ∷ zeros 4
    ∷ code grade_number grades (λ c. c.terms.grade)
    ∷ zeros 4
    ∷ code lots_byte lots_kinds (λ c. c.terms.lots)
    ∷ []

abbrev pub replace_type : ℕ
replace_type = 117  -- 'u'

unfoldable pub replace_fields : List (Field ReplaceOrder)
replace_fields =
    text 14 (λ c. c.existing)
    ∷ text 14 (λ c. c.token)
    ∷ number (λ c. c.shares)
    ∷ price (λ c. c.price)
    ∷ code_number time_number times (λ c. c.time)
    ∷ spaces 1
    ∷ spaces 1
    ∷ number (λ c. c.minimum)
    ∷ code style_byte styles (λ c. c.style)
    ∷ code peg_byte pegs (λ c. c.peg)
    ∷ spaces 1
    ∷ zeros 4
    ∷ spaces 1
    ∷ zeros 4
    ∷ code lots_byte lots_kinds (λ c. c.lots)
    ∷ []

abbrev pub cancel_type : ℕ
cancel_type = 88  -- 'X'

-- the shares of a cancel are always 0
unfoldable pub cancel_fields : List (Field CancelOrder)
cancel_fields = text 14 (λ c. c.token) ∷ zeros 4 ∷ []
