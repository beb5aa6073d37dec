-- Decimal numbers, of any length.
use Rattle.std.specs.Prelude.{ℕ, ◌+◌, ◌-◌, ◌*◌, Bool, cond, ◌&&◌, List, [], ◌∷◌, Some, None, Ok, Err, Option, Result, nat_le}
use Rattle.session.specs.declared.fault.LineFault.{LineFault}
use Rattle.session.specs.declared.fault.LineFault.TheVariants.{BadNumber}
use Rattle.session.specs.Hex.{within}
use Rattle.session.specs.Scan.{empty}

-- a decimal digit: '0' is 48
abbrev pub digit : ℕ → Bool
digit b = within 48 57 b

-- the number n with the digit b at its end
abbrev pub longer : ℕ → ℕ → ℕ
longer n b = n * 10 + (b - 48)

-- the number that n becomes with all the digits at its end, if they are digits
abbrev pub number_from : ℕ → List ℕ → Option ℕ
number_from n [] = Some n
number_from n (b ∷ bs) = cond (digit b) (number_from (longer n b) bs) None

abbrev pub at_most : ℕ → Option ℕ → Result ℕ LineFault
at_most most (Some n) = cond (nat_le n most) (Ok n) (Err BadNumber)
at_most most None = Err BadNumber

-- the number that a word writes: one or more digits, whose number is at most `most`
abbrev pub number_of : ℕ → List ℕ → Result ℕ LineFault
number_of most word = cond (empty word) (Err BadNumber) (at_most most (number_from 0 word))

-- one digit more, within the limit
abbrev pub appended_to : ℕ → ℕ → ℕ → Option ℕ
appended_to most n b = cond (digit b && nat_le (longer n b) most) (Some (longer n b)) None
