use Rattle.std.proofs.Common.{◌≡◌, ◌≤◌, drop}
use Rattle.session.specs.Numbers.{number_from, at_most}
use Rattle.session.proofs.number.decimal.Given as goal

-- the number so far, with the digits that are left
abbrev pub invariant-loop-digit : goal.invariant-loop-digit
invariant-loop-digit l =
    (l.value ≤ 18446744073709551615)
    × (at_most 18446744073709551615 (number_from l.value (drop l.digit-index l.word)) ≡ at_most 18446744073709551615 (number_from 0 l.word))
