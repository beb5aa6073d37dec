-- Which constraint an order may state beside its peg.
use Rattle.std.specs.Prelude.{Bool, true, false}
use Rattle.orders.specs.declared.fields.Peg.{Peg}
use Rattle.orders.specs.declared.fields.Peg.TheVariants.{Midpoint, Unpegged, Primary}
use Rattle.orders.specs.declared.fields.Constraint.{Constraint}
use Rattle.orders.specs.declared.fields.Constraint.TheVariants.{Unstated, FillToLimit, FillToMidpoint}

abbrev unstated : Constraint → Bool
unstated Unstated = true
unstated FillToLimit = false
unstated FillToMidpoint = false

-- a midpoint order may state any, and no other may state one
abbrev pub may_state : Peg → Constraint → Bool
may_state Midpoint c = true
may_state Unpegged c = unstated c
may_state Primary c = unstated c
