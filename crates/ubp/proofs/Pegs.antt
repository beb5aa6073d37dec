-- The constraint beside a peg.
use Rattle.std.proofs.Common.{◌≡◌, ℕ, true, Some, sym, refl, ap, ◌∙◌}
use Rattle.orders.specs.Codes.{peg_byte, peg_of, pegs, constraint_byte, constraint_of, constraints}
use Rattle.orders.specs.Pegs.{may_state}
use Rattle.ubp.specs.Commands.{beside_peg}
use Rattle.orders.specs.declared.fields.Peg.{Peg}
use Rattle.orders.specs.declared.fields.Peg.TheVariants.{Midpoint, Unpegged, Primary}
use Rattle.orders.specs.declared.fields.Constraint.{Constraint}
use Rattle.orders.specs.declared.fields.Constraint.TheVariants.{Unstated, FillToLimit, FillToMidpoint}
use Rattle.ubp.proofs.Parts.{coded_code}

pub test_is : (g : Peg) (k : Constraint) → beside_peg (constraint_byte k) (peg_byte g) ≡ may_state g k
test_is Midpoint Unstated = refl
test_is Midpoint FillToLimit = refl
test_is Midpoint FillToMidpoint = refl
test_is Unpegged Unstated = refl
test_is Unpegged FillToLimit = refl
test_is Unpegged FillToMidpoint = refl
test_is Primary Unstated = refl
test_is Primary FillToLimit = refl
test_is Primary FillToMidpoint = refl

-- a constraint that passed its test is one that the peg may have
pub may_state_holds : (b p : ℕ) {g : Peg} {k : Constraint} → beside_peg b p ≡ true → constraint_of b ≡ Some k → peg_of p ≡ Some g → may_state g k ≡ true
may_state_holds b p {g} {k} e x y =
    let bk : b ≡ constraint_byte k = coded_code constraint_byte constraints b x in
    let pg : p ≡ peg_byte g = coded_code peg_byte pegs p y in
    sym (test_is g k) ∙ ap (λ q. beside_peg (constraint_byte k) q) (sym pg) ∙ ap (λ a. beside_peg a p) (sym bk) ∙ e
