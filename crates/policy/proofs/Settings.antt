-- What a setting of a grid means for each two categories.
use Rattle.std.proofs.Common.{◌≡◌, ℕ, ◌<◌, ◌≤◌, Bool, Some, List, length, [], ◌∷◌, inl, inr, arith}
use Rattle.std.specs.Prelude.{◌==◌}
use Rattle.std.proofs.lemmas.Bool.{cases_Bool}
use Rattle.std.proofs.lemmas.Bool.Decides.{nat_tests}
use Rattle.std.proofs.lemmas.Grind.{common_steps}
use Rattle.orders.specs.Codes.{coded, category_number, categories, category_of}
use Rattle.orders.specs.declared.party.Category.{Category}
use Rattle.orders.specs.declared.party.Category.TheVariants.{One, Two, Three, Four, Five}
use Rattle.policy.specs.PerCategory.{at}
use Rattle.policy.specs.Grid.{Meetings, set_meets, OnlySet}

-- the numbers are 1 to 5
pub numbered : (c : Category) → (0 < category_number c) × (category_number c ≤ 5)
numbered One = (omega arith, omega arith)
numbered Two = (omega arith, omega arith)
numbered Three = (omega arith, omega arith)
numbered Four = (omega arith, omega arith)
numbered Five = (omega arith, omega arith)

-- a setting by categories
pub set_means : (rows : Meetings) (a b : Category) (on : Bool) → length rows ≡ 5 → length (at rows a []) ≡ 5 → OnlySet rows (category_number a) (category_number b) on (set_meets rows a b on)
set_means rows a b on high wide x y = grind (arith, nat_tests, common_steps, numbered a, numbered b, numbered x, numbered y)

-- which code a value was found by
coded_is : {V : Type 0} (code : V → ℕ) (vs : List V) (n : ℕ) (v : V) → coded code vs n ≡ Some v → n ≡ code v
coded_is code [] n v e = cc
coded_is code (w ∷ vs) n v e =
    elim (cases_Bool (n == code w)) [
      | inl is ↦ let same : Some w ≡ Some v = simp is at e in grind (arith, nat_tests)
      | inr not-w ↦ coded_is code vs n v (simp not-w at e)
    ]

-- which number a category was found by
pub number_of : (n : ℕ) (c : Category) → category_of n ≡ Some c → n ≡ category_number c
number_of = coded_is category_number categories
