-- One value for each source category, in the order of the categories.
use Rattle.std.specs.Prelude.{ℕ, ◌-◌, List, replicate, slice_index_or, slice_set}
use Rattle.orders.specs.Codes.{category_number}
use Rattle.orders.specs.declared.party.Category.{Category}

-- where a category's value stands
abbrev pub place : Category → ℕ
place c = category_number c - 1

-- the same value for each
abbrev pub all_of : {X : Type 0} → X → List X
all_of x = replicate 5 x

-- the value of a category, or the last argument where there is none
abbrev pub at : {X : Type 0} → List X → Category → X → X
at xs c x = slice_index_or xs (place c) x

-- another value for a category
abbrev pub with : {X : Type 0} → List X → Category → X → List X
with xs c x = slice_set xs (place c) x
