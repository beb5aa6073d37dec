-- Keys in a list of records. A test `hit` says of one record whether it has the wanted key, and `same` says of two whether they have the same one.
-- Places count from 0. `slice_index_or xs i d` is the record at the place i, or d where there is no such place; each statement is for every d, so it never hangs on one.
use Rattle.std.specs.Prelude.{◌≡◌, ℕ, ◌<◌, Bool, true, false, List, length, All, AllPairs, SomeIndex, Some, None, Option, slice_index_or}
use Rattle.std.specs.List.{HoldsAt}

-- no two places hold records with the same key
abbrev pub NoTwice : {X : Type 0} → (X → X → Bool) → List X → Type 0
NoTwice same = AllPairs (λ x y. same x y ≡ false)

-- where no key stood twice before, none does after
abbrev pub KeepsApart : {X : Type 0} → (X → X → Bool) → List X → List X → Type 0
KeepsApart same before after = NoTwice same before → NoTwice same after

-- where there is a record at the place i, it has the same key as x
abbrev pub Replaces : {X : Type 0} → (X → X → Bool) → List X → ℕ → X → Type 0
Replaces {X} same xs i x = (d : X) → i < length xs → same (slice_index_or xs i d) x ≡ true

-- no record passes the test
abbrev pub Lacks : {X : Type 0} → (X → Bool) → List X → Type 0
Lacks hit = All (λ x. hit x ≡ false)

-- some record passes the test
abbrev pub Has : {X : Type 0} → (X → Bool) → List X → Type 0
Has hit xs = SomeIndex xs (HoldsAt (λ x. hit x ≡ true) xs)

-- the place answered is the only one that passes the test
abbrev pub OnlyAt : {X : Type 0} → (X → Bool) → List X → Option ℕ → Type 0
OnlyAt {X} hit xs None = Unit {0}
OnlyAt {X} hit xs (Some i) = (k : ℕ) (d : X) → k < length xs → hit (slice_index_or xs k d) ≡ true → k ≡ i
