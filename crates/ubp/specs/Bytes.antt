-- Numbers as bytes, the most significant first, and filled parts.
use Rattle.std.specs.Prelude.{ℕ, ◌+◌, ◌*◌, ◌/◌, ◌%◌, Bool, List, [], ◌∷◌, ◌==◌, slice_index}
use Rattle.std.specs.List.{list_all}

-- the number in the first four bytes
abbrev pub big4 : List ℕ → ℕ
big4 bs = slice_index bs 0 * 16777216 + slice_index bs 1 * 65536 + slice_index bs 2 * 256 + slice_index bs 3

-- a number's four bytes
abbrev pub bytes4 : ℕ → List ℕ
bytes4 n = (n / 16777216 % 256) ∷ (n / 65536 % 256) ∷ (n / 256 % 256) ∷ (n % 256) ∷ []

-- a number's eight bytes
abbrev pub bytes8 : ℕ → List ℕ
bytes8 n =
    (n / 72057594037927936 % 256) ∷ (n / 281474976710656 % 256) ∷ (n / 1099511627776 % 256) ∷ (n / 4294967296 % 256)
    ∷ (n / 16777216 % 256) ∷ (n / 65536 % 256) ∷ (n / 256 % 256) ∷ (n % 256) ∷ []

-- whether all bytes are b
abbrev pub all_are : ℕ → List ℕ → Bool
all_are b xs = list_all (λ x. x == b) xs
