-- What a format is: a message's first byte says its type, and its fields follow one after another. A format lists them once, and the bytes of a message, its length, each field's
-- offset and the tests of a reader all come from that list.
use Rattle.std.specs.Prelude.{ℕ, ◌+◌, Bool, true, List, [], ◌∷◌, ◌++◌, take, drop, replicate, ℤ, is_some, slice_index}
use Rattle.std.specs.Int.{w32}
use Rattle.std.proofs.Common.{of_z}
use Rattle.orders.specs.Codes.{coded}
use Rattle.ubp.specs.Bytes.{big4, bytes4, bytes8, all_are}

-- one field of the messages that hold a C
pub record Field (C : Type 0) : Type 0 where
  -- how many bytes it has
  pub size : ℕ
  -- its bytes in the message of a c
  pub bytes : C → List ℕ
  -- whether a frame may hold what stands there, by the frame from the field's offset on
  pub lawful : List ℕ → Bool

-- text of n bytes: any bytes are lawful
abbrev pub text : {C : Type 0} → ℕ → (C → List ℕ) → Field C
text n of = record { size = n; bytes = of; lawful = λ f. true }

-- an unsigned number of four bytes: any is lawful
abbrev pub number : {C : Type 0} → (C → ℕ) → Field C
number of = record { size = 4; bytes = λ c. bytes4 (of c); lawful = λ f. true }

-- an unsigned number of eight bytes: any is lawful
abbrev pub long : {C : Type 0} → (C → ℕ) → Field C
long of = record { size = 8; bytes = λ c. bytes8 (of c); lawful = λ f. true }

-- a signed number of four bytes, in two's complement: any is lawful
abbrev pub price : {C : Type 0} → (C → ℤ) → Field C
price of = record { size = 4; bytes = λ c. bytes4 (of_z w32 (of c)); lawful = λ f. true }

-- a byte as it is
abbrev pub byte : {C : Type 0} → (C → ℕ) → Field C
byte of = record { size = 1; bytes = λ c. of c ∷ []; lawful = λ f. true }

-- a byte that stands for one of the values vs
abbrev pub code : {C V : Type 0} → (V → ℕ) → List V → (C → V) → Field C
code stands vs of = record { size = 1; bytes = λ c. stands (of c) ∷ []; lawful = λ f. is_some (coded stands vs (slice_index f 0)) }

-- a number of four bytes that stands for one of the values vs
abbrev pub code_number : {C V : Type 0} → (V → ℕ) → List V → (C → V) → Field C
code_number stands vs of = record { size = 4; bytes = λ c. bytes4 (stands (of c)); lawful = λ f. is_some (coded stands vs (big4 f)) }

-- a reserved field: n bytes that are all b
abbrev pub filled : {C : Type 0} → ℕ → ℕ → Field C
filled b n = record { size = n; bytes = λ c. replicate n b; lawful = λ f. all_are b (take n f) }

abbrev pub spaces : {C : Type 0} → ℕ → Field C
spaces = filled 32

abbrev pub zeros : {C : Type 0} → ℕ → Field C
zeros = filled 0

-- the bytes of a c's fields, one after another
abbrev pub bytes_of : {C : Type 0} → List (Field C) → C → List ℕ
bytes_of [] c = []
bytes_of (x ∷ xs) c = x.bytes c ++ bytes_of xs c

-- how many bytes the fields have
abbrev pub size_of : {C : Type 0} → List (Field C) → ℕ
size_of [] = 0
size_of (x ∷ xs) = x.size + size_of xs

-- a message of type b: the byte of its type, and its fields
abbrev pub message : {C : Type 0} → ℕ → List (Field C) → C → List ℕ
message b xs c = b ∷ bytes_of xs c

-- how many bytes it has
abbrev pub message_size : {C : Type 0} → List (Field C) → ℕ
message_size xs = 1 + size_of xs

-- of each field, its offset in the frame and whether the frame may hold what stands there, the first field's offset being i
abbrev pub tests : {C : Type 0} → ℕ → List (Field C) → List ℕ → List (ℕ × Bool)
tests i [] frame = []
tests i (x ∷ xs) frame = (i, x.lawful (drop i frame)) ∷ tests (i + x.size) xs frame
