-- What is written is read, and as what it was: for any format by its fields, then for each command.
use Rattle.std.proofs.Common.{◌≡◌, ℕ, ◌+◌, true, List, [], ◌∷◌, ◌++◌, length, take, drop, Ok, sym, refl, ap, ◌∙◌, arith}
use Rattle.std.proofs.lemmas.List.{length-append, append_assoc, take_at, drop_at}
use Rattle.ubp.specs.Formats.{Field, tests, size_of, bytes_of}
use Rattle.ubp.specs.Frames.{first_bad, fields_verdict}
use Rattle.ubp.proofs.Verdicts.{right_length}

-- each field of a c has its size, and a reader takes it where it stands
abbrev pub Good : {C : Type 0} → C → List (Field C) → Type 0
Good c [] = Unit {0}
Good c (x ∷ xs) = (length (x.bytes c) ≡ x.size) × (x.lawful (x.bytes c ++ bytes_of xs c) ≡ true) × Good c xs

passes_on : {C : Type 0} (c : C) (xs : List (Field C)) → Good c xs → (h : List ℕ) (i : ℕ) → length h ≡ i → first_bad (tests i xs (h ++ bytes_of xs c)) ≡ Ok tt
passes_on c [] g h i e = refl
passes_on c (x ∷ xs) g h i e =
    let l = g.0 in
    let d : x.lawful (drop i (h ++ (x.bytes c ++ bytes_of xs c))) ≡ true = ap x.lawful (drop_at h (x.bytes c ++ bytes_of xs c) i e) ∙ g.1 in
    rw d
    (ap (λ f. first_bad (tests (i + x.size) xs f)) (sym (append_assoc h (x.bytes c) (bytes_of xs c)))
    ∙ passes_on c xs g.2 (h ++ x.bytes c) (i + x.size) (simp length-append (omega (arith, l, e))))

pub good_size : {C : Type 0} (c : C) (xs : List (Field C)) → Good c xs → length (bytes_of xs c) ≡ size_of xs
good_size c [] g = refl
good_size c (x ∷ xs) g = let l = g.0 in let k = good_size c xs g.2 in simp length-append (omega (arith, l, k))

-- such a message is read
pub good_read : {C : Type 0} (b : ℕ) (c : C) (xs : List (Field C)) → Good c xs → fields_verdict b xs (bytes_of xs c) ≡ Ok tt
good_read b c xs g = sym (right_length b xs (bytes_of xs c) (size_of xs) refl (good_size c xs g) (sym (passes_on c xs g (b ∷ []) 1 refl)))

-- c and d have the same bytes in each field
abbrev pub Each : {C : Type 0} → List (Field C) → C → C → Type 0
Each [] c d = Unit {0}
Each (x ∷ xs) c d = (x.bytes c ≡ x.bytes d) × Each xs c d

pub each : {C : Type 0} (c d : C) (xs : List (Field C)) → Good c xs → Good d xs → bytes_of xs c ≡ bytes_of xs d → Each xs c d
each c d [] g k e = tt
each c d (x ∷ xs) g k e = (
  sym (take_at (x.bytes c) (bytes_of xs c) x.size g.0) ∙ ap (take x.size) e ∙ take_at (x.bytes d) (bytes_of xs d) x.size k.0,
  each c d xs g.2 k.2 (sym (drop_at (x.bytes c) (bytes_of xs c) x.size g.0) ∙ ap (drop x.size) e ∙ drop_at (x.bytes d) (bytes_of xs d) x.size k.0),
)
