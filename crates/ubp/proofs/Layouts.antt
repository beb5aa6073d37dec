-- The bytes of a format's fields, as a reader and a writer come by them: from the front, one field after another.
use Rattle.std.proofs.Common.{◌≡◌, ℕ, ◌+◌, List, [], ◌∷◌, ◌++◌, get_or, drop, sym, refl, ap, ◌∙◌, add-zero}
use Rattle.std.proofs.lemmas.List.{append_assoc, append-nil, get_or-drop}
use Rattle.ubp.specs.Formats.{Field, bytes_of}

abbrev pub built_onto : {C : Type 0} → List ℕ → List (Field C) → C → List ℕ
built_onto h [] c = h
built_onto h (x ∷ xs) c = built_onto (h ++ x.bytes c) xs c

from_front : {C : Type 0} (h : List ℕ) (xs : List (Field C)) (c : C) → built_onto h xs c ≡ h ++ bytes_of xs c
from_front h [] c = sym (append-nil h)
from_front h (x ∷ xs) c = from_front (h ++ x.bytes c) xs c ∙ append_assoc h (x.bytes c) (bytes_of xs c)

bytes_append : {C : Type 0} (xs ys : List (Field C)) (c : C) → bytes_of (xs ++ ys) c ≡ bytes_of xs c ++ bytes_of ys c
bytes_append [] ys c = refl
bytes_append (x ∷ xs) ys c = ap (λ zs. x.bytes c ++ zs) (bytes_append xs ys c) ∙ sym (append_assoc (x.bytes c) (bytes_of xs c) (bytes_of ys c))

-- a message whose first byte is k, as it is after the fields xs, and then the fields ys
pub after : {C : Type 0} (k : ℕ) (xs ys : List (Field C)) (c : C) {ms : List ℕ} → ms ≡ built_onto (k ∷ bytes_of xs c) ys c → ms ≡ k ∷ bytes_of (xs ++ ys) c
after k xs ys c e = e ∙ from_front (k ∷ bytes_of xs c) ys c ∙ ap (λ zs. k ∷ zs) (sym (bytes_append xs ys c))

-- a byte in the middle of a list begins the part from there on
pub here : (i : ℕ) (xs : List ℕ) → get_or xs i 0 ≡ get_or (drop i xs) 0 0
here i xs = sym (get_or-drop i xs 0 0 ∙ ap (λ k. get_or xs k 0) (add-zero i))

-- a test on a byte and on the ninth after it, by the part that the first begins
pub nine_on : {X : Type 0} (i : ℕ) (xs : List ℕ) (P : ℕ → ℕ → X) → P (get_or xs i 0) (get_or xs (i + 9) 0) ≡ P (get_or (drop i xs) 0 0) (get_or (drop i xs) 9 0)
nine_on i xs P = ap (λ b. P b (get_or xs (i + 9) 0)) (here i xs) ∙ ap (λ b. P (get_or (drop i xs) 0 0) b) (sym (get_or-drop i xs 9 0))
