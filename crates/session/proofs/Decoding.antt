-- What a loop that decodes has done, with what is left to do.
use Rattle.std.proofs.Common.{◌≡◌, ℕ, ◌-◌, ◌≤◌, List, [], ◌∷◌, ◌++◌, length, get_or, take, drop, Some, Ok, Err, Result, sym, refl, ap, ◌∙◌, append_assoc, arith}
use Rattle.std.proofs.lemmas.List.{take_rest}
use Rattle.session.specs.declared.fault.LineFault.{LineFault}
use Rattle.session.specs.Hex.{before, byte_of, hex_bytes}

-- the answer where the bytes xs are decoded already, and the rest answers r
abbrev pub after : List ℕ → Result (List ℕ) LineFault → Result (List ℕ) LineFault
after xs (Ok ys) = Ok (xs ++ ys)
after xs (Err e) = Err e

after_more : (xs : List ℕ) (b : ℕ) (r : Result (List ℕ) LineFault) → after xs (before (Some b) r) ≡ after (xs ++ b ∷ []) r
after_more xs b (Ok ys) = ap Ok (sym (append_assoc xs (b ∷ []) ys))
after_more xs b (Err e) = refl

-- one more pair of digits, with what the loop leaves
pub after_pair : (rest xs : List ℕ) (b : ℕ) → 2 ≤ length rest → Some b ≡ byte_of (get_or rest 0 0) (get_or rest 1 0)
    → after (xs ++ b ∷ []) (hex_bytes (take (length rest - 2) (drop 2 rest))) ≡ after xs (hex_bytes rest)
after_pair [] xs b h e = absurd (omega arith)
after_pair (high ∷ []) xs b h e = absurd (omega arith)
after_pair (high ∷ low ∷ ds) xs b h e =
    ap (λ ts. after (xs ++ b ∷ []) (hex_bytes ts)) (take_rest (high ∷ low ∷ ds) 2)
    ∙ sym (ap (λ o. after xs (before o (hex_bytes ds))) (sym e) ∙ after_more xs b (hex_bytes ds))
