-- What a loop that reads a number has done, with the digits that are left.
use Rattle.std.proofs.Common.{◌≡◌, ℕ, ◌<◌, ◌≤◌, List, [], ◌∷◌, length, get_or, drop, None, Err, ◌∙◌, arith}
use Rattle.std.proofs.lemmas.List.{at_drop_more}
use Rattle.std.proofs.lemmas.Bool.Decides.{nat_tests}
use Rattle.session.specs.declared.fault.LineFault.{LineFault}
use Rattle.session.specs.declared.fault.LineFault.TheVariants.{BadNumber}
use Rattle.session.specs.Numbers.{longer, number_from, at_most, number_of, appended_to}

-- a number above the limit stays above it, whatever follows
above : (most n : ℕ) (bs : List ℕ) → most < n → at_most most (number_from n bs) ≡ Err BadNumber
above most n [] h = grind (arith, nat_tests)
above most n (b ∷ bs) h = grind (arith, nat_tests, above most (longer n b) bs (omega arith))

-- where the next digit is none, or too much
pub stops : (word : List ℕ) (most n i : ℕ) → i < length word → None ≡ appended_to most n (get_or word i 0) → at_most most (number_from n (drop i word)) ≡ Err BadNumber
stops word most n i h e = at_drop_more (λ bs. at_most most (number_from n bs)) word i 0 h ∙ grind (arith, nat_tests, above)

-- what is too large in 64 bits, or no number, is so for each smaller limit
pub narrower : (word : List ℕ) (large most : ℕ) (e : LineFault) → most ≤ large → number_of large word ≡ Err e → number_of most word ≡ Err e
narrower word large most e h t = grind (arith, nat_tests)
