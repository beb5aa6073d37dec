-- The lines of a text, by cutting off the first.
use Rattle.std.proofs.Common.{◌≡◌, ℕ, ◌<◌, List, [], ◌∷◌, length, arith}
use Rattle.std.proofs.lemmas.Grind.{common_steps}
use Rattle.session.specs.Scan.{lines_of, first_line, after_line}

pub first_cut : (text : List ℕ) → 0 < length text → lines_of text ≡ first_line text ∷ lines_of (after_line text)
first_cut [] h = absurd (omega arith)
first_cut (b ∷ []) h = grind (arith, common_steps)
first_cut (b ∷ c ∷ bs) h = grind (arith, common_steps, first_cut (c ∷ bs) (omega arith))
