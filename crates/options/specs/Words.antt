-- The words of the command line.
use Rattle.std.specs.Prelude.{ℕ, Bool, false, List, [], ◌∷◌, ◌==◌}

-- whether a word is an option: one that begins with a hyphen
abbrev pub is_option : List ℕ → Bool
is_option [] = false
is_option (c ∷ word) = c == 45
