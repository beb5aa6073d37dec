-- How a line is cut into words.
use Rattle.std.specs.Prelude.{ℕ, ◌+◌, Bool, true, false, cond, not, ◌||◌, List, [], ◌∷◌, take, drop, length, take_while, ◌==◌}

-- what parts words: a space, a tab or a carriage return
abbrev pub blank : ℕ → Bool
blank b = b == 32 || b == 9 || b == 13

-- what stands in a word
abbrev pub solid : ℕ → Bool
solid b = not (blank b)

-- what stands before a comment, which begins with '#', 35
abbrev pub content : ℕ → Bool
content b = not (b == 35)

-- what stands in a line, which ends with a line feed, 10
abbrev pub in_line : ℕ → Bool
in_line b = not (b == 10)

-- how many bytes at the front pass the test
abbrev pub front_length : (ℕ → Bool) → List ℕ → ℕ
front_length test text = length (take_while test text)

abbrev pub line_length : List ℕ → ℕ
line_length text = front_length in_line text

-- the first line, without its line feed
abbrev pub first_line : List ℕ → List ℕ
first_line text = take (line_length text) text

-- what follows the first line and its line feed
abbrev pub after_line : List ℕ → List ℕ
after_line text = drop (line_length text + 1) text

-- the lines, with a byte more at the front of the first
abbrev pub with_byte : ℕ → List (List ℕ) → List (List ℕ)
with_byte b [] = (b ∷ []) ∷ []
with_byte b (line ∷ lines) = (b ∷ line) ∷ lines

-- the lines of a text, each without its line feed; an empty text has none
abbrev pub lines_of : List ℕ → List (List ℕ)
lines_of [] = []
lines_of (b ∷ bs) = cond (in_line b) (with_byte b (lines_of bs)) ([] ∷ lines_of bs)

abbrev pub before_comment : List ℕ → List ℕ
before_comment line = take (front_length content line) line

abbrev pub without_blanks : List ℕ → List ℕ
without_blanks text = drop (front_length blank text) text

-- whether there is no byte
abbrev pub empty : List ℕ → Bool
empty [] = true
empty (b ∷ bs) = false

-- the first word, or nothing
unfoldable pub word_of : List ℕ → List ℕ
word_of text = take (front_length solid (without_blanks text)) (without_blanks text)

-- what follows the first word
unfoldable pub rest_of : List ℕ → List ℕ
rest_of text = drop (front_length solid (without_blanks text)) (without_blanks text)
