-- What the words of an item say.
use Rattle.std.specs.Prelude.{ℕ, Bool, true, false, cond, List, [], Ok, Err, codes, Result}
use Rattle.std.specs.Str.{bytes_eq}
use Rattle.session.specs.declared.fault.LineFault.{LineFault}
use Rattle.session.specs.declared.fault.LineFault.TheVariants.{MissingWord, ExtraWord, BadNumber}
use Rattle.session.specs.Hex.{hex_bytes}
use Rattle.session.specs.Numbers.{number_of}
use Rattle.session.specs.Scan.{empty, before_comment, word_of, rest_of}

-- the name of a line's item, or nothing
abbrev pub name_of : List ℕ → List ℕ
name_of line = word_of (before_comment line)

-- what follows the name of a line's item
abbrev pub after_name : List ℕ → List ℕ
after_name line = rest_of (before_comment line)

-- what follows from an answer that is no fault
abbrev pub and_then : {A B : Type 0} → Result A LineFault → (A → Result B LineFault) → Result B LineFault
and_then (Ok x) next = next x
and_then (Err e) next = Err e

-- the bytes that a word stands for: digits, or `-` for none
abbrev pub bytes_of : List ℕ → Result (List ℕ) LineFault
bytes_of word = cond (bytes_eq word (codes "-")) (Ok []) (hex_bytes word)

-- the flag that a word stands for: `1` or `0`, and nothing else
abbrev pub flag_of : List ℕ → Result Bool LineFault
flag_of word = cond (bytes_eq word (codes "1")) (Ok true) (cond (bytes_eq word (codes "0")) (Ok false) (Err BadNumber))

-- the first word, which may not be missing
abbrev pub first_word : List ℕ → Result (List ℕ) LineFault
first_word text = cond (empty (word_of text)) (Err MissingWord) (Ok (word_of text))

-- the first word, where no other may follow: one that does is reported before anything that is wrong in the first
abbrev pub only_word : List ℕ → Result (List ℕ) LineFault
only_word text = cond (empty (word_of text)) (Err MissingWord) (cond (empty (word_of (rest_of text))) (Ok (word_of text)) (Err ExtraWord))

abbrev pub first_number : ℕ → List ℕ → Result ℕ LineFault
first_number most text = and_then (first_word text) (number_of most)

abbrev pub only_number : ℕ → List ℕ → Result ℕ LineFault
only_number most text = and_then (only_word text) (number_of most)

unfoldable pub only_bytes : List ℕ → Result (List ℕ) LineFault
only_bytes text = and_then (only_word text) bytes_of

abbrev pub only_flag : List ℕ → Result Bool LineFault
only_flag text = and_then (only_word text) flag_of
