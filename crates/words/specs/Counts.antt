-- Frames counted by what was answered of them.
use Rattle.std.specs.Prelude.{ℕ, ◌+◌, ◌-◌, ◌^◌, min, List, ◌++◌, codes, decimal, Result, Ok, Err}
use Rattle.orders.specs.declared.command.Command.{Command}
use Rattle.ubp.specs.declared.refusal.ReadRefusal.{ReadRefusal}
use Rattle.ubp.specs.declared.refusal.ReadRefusal.TheVariants.{WrongLength, UnknownType, BadField}
use Rattle.ubp.specs.Numbers.{read_number}
use Rattle.words.specs.declared.counts.Counts.{Counts}

-- one more than a count, which stays at the most that it can be
abbrev pub one_more : ℕ → ℕ
one_more n = min (n + 1) (2 ^ 64 - 1)

-- the number of an answer: 0, or the refusal's
abbrev pub answer_number : Result Command ReadRefusal → ℕ
answer_number (Ok command) = 0
answer_number (Err refusal) = read_number refusal

-- how many frames were answered so
abbrev pub count_of : Result Command ReadRefusal → Counts → ℕ
count_of (Ok command) c = c.read
count_of (Err WrongLength) c = c.wrong_length
count_of (Err UnknownType) c = c.unknown_type
count_of (Err (BadField offset)) c = c.bad_field

-- what people read of the counts: a line for each
abbrev pub told : Counts → List ℕ
told c =
    (codes "Frames          " ++ decimal c.frames ++ codes "\n") ++
    (codes "  read          " ++ decimal c.read ++ codes "\n") ++
    (codes "  refused 11    " ++ decimal c.wrong_length ++ codes "\n") ++
    (codes "  refused 12    " ++ decimal c.unknown_type ++ codes "\n") ++
    (codes "  refused 13    " ++ decimal c.bad_field ++ codes "\n") ++
    (codes "Lines in error  " ++ decimal c.faulty_lines ++ codes "\n")
