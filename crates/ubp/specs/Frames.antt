-- What a reader of commands answers, and the frame of a command.
use Rattle.std.specs.Prelude.{◌≡◌, ℕ, Bool, cond, List, [], ◌∷◌, length, Ok, Err, Result, MatchResult, ◌==◌}
use Rattle.orders.specs.declared.command.Command.{Command}
use Rattle.orders.specs.declared.command.Command.TheVariants.{Enter, Replace, Cancel}
use Rattle.ubp.specs.declared.refusal.ReadRefusal.{ReadRefusal}
use Rattle.ubp.specs.declared.refusal.ReadRefusal.TheVariants.{WrongLength, UnknownType, BadField}
use Rattle.ubp.specs.Formats.{Field, tests, size_of, bytes_of, message, message_size}
use Rattle.ubp.specs.Commands.{enter_type, enter_fields, replace_type, replace_fields, cancel_type, cancel_fields}

abbrev pub Verdict : Type 0
Verdict = Result (Unit {0}) ReadRefusal

-- the lowest field that failed its test, by its offset
abbrev pub first_bad : List (ℕ × Bool) → Verdict
first_bad [] = Ok tt
first_bad (t ∷ ts) = cond t.1 (first_bad ts) (Err (BadField t.0))

-- the verdict on a frame of type b that goes on with f
abbrev pub fields_verdict : {C : Type 0} → ℕ → List (Field C) → List ℕ → Verdict
fields_verdict b fs f = cond (length f == size_of fs) (first_bad (tests 1 fs (b ∷ f))) (Err WrongLength)

-- a reader of the fields f answers r: a c whose fields they are, or the refusal
abbrev pub Reads : {C : Type 0} → ℕ → List (Field C) → List ℕ → Result C ReadRefusal → Type 0
Reads b fs f r = MatchResult r (λ c. (Ok tt ≡ fields_verdict b fs f) × (f ≡ bytes_of fs c)) (λ e. Err e ≡ fields_verdict b fs f)

-- the verdict on any bytes: the first byte chooses the command, and the rest are its fields
abbrev pub verdict : List ℕ → Verdict
verdict [] = Err WrongLength
verdict (b ∷ f) =
    cond (b == enter_type) (fields_verdict enter_type enter_fields f)
    (cond (b == replace_type) (fields_verdict replace_type replace_fields f)
    (cond (b == cancel_type) (fields_verdict cancel_type cancel_fields f) (Err UnknownType)))

-- a command's frame
abbrev pub encoded : Command → List ℕ
encoded (Enter c) = message enter_type enter_fields c
encoded (Replace c) = message replace_type replace_fields c
encoded (Cancel c) = message cancel_type cancel_fields c

-- how many bytes it has
abbrev pub command_size : Command → ℕ
command_size (Enter c) = message_size enter_fields
command_size (Replace c) = message_size replace_fields
command_size (Cancel c) = message_size cancel_fields

-- a reader of the frame f answers r: the command whose frame it is, or the refusal
abbrev pub ReadsCommand : List ℕ → Result Command ReadRefusal → Type 0
ReadsCommand f r = MatchResult r (λ c. (Ok tt ≡ verdict f) × (f ≡ encoded c)) (λ e. Err e ≡ verdict f)

-- a reader that answers r finds the caller's command as old and leaves it as new: it is what the frame says, or as it was
abbrev pub Fills : List ℕ → Verdict → Command → Command → Type 0
Fills frame r old new = MatchResult r (λ _. frame ≡ encoded new) (λ _. new ≡ old)
