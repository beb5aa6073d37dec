-- What an error says, and what it tells of a line.
use Rattle.std.specs.Prelude.{◌≡◌, ⊤, ℕ, List, Ok, Err, Some, None, codes, Option, Result, MatchResult}
use Rattle.session.specs.declared.error.LineError.{LineError}
use Rattle.session.specs.declared.error.LineError.TheVariants.{Fault, NoMemory}
use Rattle.session.specs.declared.fault.LineFault.{LineFault}
use Rattle.session.specs.declared.fault.LineFault.TheVariants.{UnknownItem, MissingWord, ExtraWord, BadDigit, OddDigits, BadNumber}

-- the words for a fault
abbrev pub fault_text : LineFault → List ℕ
fault_text UnknownItem = codes "the first word names no item"
fault_text MissingWord = codes "a word is missing"
fault_text ExtraWord = codes "there is a word too many"
fault_text BadDigit = codes "a character is no hex digit"
fault_text OddDigits = codes "the number of hex digits is odd"
fault_text BadNumber = codes "a word is no number, or one too large for its place"

-- the words for an error; those for a lack of memory are the library's
abbrev pub error_text : LineError → Option (List ℕ)
error_text (Fault fault) = Some (fault_text fault)
error_text (NoMemory error) = None

-- a fault is the one that the text has; a lack of memory says nothing of the text
abbrev pub IsFaultOf : {A : Type 0} → Result A LineFault → LineError → Type 0
IsFaultOf said (Fault fault) = Err fault ≡ said
IsFaultOf said (NoMemory error) = ⊤

-- what is read, as `view` sees it, is what the text says; and an error is its fault, unless there was no memory
abbrev pub Reads : {A B : Type 0} → (A → B) → Result A LineError → Result B LineFault → Type 0
Reads view outcome said = MatchResult outcome (λ x. Ok (view x) ≡ said) (IsFaultOf said)

-- what is found, as `view` sees it, is what the text says; and a fault is the one that the text has
abbrev pub Finds : {A B : Type 0} → (A → B) → Result A LineFault → Result B LineFault → Type 0
Finds view outcome said = MatchResult outcome (λ x. Ok (view x) ≡ said) (λ fault. Err fault ≡ said)
