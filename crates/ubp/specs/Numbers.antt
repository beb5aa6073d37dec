-- The numbers that refusals go by outside.
use Rattle.std.specs.Prelude.{ℕ}
use Rattle.ubp.specs.declared.refusal.ReadRefusal.{ReadRefusal}
use Rattle.ubp.specs.declared.refusal.ReadRefusal.TheVariants.{WrongLength, UnknownType, BadField}
use Rattle.ubp.specs.declared.refusal.WriteRefusal.{WriteRefusal}
use Rattle.ubp.specs.declared.refusal.WriteRefusal.TheVariants.{ShortBuffer}
use Rattle.ubp.specs.declared.refusal.Refusal.{Refusal}
use Rattle.ubp.specs.declared.refusal.Refusal.TheVariants.{Reading, Writing}

abbrev pub read_number : ReadRefusal → ℕ
read_number WrongLength = 11
read_number UnknownType = 12
read_number (BadField offset) = 13

abbrev pub write_number : WriteRefusal → ℕ
write_number ShortBuffer = 31

abbrev pub refusal_number : Refusal → ℕ
refusal_number (Reading r) = read_number r
refusal_number (Writing r) = write_number r
