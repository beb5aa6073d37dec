-- What people are told of a word that is not taken.
use Rattle.std.specs.Prelude.{ℕ, List, ◌++◌, codes, string_bytes}
use Rattle.options.specs.declared.fault.OptionFault.{OptionFault}
use Rattle.options.specs.declared.fault.OptionFault.TheVariants.{Unknown, SecondFile}

abbrev pub told : OptionFault → List ℕ
told (Unknown word) = codes "unknown option " ++ string_bytes word
told (SecondFile word) = codes "more than one file: " ++ string_bytes word
