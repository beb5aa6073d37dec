-- What a line says.
use Rattle.std.specs.Prelude.{ℕ, cond, List, Ok, Err, vec_items, codes, Result}
use Rattle.std.specs.Str.{bytes_eq}
use Rattle.session.specs.declared.fault.LineFault.{LineFault}
use Rattle.session.specs.declared.fault.LineFault.TheVariants.{UnknownItem}
use Rattle.session.specs.declared.line.Item.{Item}
use Rattle.session.specs.declared.line.Item.TheVariants.{Nothing, Read}
use Rattle.session.specs.Scan.{empty}
use Rattle.session.specs.Words.{and_then, name_of, after_name, only_bytes}

-- an item, with bytes in place of the vectors that hold them
pub data Said : Type 0 where
  nothing : Said
  read : List ℕ → Said

-- what follows the name `read`
abbrev pub read_of : List ℕ → Result Said LineFault
read_of text = and_then (only_bytes text) (λ bs. Ok (read bs))

-- what the item of a name says, with what follows the name
abbrev pub named : List ℕ → List ℕ → Result Said LineFault
named name rest =
    cond (empty name) (Ok nothing)
    (cond (bytes_eq name (codes "read")) (read_of rest)
    (Err UnknownItem))

-- what a line says
abbrev pub item_of : List ℕ → Result Said LineFault
item_of line = named (name_of line) (after_name line)

abbrev pub said : Item → Said
said Nothing = nothing
said (Read v) = read (vec_items v)
