-- What a line of a book's session says.
use Rattle.std.specs.Prelude.{ℕ, Bool, cond, List, Ok, Err, vec_items, codes, Result}
use Rattle.std.specs.Str.{bytes_eq}
use Rattle.session.specs.declared.fault.LineFault.{LineFault}
use Rattle.session.specs.declared.fault.LineFault.TheVariants.{UnknownItem}
use Rattle.session.specs.declared.book_item.BookItem.{BookItem}
use Rattle.session.specs.declared.book_item.BookItem.TheVariants.{Nothing, Read, Frame, Ban, Grid}
use Rattle.session.specs.Scan.{empty, rest_of}
use Rattle.session.specs.Words.{and_then, name_of, after_name, first_number, only_number, only_bytes, only_flag}

-- an item, with bytes in place of the vectors that hold them
pub data Said : Type 0 where
  nothing : Said
  read : List ℕ → Said
  frame : ℕ → ℕ → ℕ → ℕ → List ℕ → Said
  ban : ℕ → ℕ → Said
  grid : ℕ → ℕ → ℕ → Bool → Said

-- a number of at most `most` in the first word, and then what the words after it say
abbrev pub number_then : ℕ → List ℕ → (ℕ → List ℕ → Result Said LineFault) → Result Said LineFault
number_then most text next = and_then (first_number most text) (λ n. next n (rest_of text))

-- what follows the name `read`
abbrev pub read_of : List ℕ → Result Said LineFault
read_of text = and_then (only_bytes text) (λ bs. Ok (read bs))

-- the numbers of a frame, and then its bytes
abbrev pub frame_with : ℕ → ℕ → ℕ → ℕ → List ℕ → Result Said LineFault
frame_with clock places client category text = and_then (only_bytes text) (λ bs. Ok (frame clock places client category bs))

-- what follows the name `frame`: numbers of 64, 64, 32 and 8 bits, and bytes
unfoldable pub frame_of : List ℕ → Result Said LineFault
frame_of text =
    number_then 18446744073709551615 text (λ clock rest.
    number_then 18446744073709551615 rest (λ places rest.
    number_then 4294967295 rest (λ client rest.
    number_then 255 rest (λ category rest.
    frame_with clock places client category rest))))

-- what follows the name `ban`: two numbers of 32 bits
abbrev pub ban_of : List ℕ → Result Said LineFault
ban_of text = number_then 4294967295 text (λ first rest. and_then (only_number 4294967295 rest) (λ second. Ok (ban first second)))

-- what follows the name `grid`: three numbers of 8 bits, and a flag
unfoldable pub grid_of : List ℕ → Result Said LineFault
grid_of text =
    number_then 255 text (λ depth rest.
    number_then 255 rest (λ category rest.
    number_then 255 rest (λ other rest.
    and_then (only_flag rest) (λ meets. Ok (grid depth category other meets)))))

-- what the item of a name says, with what follows the name
abbrev pub named : List ℕ → List ℕ → Result Said LineFault
named name rest =
    cond (empty name) (Ok nothing)
    (cond (bytes_eq name (codes "read")) (read_of rest)
    (cond (bytes_eq name (codes "frame")) (frame_of rest)
    (cond (bytes_eq name (codes "ban")) (ban_of rest)
    (cond (bytes_eq name (codes "grid")) (grid_of rest)
    (Err UnknownItem)))))

-- what a line says
abbrev pub item_of : List ℕ → Result Said LineFault
item_of line = named (name_of line) (after_name line)

abbrev pub said : BookItem → Said
said Nothing = nothing
said (Read v) = read (vec_items v)
said (Frame f) = frame f.clock f.places f.client f.category (vec_items f.bytes)
said (Ban b) = ban b.first b.second
said (Grid g) = grid g.depth g.category g.other g.meets
