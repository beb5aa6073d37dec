-- What a list in lent memory holds, what no call changes, and what the calls answer.
use Rattle.std.specs.Prelude.{◌≡◌, ℕ, ◌<◌, ◌≤◌, min, Bool, List as Row, length, take, drop, Ok, Err, Result}
use Rattle.keyed.specs.declared.lent.List.{List}
use Rattle.keyed.specs.declared.lent.NotPushed.{NotPushed}
use Rattle.keyed.specs.declared.lent.NotPushed.TheVariants.{Held, Full}
use Rattle.keyed.specs.Keys.{Has, Lacks}

-- the records that the list holds, oldest first: all that a user sees of its memory
abbrev pub live : {X : Type 0} → List X → Row X
live l = take l.len l.cells.now

-- how many records it may hold: as many as were asked for, or as the memory has cells where those are fewer
abbrev pub places : {X : Type 0} → List X → ℕ
places l = min l.most (length l.cells.now)

-- What stays over a call: the list lies in the same lent memory, may hold as many records, and the cells past its last record are as they were.
-- With `live`, which says what the cells up to there hold, this names every cell. `past` is of one call: it counts from the end that the call leaves, and a later push writes there.
pub record Stays {X : Type 0} (before after : List X) : Type 0 where
  pub lender : after.cells.ghost_name ≡ before.cells.ghost_name
  pub most : after.most ≡ before.most
  pub size : length after.cells.now ≡ length before.cells.now
  pub past : drop (length (live after)) after.cells.now ≡ drop (length (live after)) before.cells.now

-- What a push answers. `hit` says whether a record has the key of the new one, xs are the records before, and `room` is how many there may be.
abbrev pub PushAnswer : {X U : Type 0} → (X → Bool) → Row X → ℕ → Result U NotPushed → Type 0
PushAnswer hit xs room (Ok u) = Lacks hit xs × (length xs < room)
PushAnswer hit xs room (Err Held) = Has hit xs
PushAnswer hit xs room (Err Full) = Lacks hit xs × (room ≤ length xs)
