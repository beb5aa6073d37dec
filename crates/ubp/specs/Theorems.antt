-- What the reader and the writer owe each other.
use Rattle.std.specs.Prelude.{◌≡◌, ℕ, cond, List, ◌++◌, length, drop, is_ok, Ok, Err, Result, nat_lt}
use Rattle.orders.specs.declared.command.Command.{Command}
use Rattle.ubp.specs.declared.refusal.Refusal.{Refusal}
use Rattle.ubp.specs.declared.refusal.Refusal.TheVariants.{Reading, Writing}
use Rattle.ubp.specs.declared.refusal.WriteRefusal.TheVariants.{ShortBuffer}
use Rattle.ubp.specs.Frames.{Verdict, verdict, encoded}

-- every command that exists has a frame that the reader takes
abbrev pub Taken : Command → Type 0
Taken c = verdict (encoded c) ≡ Ok tt

-- a command's frame tells it: any command with the same frame is the same command
abbrev pub Told : Command → Type 0
Told c = (d : Command) → encoded d ≡ encoded c → d ≡ c

-- a reader that answers r and fills in d reads the frame of any command back as that command
abbrev pub ReadBack : List ℕ → Verdict → Command → Type 0
ReadBack frame r d = (c : Command) → frame ≡ encoded c → (r ≡ Ok tt) × (d ≡ c)

-- what is answered of a frame that is read, with the verdict v, and then written to a buffer of n bytes
abbrev pub restoring : Verdict → List ℕ → ℕ → Result ℕ Refusal
restoring (Err e) frame n = Err (Reading e)
restoring (Ok x) frame n = cond (nat_lt n (length frame)) (Err (Writing ShortBuffer)) (Ok (length frame))

-- a frame that is read and written again is restored: the buffer, which held xs, begins with it and is else as before, and it is as before where anything is refused
pub record Restores (frame xs ys : List ℕ) (r : Result ℕ Refusal) : Type 0 where
  pub answer : r ≡ restoring (verdict frame) frame (length xs)
  pub buffer : ys ≡ cond (is_ok r) (frame ++ drop (length frame) xs) xs
