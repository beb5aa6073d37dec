-- What a writer does to the host's buffer.
use Rattle.std.specs.Prelude.{◌≡◌, ℕ, ◌+◌, cond, List, ◌++◌, length, take, drop, Ok, Err, Result, nat_lt}
use Rattle.ubp.specs.declared.refusal.WriteRefusal.{WriteRefusal}
use Rattle.ubp.specs.declared.refusal.WriteRefusal.TheVariants.{ShortBuffer}

-- xs with the bytes bs from the place i on
abbrev pub put_at : ℕ → List ℕ → List ℕ → List ℕ
put_at i bs xs = take i xs ++ (bs ++ drop (i + length bs) xs)

-- a buffer that held xs and holds ys: its first n bytes are ms now, and the others as before
pub record Begun (n : ℕ) (ms xs ys : List ℕ) : Type 0 where
  pub long : length ms ≡ n
  pub now : ys ≡ ms ++ drop n xs

-- a message of n bytes, ms, written to a buffer that held xs, holds ys after, and answers r: where it does not fit nothing is touched, else no byte past it is
pub record Writes (n : ℕ) (ms xs ys : List ℕ) (r : Result ℕ WriteRefusal) : Type 0 where
  pub answer : r ≡ cond (nat_lt (length xs) n) (Err ShortBuffer) (Ok n)
  pub buffer : ys ≡ cond (nat_lt (length xs) n) xs (ms ++ drop n xs)
