-- A wall between two groups of clients.
use Rattle.std.specs.Prelude.{ℕ, Bool, not, ◌&&◌, ◌||◌, nat_lt}
use Rattle.orders.specs.declared.party.Party.{Party}

abbrev pub inside : ℕ → Party → Bool
inside border p = nat_lt p.client border

-- one is inside and the other is not
abbrev pub apart : ℕ → Party → Party → Bool
apart border p q = (inside border p && not (inside border q)) || (inside border q && not (inside border p))
