-- What bans hold, which pairs of parties they allow, and what a new ban changes.
use Rattle.std.specs.Prelude.{◌≡◌, ℕ, Bool, cond, not, ◌&&◌, ◌||◌, List, [], ◌∷◌, ◌++◌, length, take, drop, replicate, Ok, Err, Result, ◌==◌, nat_lt}
use Rattle.std.specs.List.{list_any}
use Rattle.orders.specs.declared.party.Party.{Party}
use Rattle.policy.specs.declared.refusal.PolicyRefusal.{PolicyRefusal}
use Rattle.policy.specs.declared.refusal.PolicyRefusal.TheVariants.{BansFull}
use Rattle.policy.specs.declared.bans.ClientPair.{ClientPair}
use Rattle.policy.specs.declared.bans.Bans.{Bans}

-- the pairs that are held, oldest first
abbrev pub held : Bans → List ClientPair
held b = take b.count b.pairs

-- the memory of new bans, in which no pair is held
abbrev pub blank : List ClientPair
blank = replicate 64 (record { one = 0; other = 0 })

-- the places past the pairs that are held are as they were
abbrev pub PastKept : Bans → Bans → Type 0
PastKept before after = drop after.count after.pairs ≡ drop after.count before.pairs

-- the two clients are the pair, in one order or the other
abbrev pub pairs_up : ClientPair → ℕ → ℕ → Bool
pairs_up x m n = (x.one == m && x.other == n) || (x.one == n && x.other == m)

-- the two clients are among the pairs
abbrev pub banned : List ClientPair → ℕ → ℕ → Bool
banned xs m n = list_any (λ x. pairs_up x m n) xs

-- every pair of parties whose clients are not banned is allowed
abbrev pub bans_allow : Bans → Party → Party → Bool
bans_allow b p q = not (banned (held b) p.client q.client)

-- one pair more, where fewer than 64 are held
abbrev pub added : List ClientPair → ClientPair → List ClientPair
added xs x = cond (nat_lt (length xs) 64) (xs ++ (x ∷ [])) xs

abbrev pub add_answer : List ClientPair → Result (Unit {0}) PolicyRefusal
add_answer xs = cond (nat_lt (length xs) 64) (Ok tt) (Err BansFull)

-- what is held after a ban, and what the ban answers: a held pair stays held once
abbrev pub after_ban : List ClientPair → ℕ → ℕ → List ClientPair
after_ban xs m n = cond (banned xs m n) xs (added xs (record { one = m; other = n }))

abbrev pub ban_answer : List ClientPair → ℕ → ℕ → Result (Unit {0}) PolicyRefusal
ban_answer xs m n = cond (banned xs m n) (Ok tt) (add_answer xs)

-- after a ban of m and n that was taken, just these two are banned beside those that were; after a refused one, those that were
abbrev pub NowBanned : List ClientPair → ℕ → ℕ → Bool → List ClientPair → Type 0
NowBanned xs m n taken ys = (j k : ℕ) → banned ys j k ≡ (banned xs j k || (taken && pairs_up (record { one = m; other = n }) j k))
