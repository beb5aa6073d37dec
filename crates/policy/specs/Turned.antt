-- A pair of clients is banned exactly when the turned pair is. The law of every policy asks this of bans.
use Rattle.std.specs.Prelude.{◌≡◌, ℕ, ◌||◌, List, [], ◌∷◌, refl}
use Rattle.std.proofs.Common.{ap, ◌∙◌, arith}
use Rattle.policy.specs.Bans.{banned, pairs_up}
use Rattle.policy.specs.declared.bans.ClientPair.{ClientPair}

pub banned_turned : (xs : List ClientPair) (m n : ℕ) → banned xs m n ≡ banned xs n m
banned_turned [] m n = refl
banned_turned (x ∷ xs) m n = ap (λ b. pairs_up x m n || b) (banned_turned xs m n) ∙ grind arith
