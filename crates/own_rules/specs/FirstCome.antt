-- First come, first served.
use Rattle.std.specs.Prelude.{Bool, nat_lt}
use Rattle.ranking.specs.declared.offer.Offer.{Offer}

abbrev pub came_first : Offer → Offer → Bool
came_first a b = nat_lt a.number b.number
