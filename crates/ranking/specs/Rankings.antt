-- Who is ahead of whom, under each ranking, and how many are ahead of an offer.
use Rattle.std.specs.Prelude.{◌≡◌, ℕ, Bool, true, not, ◌&&◌, ◌||◌, List, count_by, ◌==◌, ◌≢◌, int_lt, nat_lt}
use Rattle.std.specs.List.{AllByRecursion}
use Rattle.ranking.specs.declared.offer.Offer.{Offer}

abbrev pub keener : Offer → Offer → Bool
keener a b = int_lt b.keenness a.keenness

abbrev pub equally_keen : Offer → Offer → Bool
equally_keen a b = not (keener a b) && not (keener b a)

abbrev pub larger : Offer → Offer → Bool
larger a b = nat_lt b.left a.left

abbrev pub equally_large : Offer → Offer → Bool
equally_large a b = a.left == b.left

-- the lower number came first
abbrev pub earlier : Offer → Offer → Bool
earlier a b = nat_lt a.number b.number

-- keener, and of equally keen ones earlier
abbrev pub price_time : Offer → Offer → Bool
price_time a b = keener a b || (equally_keen a b && earlier a b)

-- larger, and of equally large ones earlier
abbrev pub larger_or_earlier : Offer → Offer → Bool
larger_or_earlier a b = larger a b || (equally_large a b && earlier a b)

-- keener, and of equally keen ones larger, or as large and earlier
abbrev pub price_size : Offer → Offer → Bool
price_size a b = keener a b || (equally_keen a b && larger_or_earlier a b)

-- how many of the offers are ahead of this one
abbrev pub ahead_of : (Offer → Offer → Bool) → List Offer → Offer → ℕ
ahead_of ahead offers offer = count_by (λ other. ahead other offer) offers

-- the offer is ahead of all those with other numbers
abbrev pub InFront : (Offer → Offer → Bool) → List Offer → Offer → Type 0
InFront ahead offers offer = AllByRecursion (λ other. (offer.number ≢ other.number) → ahead offer other ≡ true) offers
