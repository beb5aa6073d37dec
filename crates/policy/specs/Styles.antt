-- Whom a cross style bars, and which pairs the styles allow.
use Rattle.std.specs.Prelude.{Bool, true, false, not, ◌&&◌, ◌||◌, ◌==◌}
use Rattle.orders.specs.declared.party.Party.{Party}
use Rattle.orders.specs.declared.party.Category.{Category}
use Rattle.orders.specs.declared.party.Category.TheVariants.{One, Two, Three, Four, Five}
use Rattle.orders.specs.declared.fields.Capacity.{Capacity}
use Rattle.orders.specs.declared.fields.Capacity.TheVariants.{Agency, Principal}
use Rattle.orders.specs.declared.fields.CrossStyle.{CrossStyle}
use Rattle.orders.specs.declared.fields.CrossStyle.TheVariants.{All, AgencyOnly, NoSelf, AgencyNoSelf, AllNotFive, AgencyNotFive, NoSelfNotFive, AgencyNoSelfNotFive}

abbrev principal : Capacity → Bool
principal Agency = false
principal Principal = true

abbrev five : Category → Bool
five One = false
five Two = false
five Three = false
five Four = false
five Five = true

abbrev pub is_principal : Party → Bool
is_principal p = principal p.capacity

abbrev pub is_five : Party → Bool
is_five p = five p.category

abbrev pub same_client : Party → Party → Bool
same_client p q = p.client == q.client

-- what each style bars: 1 none, 3 principals, 4 the same client, 5 both; S, T, V and U bar what 1, 3, 4 and 5 bar, and category 5
abbrev pub barred_by : CrossStyle → Party → Party → Bool
barred_by All p q = false
barred_by AgencyOnly p q = is_principal q
barred_by NoSelf p q = same_client p q
barred_by AgencyNoSelf p q = is_principal q || same_client p q
barred_by AllNotFive p q = is_five q
barred_by AgencyNotFive p q = is_principal q || is_five q
barred_by NoSelfNotFive p q = same_client p q || is_five q
barred_by AgencyNoSelfNotFive p q = (is_principal q || same_client p q) || is_five q

-- the style of p bars the party q
abbrev pub bars : Party → Party → Bool
bars p q = barred_by p.style p q

-- a pair is allowed when neither style bars the other party
abbrev pub styles_allow : Party → Party → Bool
styles_allow p q = not (bars p q) && not (bars q p)
