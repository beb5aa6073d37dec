-- Who stands behind a resting order.
use Rattle.orders.specs.declared.party.Party.{Party}
use Rattle.resting.specs.declared.resident.Resident.{Resident}

abbrev pub party_of : Resident → Party
party_of x = record { client = x.client; category = x.category; capacity = x.terms.capacity; style = x.terms.style }
