-- Bytes compared whole. Assumes nothing.
use Rattle.std.specs.Cmp.{IsEquivalence}
use Rattle.std.specs.Str.{bytes_eq}
use Rattle.std.proofs.lemmas.Cmp.{nat_list_eq_equiv}

pub bytes_eq-equiv : IsEquivalence bytes_eq
bytes_eq-equiv = nat_list_eq_equiv
