use Rattle.std.proofs.Common.{◌≡◌, [], ◌∷◌, length, refl, rules}
use Rattle.ubp.specs.Commands.{cancel_type, cancel_fields}
use Rattle.ubp.proofs.Layouts.{after}
use Rattle.ubp.proofs.Parts.{begin, more, more_filled, begun_as}
use Rattle.ubp.proofs.write.CancelOrderMessage.put.Goals as goal

pub returns : goal.returns
unfolding cancel_fields
returns c =
    let m = c.args.self.now in
    let h1 : length m.token ≡ 14 = search rules in
    let w0 = begin c.args.out.now in
    let w1 = more 1 (cancel_type ∷ []) w0 refl c.put.ensures in
    let w2 = more 14 m.token w1 h1 c.put-2.ensures in
    let w3 = more_filled 4 0 w2 c.put-3.ensures in
    begun_as w3 (after cancel_type [] cancel_fields m refl)
