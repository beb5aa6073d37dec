use Rattle.std.proofs.Common.{◌≡◌, [], ◌∷◌, length, take, refl, ap, ◌∙◌, w32, SFits, rules}
use Rattle.orders.specs.Codes.{time_number}
use Rattle.ubp.specs.Bytes.{bytes4}
use Rattle.ubp.specs.Commands.{replace_type, replace_fields}
use Rattle.ubp.proofs.Layouts.{after}
use Rattle.ubp.proofs.Parts.{begin, more, more_by, more_price, begun_as}
use Rattle.ubp.proofs.write.put_replace_trade.Goals as goal

pub returns : goal.returns
unfolding replace_fields
returns c =
    let m = c.args.order.now in
    let h1 : length m.existing ≡ 14 = search rules in
    let h2 : length m.token ≡ 14 = search rules in
    let p : SFits w32 m.price = search rules in
    let w0 = begin c.args.out.now in
    let w1 = more 1 (replace_type ∷ []) w0 refl c.put.ensures in
    let w2 = more 14 m.existing w1 h1 c.put-2.ensures in
    let w3 = more 14 m.token w2 h2 c.put-3.ensures in
    let w4 = more_by 4 (bytes4 m.shares) w3 c.to_be_bytes.ensures refl c.put-4.ensures in
    let w5 = more_price m.price p w4 c.to_be_bytes-2.ensures c.put-5.ensures in
    let w6 = more_by 4 (bytes4 (time_number m.time)) w5 (c.to_be_bytes-3.ensures ∙ ap bytes4 c.from.ensures) refl c.put-6.ensures in
    begun_as w6 (after replace_type [] (take 5 replace_fields) m refl)
