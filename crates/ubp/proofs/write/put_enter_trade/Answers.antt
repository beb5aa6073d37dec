use Rattle.std.proofs.Common.{◌≡◌, [], ◌∷◌, length, take, refl, ap, ◌∙◌, w32, SFits, rules}
use Rattle.orders.specs.Codes.{time_number, side_byte}
use Rattle.ubp.specs.Bytes.{bytes4}
use Rattle.ubp.specs.Commands.{enter_type, enter_fields}
use Rattle.ubp.proofs.Layouts.{after}
use Rattle.ubp.proofs.Parts.{begin, more, more_by, more_byte, more_price, begun_as}
use Rattle.ubp.proofs.write.put_enter_trade.Goals as goal

pub returns : goal.returns
unfolding enter_fields
returns c =
    let m = c.args.order.now in
    let h1 : length m.token ≡ 14 = search rules in
    let h2 : length m.terms.stock ≡ 6 = search rules in
    let h3 : length m.terms.firm ≡ 4 = search rules in
    let p : SFits w32 m.price = search rules in
    let w0 = begin c.args.out.now in
    let w1 = more 1 (enter_type ∷ []) w0 refl c.put.ensures in
    let w2 = more 14 m.token w1 h1 c.put-2.ensures in
    let w3 = more_byte (side_byte m.terms.side) w2 c.from.ensures c.put-3.ensures in
    let w4 = more_by 4 (bytes4 m.shares) w3 c.to_be_bytes.ensures refl c.put-4.ensures in
    let w5 = more 6 m.terms.stock w4 h2 c.put-5.ensures in
    let w6 = more_price m.price p w5 c.to_be_bytes-2.ensures c.put-6.ensures in
    let w7 = more_by 4 (bytes4 (time_number m.terms.time)) w6 (c.to_be_bytes-3.ensures ∙ ap bytes4 c.from-2.ensures) refl c.put-7.ensures in
    let w8 = more 4 m.terms.firm w7 h3 c.put-8.ensures in
    begun_as w8 (after enter_type [] (take 7 enter_fields) m refl)
