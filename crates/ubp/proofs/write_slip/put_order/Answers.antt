use Rattle.std.proofs.Common.{◌≡◌, length, sym, refl, ap, ◌∙◌, w32, SFits, rules}
use Rattle.orders.specs.Codes.{kind_byte, letter_byte}
use Rattle.ubp.specs.Bytes.{bytes4, bytes8}
use Rattle.ubp.specs.Answers.{head_fields, order_fields, shown}
use Rattle.ubp.proofs.Layouts.{after}
use Rattle.ubp.proofs.Parts.{more_by, more_byte, more_filled, more_price, begun_as}
use Rattle.ubp.proofs.write_slip.put_order.Goals as goal

pub returns : goal.returns
unfolding head_fields order_fields
returns c =
    let s = c.args.slip.now in
    let t = c.requires.same in
    let h1 : length c.args.terms.now.stock ≡ 6 = search rules in
    let h2 : length c.args.terms.now.firm ≡ 4 = search rules in
    let p : SFits w32 s.price = search rules in
    let w0 = c.put_head.ensures in
    let w1 = more_byte ((shown s.terms).side) w0 (ap (λ x. x.side) t) c.put.ensures in
    let w2 = more_by 4 (bytes4 s.shares) w1 c.to_be_bytes.ensures refl c.put-2.ensures in
    let w3 = more_by 6 (shown s.terms).stock w2 (ap (λ x. x.stock) t) (ap (λ x. length x.stock) (sym t) ∙ h1) c.put-3.ensures in
    let w4 = more_price s.price p w3 c.to_be_bytes-2.ensures c.put-4.ensures in
    let w5 = more_by 4 (bytes4 (shown s.terms).time) w4 (c.to_be_bytes-3.ensures ∙ ap (λ x. bytes4 x.time) t) refl c.put-5.ensures in
    let w6 = more_by 4 (shown s.terms).firm w5 (ap (λ x. x.firm) t) (ap (λ x. length x.firm) (sym t) ∙ h2) c.put-6.ensures in
    let w7 = more_filled 1 32 w6 c.put-7.ensures in
    let w8 = more_by 8 (bytes8 s.number) w7 c.to_be_bytes-4.ensures refl c.put-8.ensures in
    let w9 = more_byte ((shown s.terms).capacity) w8 (ap (λ x. x.capacity) t) c.put-9.ensures in
    let w10 = more_filled 1 32 w9 c.put-10.ensures in
    let w11 = more_by 4 (bytes4 (shown s.terms).minimum) w10 (c.to_be_bytes-5.ensures ∙ ap (λ x. bytes4 x.minimum) t) refl c.put-11.ensures in
    let w12 = more_filled 1 32 w11 c.put-12.ensures in
    let w13 = more_byte (letter_byte s.letter) w12 c.from.ensures c.put-13.ensures in
    begun_as w13 (after (kind_byte s.kind) head_fields order_fields s refl)
