use Rattle.std.proofs.Common.{drop, refl, w32, SFits, rules}
use Rattle.orders.specs.Codes.{kind_byte, letter_byte}
use Rattle.ubp.specs.Bytes.{bytes4, bytes8}
use Rattle.ubp.specs.Answers.{head_fields, executed_fields}
use Rattle.ubp.proofs.Layouts.{after}
use Rattle.ubp.proofs.Parts.{more_by, more_byte, more_price, begun_as}
use Rattle.ubp.proofs.write_slip.put_executed.Goals as goal

pub returns : goal.returns
unfolding head_fields executed_fields
returns c =
    let s = c.args.slip.now in
    let p : SFits w32 s.price = search rules in
    let w0 = c.put_head.ensures in
    let w1 = more_by 4 (bytes4 s.shares) w0 c.to_be_bytes.ensures refl c.put.ensures in
    let w2 = more_price s.price p w1 c.to_be_bytes-2.ensures c.put-2.ensures in
    let w3 = more_byte (letter_byte s.letter) w2 c.from.ensures c.put-3.ensures in
    let w4 = more_by 8 (bytes8 s.match_number) w3 c.to_be_bytes-3.ensures refl c.put-4.ensures in
    begun_as w4 (after (kind_byte s.kind) head_fields (drop 2 executed_fields) s refl)
