-- When two resting orders, and two quotes, have the same key. Texts are compared whole, byte by byte: a space and a zero byte differ.
use Rattle.std.specs.Prelude.{Bool, ◌&&◌, ◌==◌}
use Rattle.std.specs.Cmp.{IsEquivalence}
use Rattle.std.specs.Str.{bytes_eq}
use Rattle.std.proofs.lemmas.Cmp.{and_equiv, on_equiv, nat_eq_equiv}
use Rattle.resting.specs.Bytes.{bytes_eq-equiv}
use Rattle.resting.specs.declared.resident.Resident.{Resident}
use Rattle.resting.specs.declared.resident.OrderKey.{OrderKey}
use Rattle.resting.specs.declared.quote.Quote.{Quote}
use Rattle.resting.specs.declared.quote.StockKey.{StockKey}

-- the same client and the same token
abbrev pub same_order : OrderKey → OrderKey → Bool
same_order x y = x.client == y.client && bytes_eq x.token y.token

-- the same symbol
abbrev pub same_stock : StockKey → StockKey → Bool
same_stock x y = bytes_eq x.stock y.stock

pub same_order-equiv : IsEquivalence same_order
same_order-equiv = and_equiv (on_equiv (λ k. k.client) nat_eq_equiv) (on_equiv (λ k. k.token) bytes_eq-equiv)

pub same_stock-equiv : IsEquivalence same_stock
same_stock-equiv = on_equiv (λ k. k.stock) bytes_eq-equiv

-- what an order is found by
abbrev pub order_key : Resident → OrderKey
order_key x = record { client = x.client; token = x.token }

-- what a quote is found by
abbrev pub stock_key : Quote → StockKey
stock_key x = record { stock = x.stock }
