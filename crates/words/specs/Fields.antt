-- The values of coded fields in words.
use Rattle.std.specs.Prelude.{ℕ, List, codes}
use Rattle.orders.specs.declared.fields.Side.{Side}
use Rattle.orders.specs.declared.fields.Side.TheVariants.{Buy, Sell, SellShort, SellShortExempt}
use Rattle.orders.specs.declared.fields.Capacity.{Capacity}
use Rattle.orders.specs.declared.fields.Capacity.TheVariants.{Agency, Principal}
use Rattle.orders.specs.declared.fields.CrossStyle.{CrossStyle}
use Rattle.orders.specs.declared.fields.CrossStyle.TheVariants.{All, AgencyOnly, NoSelf, AgencyNoSelf, AllNotFive, AgencyNotFive, NoSelfNotFive, AgencyNoSelfNotFive}
use Rattle.orders.specs.declared.fields.Peg.{Peg}
use Rattle.orders.specs.declared.fields.Peg.TheVariants.{Midpoint, Unpegged, Primary}
use Rattle.orders.specs.declared.fields.Constraint.{Constraint}
use Rattle.orders.specs.declared.fields.Constraint.TheVariants.{Unstated, FillToLimit, FillToMidpoint}
use Rattle.orders.specs.declared.fields.LeavesMode.{LeavesMode}
use Rattle.orders.specs.declared.fields.LeavesMode.TheVariants.{NotStated, DropMinimum, LowerMinimum, CancelRest}
use Rattle.orders.specs.declared.fields.TimeInForce.{TimeInForce}
use Rattle.orders.specs.declared.fields.TimeInForce.TheVariants.{Immediate, MarketHours}
use Rattle.orders.specs.declared.fields.Lots.{Lots}
use Rattle.orders.specs.declared.fields.Lots.TheVariants.{RoundOnly, AnyLot}
use Rattle.orders.specs.declared.fields.InviteGrade.{InviteGrade}
use Rattle.orders.specs.declared.fields.InviteGrade.TheVariants.{Nobody, Anyone, FromMedium, FromHigh, HouseOnly}
use Rattle.orders.specs.declared.slip.SlipKind.{SlipKind}
use Rattle.orders.specs.declared.slip.SlipKind.TheVariants.{Accepted, Replaced, Executed, Cancelled, CancelRejected, Rejected}
use Rattle.orders.specs.declared.slip.Letter.{Letter}
use Rattle.orders.specs.declared.slip.Letter.TheVariants.{Blank, Live, Added, Removed, ImmediateRest, UserRequest, BelowMinimum, UnknownStock, TooManyShares, BadMinimum, BadPrice, Other}

abbrev pub side_words : Side → List ℕ
side_words Buy = codes "buy"
side_words Sell = codes "sell"
side_words SellShort = codes "sell short"
side_words SellShortExempt = codes "sell short exempt"

abbrev pub capacity_words : Capacity → List ℕ
capacity_words Agency = codes "agency"
capacity_words Principal = codes "principal"

abbrev pub style_words : CrossStyle → List ℕ
style_words All = codes "with anyone"
style_words AgencyOnly = codes "no principals"
style_words NoSelf = codes "not with the same client"
style_words AgencyNoSelf = codes "no principals, not with the same client"
style_words AllNotFive = codes "not with source category 5"
style_words AgencyNotFive = codes "no principals, not with source category 5"
style_words NoSelfNotFive = codes "not with the same client, not with source category 5"
style_words AgencyNoSelfNotFive = codes "no principals, not with the same client, not with source category 5"

abbrev pub peg_words : Peg → List ℕ
peg_words Midpoint = codes "midpoint"
peg_words Unpegged = codes "no peg"
peg_words Primary = codes "primary"

abbrev pub constraint_words : Constraint → List ℕ
constraint_words Unstated = codes "not stated"
constraint_words FillToLimit = codes "fill to the limit"
constraint_words FillToMidpoint = codes "fill to the midpoint"

abbrev pub leaves_words : LeavesMode → List ℕ
leaves_words NotStated = codes "not stated"
leaves_words DropMinimum = codes "with fewer left, no minimum"
leaves_words LowerMinimum = codes "with fewer left, all that is left"
leaves_words CancelRest = codes "with fewer left, cancel the rest"

abbrev pub time_words : TimeInForce → List ℕ
time_words Immediate = codes "immediate or cancel"
time_words MarketHours = codes "market hours"

abbrev pub lots_words : Lots → List ℕ
lots_words RoundOnly = codes "round lots only"
lots_words AnyLot = codes "any lot"

abbrev pub grade_words : InviteGrade → List ℕ
grade_words Nobody = codes "nobody"
grade_words Anyone = codes "everybody"
grade_words FromMedium = codes "scores from medium up"
grade_words FromHigh = codes "scores from high up"
grade_words HouseOnly = codes "the house's algorithms only"

abbrev pub kind_words : SlipKind → List ℕ
kind_words Accepted = codes "accepted"
kind_words Replaced = codes "replaced"
kind_words Executed = codes "executed"
kind_words Cancelled = codes "cancelled"
kind_words CancelRejected = codes "cancel rejected"
kind_words Rejected = codes "rejected"

abbrev pub letter_words : Letter → List ℕ
letter_words Blank = codes "none"
letter_words Live = codes "the order lives"
letter_words Added = codes "added liquidity"
letter_words Removed = codes "removed liquidity"
letter_words ImmediateRest = codes "immediate or cancel, not traded"
letter_words UserRequest = codes "the client asked for it"
letter_words BelowMinimum = codes "fewer shares left than the minimum"
letter_words UnknownStock = codes "unknown stock"
letter_words TooManyShares = codes "too many shares"
letter_words BadMinimum = codes "wrong minimum"
letter_words BadPrice = codes "wrong price"
letter_words Other = codes "other"
