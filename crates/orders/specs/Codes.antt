-- The byte or number that stands for each value of a coded field. Each value has one, and every other is outside the field's list.
use Rattle.std.specs.Prelude.{ℕ, cond, List, [], ◌∷◌, Some, None, Option, ◌==◌}
use Rattle.orders.specs.declared.fields.Side.{Side}
use Rattle.orders.specs.declared.fields.Side.TheVariants.{Buy, Sell, SellShort, SellShortExempt}
use Rattle.orders.specs.declared.fields.Capacity.{Capacity}
use Rattle.orders.specs.declared.fields.Capacity.TheVariants.{Agency, Principal}
use Rattle.orders.specs.declared.fields.CrossStyle.{CrossStyle}
use Rattle.orders.specs.declared.fields.CrossStyle.TheVariants.{All, AgencyOnly, NoSelf, AgencyNoSelf, AllNotFive, AgencyNotFive, NoSelfNotFive, AgencyNoSelfNotFive}
use Rattle.orders.specs.declared.fields.Peg.{Peg}
use Rattle.orders.specs.declared.fields.Peg.TheVariants.{Midpoint, Unpegged, Primary}
use Rattle.orders.specs.declared.fields.Constraint.{Constraint}
use Rattle.orders.specs.declared.fields.Constraint.TheVariants.{Unstated, FillToLimit, FillToMidpoint}
use Rattle.orders.specs.declared.fields.LeavesMode.{LeavesMode}
use Rattle.orders.specs.declared.fields.LeavesMode.TheVariants.{NotStated, DropMinimum, LowerMinimum, CancelRest}
use Rattle.orders.specs.declared.fields.Lots.{Lots}
use Rattle.orders.specs.declared.fields.Lots.TheVariants.{RoundOnly, AnyLot}
use Rattle.orders.specs.declared.fields.InviteGrade.{InviteGrade}
use Rattle.orders.specs.declared.fields.InviteGrade.TheVariants.{Nobody, Anyone, FromMedium, FromHigh, HouseOnly}
use Rattle.orders.specs.declared.fields.TimeInForce.{TimeInForce}
use Rattle.orders.specs.declared.fields.TimeInForce.TheVariants.{Immediate, MarketHours}
use Rattle.orders.specs.declared.party.Category.{Category}
use Rattle.orders.specs.declared.party.Category.TheVariants.{One, Two, Three, Four, Five}
use Rattle.orders.specs.declared.slip.SlipKind.{SlipKind}
use Rattle.orders.specs.declared.slip.SlipKind.TheVariants.{Accepted, Replaced, Executed, Cancelled, CancelRejected, Rejected}
use Rattle.orders.specs.declared.slip.Letter.{Letter}
use Rattle.orders.specs.declared.slip.Letter.TheVariants.{Blank, Live, Added, Removed, ImmediateRest, UserRequest, BelowMinimum, UnknownStock, TooManyShares, BadMinimum, BadPrice, Other}

-- of the values vs, the one that the number n stands for
abbrev pub coded : {V : Type 0} → (V → ℕ) → List V → ℕ → Option V
coded code [] n = None
coded code (v ∷ vs) n = cond (n == code v) (Some v) (coded code vs n)

abbrev pub side_byte : Side → ℕ
side_byte Buy = 66  -- 'B'
side_byte Sell = 83  -- 'S'
side_byte SellShort = 84  -- 'T'
side_byte SellShortExempt = 69  -- 'E'

abbrev pub sides : List Side
sides = Buy ∷ Sell ∷ SellShort ∷ SellShortExempt ∷ []

abbrev pub side_of : ℕ → Option Side
side_of = coded side_byte sides

abbrev pub capacity_byte : Capacity → ℕ
capacity_byte Agency = 65  -- 'A'
capacity_byte Principal = 80  -- 'P'

abbrev pub capacities : List Capacity
capacities = Agency ∷ Principal ∷ []

abbrev pub capacity_of : ℕ → Option Capacity
capacity_of = coded capacity_byte capacities

abbrev pub style_byte : CrossStyle → ℕ
style_byte All = 49  -- '1'
style_byte AgencyOnly = 51  -- '3'
style_byte NoSelf = 52  -- '4'
style_byte AgencyNoSelf = 53  -- '5'
style_byte AllNotFive = 83  -- 'S'
style_byte AgencyNotFive = 84  -- 'T'
style_byte NoSelfNotFive = 86  -- 'V'
style_byte AgencyNoSelfNotFive = 85  -- 'U'

abbrev pub styles : List CrossStyle
styles = All ∷ AgencyOnly ∷ NoSelf ∷ AgencyNoSelf ∷ AllNotFive ∷ AgencyNotFive ∷ NoSelfNotFive ∷ AgencyNoSelfNotFive ∷ []

abbrev pub style_of : ℕ → Option CrossStyle
style_of = coded style_byte styles

abbrev pub peg_byte : Peg → ℕ
peg_byte Midpoint = 77  -- 'M'
peg_byte Unpegged = 78  -- 'N'
peg_byte Primary = 82  -- 'R'

abbrev pub pegs : List Peg
pegs = Midpoint ∷ Unpegged ∷ Primary ∷ []

abbrev pub peg_of : ℕ → Option Peg
peg_of = coded peg_byte pegs

abbrev pub constraint_byte : Constraint → ℕ
constraint_byte Unstated = 32  -- a space
constraint_byte FillToLimit = 49  -- '1'
constraint_byte FillToMidpoint = 50  -- '2'

abbrev pub constraints : List Constraint
constraints = Unstated ∷ FillToLimit ∷ FillToMidpoint ∷ []

abbrev pub constraint_of : ℕ → Option Constraint
constraint_of = coded constraint_byte constraints

abbrev pub leaves_byte : LeavesMode → ℕ
leaves_byte NotStated = 32  -- a space
leaves_byte DropMinimum = 49  -- '1'
leaves_byte LowerMinimum = 50  -- '2'
leaves_byte CancelRest = 51  -- '3'

abbrev pub leaves_modes : List LeavesMode
leaves_modes = NotStated ∷ DropMinimum ∷ LowerMinimum ∷ CancelRest ∷ []

abbrev pub leaves_of : ℕ → Option LeavesMode
leaves_of = coded leaves_byte leaves_modes

abbrev pub lots_byte : Lots → ℕ
lots_byte RoundOnly = 89  -- 'Y'
lots_byte AnyLot = 78  -- 'N'

abbrev pub lots_kinds : List Lots
lots_kinds = RoundOnly ∷ AnyLot ∷ []

abbrev pub lots_of : ℕ → Option Lots
lots_of = coded lots_byte lots_kinds

abbrev pub grade_number : InviteGrade → ℕ
grade_number Nobody = 0
grade_number Anyone = 1
grade_number FromMedium = 2
grade_number FromHigh = 3
grade_number HouseOnly = 4

abbrev pub grades : List InviteGrade
grades = Nobody ∷ Anyone ∷ FromMedium ∷ FromHigh ∷ HouseOnly ∷ []

abbrev pub grade_of : ℕ → Option InviteGrade
grade_of = coded grade_number grades

abbrev pub time_number : TimeInForce → ℕ
time_number Immediate = 0
time_number MarketHours = 99998

abbrev pub times : List TimeInForce
times = Immediate ∷ MarketHours ∷ []

abbrev pub time_of : ℕ → Option TimeInForce
time_of = coded time_number times

abbrev pub category_number : Category → ℕ
category_number One = 1
category_number Two = 2
category_number Three = 3
category_number Four = 4
category_number Five = 5

abbrev pub categories : List Category
categories = One ∷ Two ∷ Three ∷ Four ∷ Five ∷ []

abbrev pub category_of : ℕ → Option Category
category_of = coded category_number categories

abbrev pub kind_byte : SlipKind → ℕ
kind_byte Accepted = 97  -- 'a'
kind_byte Replaced = 117  -- 'u'
kind_byte Executed = 69  -- 'E'
kind_byte Cancelled = 67  -- 'C'
kind_byte CancelRejected = 73  -- 'I'
kind_byte Rejected = 74  -- 'J'

abbrev pub letter_byte : Letter → ℕ
letter_byte Blank = 32  -- a space
letter_byte Live = 76  -- 'L'
letter_byte Added = 65  -- 'A'
letter_byte Removed = 82  -- 'R'
letter_byte ImmediateRest = 73  -- 'I'
letter_byte UserRequest = 85  -- 'U'
letter_byte BelowMinimum = 77  -- 'M'
letter_byte UnknownStock = 83  -- 'S'
letter_byte TooManyShares = 90  -- 'Z'
letter_byte BadMinimum = 78  -- 'N'
letter_byte BadPrice = 88  -- 'X'
letter_byte Other = 75  -- 'K'
