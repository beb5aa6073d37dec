-- Each value is found again under its code. A statement for each type, since the proof splits on the type's own variants.
use Rattle.std.proofs.Common.{◌≡◌, Some, arith}
use Rattle.orders.specs.Codes.{side_byte, side_of, capacity_byte, capacity_of, style_byte, style_of, peg_byte, peg_of, constraint_byte, constraint_of, leaves_byte, leaves_of, lots_byte, lots_of, grade_number, grade_of, time_number, time_of, category_number, category_of}
use Rattle.orders.specs.declared.fields.Side.{Side}
use Rattle.orders.specs.declared.fields.Capacity.{Capacity}
use Rattle.orders.specs.declared.fields.CrossStyle.{CrossStyle}
use Rattle.orders.specs.declared.fields.Peg.{Peg}
use Rattle.orders.specs.declared.fields.Constraint.{Constraint}
use Rattle.orders.specs.declared.fields.LeavesMode.{LeavesMode}
use Rattle.orders.specs.declared.fields.Lots.{Lots}
use Rattle.orders.specs.declared.fields.InviteGrade.{InviteGrade}
use Rattle.orders.specs.declared.fields.TimeInForce.{TimeInForce}
use Rattle.orders.specs.declared.party.Category.{Category}

pub side_is : (v : Side) → side_of (side_byte v) ≡ Some v
side_is v = grind arith

pub capacity_is : (v : Capacity) → capacity_of (capacity_byte v) ≡ Some v
capacity_is v = grind arith

pub style_is : (v : CrossStyle) → style_of (style_byte v) ≡ Some v
style_is v = grind arith

pub peg_is : (v : Peg) → peg_of (peg_byte v) ≡ Some v
peg_is v = grind arith

pub constraint_is : (v : Constraint) → constraint_of (constraint_byte v) ≡ Some v
constraint_is v = grind arith

pub leaves_is : (v : LeavesMode) → leaves_of (leaves_byte v) ≡ Some v
leaves_is v = grind arith

pub lots_is : (v : Lots) → lots_of (lots_byte v) ≡ Some v
lots_is v = grind arith

pub grade_is : (v : InviteGrade) → grade_of (grade_number v) ≡ Some v
grade_is v = grind arith

pub time_is : (v : TimeInForce) → time_of (time_number v) ≡ Some v
time_is v = grind arith

pub category_is : (v : Category) → category_of (category_number v) ≡ Some v
category_is v = grind arith
