-- Which categories meet in a grid, and what a setting changes.
use Rattle.std.specs.Prelude.{◌≡◌, ℕ, Bool, true, false, cond, ◌&&◌, Some, None, Ok, Err, Option, Result, ◌==◌, List, []}
use Rattle.orders.specs.Codes.{category_number}
use Rattle.orders.specs.declared.party.Category.{Category}
use Rattle.orders.specs.declared.party.Party.{Party}
use Rattle.policy.specs.declared.refusal.PolicyRefusal.{PolicyRefusal}
use Rattle.policy.specs.declared.refusal.PolicyRefusal.TheVariants.{NoCategory}
use Rattle.policy.specs.PerCategory.{all_of, at, with}

-- for each category, which categories it meets
abbrev pub Meetings : Type 0
Meetings = List (List Bool)

-- category b is among those that a meets
abbrev pub meets : Meetings → Category → Category → Bool
meets rows a b = at (at rows a []) b false

-- what the policy below allows, if each party's category is among those that the other's meets
abbrev pub grid_allows : (Party → Party → Bool) → Meetings → Party → Party → Bool
grid_allows below rows p q = below p q && (meets rows p.category q.category && meets rows q.category p.category)

-- as a grid begins: each meets all
abbrev pub open_meetings : Meetings
open_meetings = all_of (all_of true)

-- no two categories are apart
abbrev pub AllMeet : Meetings → Type 0
AllMeet rows = (a b : Category) → meets rows a b ≡ true

-- b added to those that a meets, or dropped from them
abbrev pub set_meets : Meetings → Category → Category → Bool → Meetings
set_meets rows a b on = with rows a (with (at rows a []) b on)

-- a setting by numbers: nothing changes, and the refusal is answered, unless both are categories
abbrev pub after_setting : Meetings → Option Category → Option Category → Bool → Meetings
after_setting rows None b on = rows
after_setting rows (Some a) None on = rows
after_setting rows (Some a) (Some b) on = set_meets rows a b on

abbrev pub setting_answer : Option Category → Option Category → Result (Unit {0}) PolicyRefusal
setting_answer None b = Err NoCategory
setting_answer (Some a) None = Err NoCategory
setting_answer (Some a) (Some b) = Ok tt

-- the number is that of the category
abbrev pub numbers : ℕ → Category → Bool
numbers n c = n == category_number c

-- of all settings, just the one that the two numbers name changed, and none where a number names no category
abbrev pub OnlySet : Meetings → ℕ → ℕ → Bool → Meetings → Type 0
OnlySet rows m n on after = (a b : Category) → meets after a b ≡ cond (numbers m a && numbers n b) on (meets rows a b)
