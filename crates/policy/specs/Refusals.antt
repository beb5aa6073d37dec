-- The number of each refusal of a setting.
use Rattle.std.specs.Prelude.{ℕ}
use Rattle.policy.specs.declared.refusal.PolicyRefusal.{PolicyRefusal}
use Rattle.policy.specs.declared.refusal.PolicyRefusal.TheVariants.{BansFull, NoCategory}

abbrev pub refusal_number : PolicyRefusal → ℕ
refusal_number BansFull = 41
refusal_number NoCategory = 42
