-- What a roll of tasks stands for.
use Rattle.std.specs.Prelude.{◌≡◌, ℕ, List, length, Some}
use Rattle.hp_derivation.specs.declared.roll.Roll.{Roll}
use Rattle.hp_derivation.specs.declared.roll.Stood.{Stood}
use Rattle.hp_derivation.specs.Chains.{Reads}

-- a roll has these tasks by their numbers, which are read in this order
pub record IsRoll (r : Roll) (ts : List Stood) (xs : List ℕ) : Type 0 where
  pub tasks : r.tasks.items ≡ ts
  pub links : length r.chain.links.items ≡ length ts
  pub order : Reads r.chain xs
