-- The state of a text while it is scanned.
use Rattle.std.specs.Prelude.{◌≡◌, ℕ, ◌<◌, ◌≤◌, List, reverse}
use Rattle.hp_syntax.specs.Refusal.{open_before, IsClear}
use Rattle.hp_text.specs.declared.scan.State.{State}
use Rattle.hp_text.specs.Places.{IsBetween}

-- nothing is refused before the place of the scan, and there or at the scan's end it stands between tokens
pub record IsScanned (text : List ℕ) (end : ℕ) (s : State) : Type 0 where
  pub clear : IsClear text s.at
  pub within : s.at ≤ end
  pub place : s.at < end → IsBetween text s.at
  pub brackets : reverse s.brackets.items ≡ open_before text s.at
