-- The lines of the planner whose numbers are in their ranges and whose names are words.
use Rattle.std.specs.Prelude.{◌≡◌, ℕ, ◌^◌, ◌<◌, true, not, ◌==◌, List}
use Rattle.std.specs.List.{list_all}
use Rattle.hp_out.specs.declared.refusal.Refusal.{Refusal}
use Rattle.hp_out.specs.declared.refusal.Refusal.TheVariants as refusals
use Rattle.hp_syntax.specs.declared.pattern.Span.{Span}

pub record IsInFile (s : Span) : Type 0 where
  pub from : s.from < 2 ^ 32
  pub to : s.to < 2 ^ 32

abbrev pub IsInRange : Refusal → Type 0
IsInRange refusals.Usage = Unit {0}
IsInRange (refusals.Read which) = Unit {0}
IsInRange (refusals.Text which kind offset) = offset < 2 ^ 32
IsInRange (refusals.Form which what span) = IsInFile span
IsInRange (refusals.Check fault) = IsInFile fault.span
IsInRange (refusals.NoPair number count) = (number < 2 ^ 64) × (count < 2 ^ 64)

-- a name without a blank
abbrev pub IsWord : List ℕ → Type 0
IsWord name = list_all (λ b. not (b == 32)) name ≡ true
