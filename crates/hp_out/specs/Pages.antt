-- A page: bytes that are on their way to a sink, to be written together.
use Rattle.std.specs.Prelude.{◌≡◌, ℕ, List, ◌++◌, Option, Result, Ok, Err}
use Rattle.hp_out.specs.Writing.{Wrote, WroteProperPrefix}

-- all that a sink took, where it tells, and what stands on the page before it
pub record Desk : Type 0 where
  pub sink : Option (List ℕ)
  pub page : List ℕ

abbrev pub desk : Option (List ℕ) → List ℕ → Desk
desk sink page = record { sink = sink; page = page }

-- of what stood on the page and a text behind it, the sink took the first bytes, and the others stand on the page
pub record Put (text : List ℕ) (old new : Desk) : Type 0 where
  pub taken : List ℕ
  pub wrote : Wrote taken old.sink new.sink
  pub all : taken ++ new.page ≡ old.page ++ text

-- the text was put behind what stood on the page, or, where writing failed, the sink took a proper prefix of both
abbrev pub Puts : {A E : Type 0} → Result A E → List ℕ → Desk → Desk → Type 0
Puts (Ok x) text old new = Put text old new
Puts (Err e) text old new = WroteProperPrefix (old.page ++ text) old.sink new.sink
