-- Places of a text at which a reader stands, and how it goes on from each.
use Rattle.std.specs.Prelude.{◌≡◌, ℕ, ◌<◌, ◌≤◌, List, [], ◌∷◌, length, Some, None}
use Rattle.hp_syntax.specs.Text.{Blank, Opening, Closing, NameByte, End, kind_at, IsOutside, IsToken}
use Rattle.hp_syntax.specs.Refusal.{Refusal, open_before, refusal_at, IsClear}

-- a place between tokens, before which nothing is refused: a name byte there begins a token
pub record IsPlace (text : List ℕ) (at' : ℕ) : Type 0 where
  pub within : at' ≤ length text
  pub between : kind_at text at' ≡ NameByte → IsOutside text at'
  pub clear : IsClear text at'

-- how reading goes on: over a blank, over a token, into a list, out of one, to the end of the text, or to a refusal
pub data Way : Type 0 where
  OverBlank : Way
  OverToken : (to : ℕ) → Way
  IntoList : Way
  OutOfList : (open' : ℕ) → Way
  ToEnd : Way
  ToRefusal : (r : Refusal) → Way

-- reading goes on this way from an offset
pub data GoesOn (text : List ℕ) (at' : ℕ) (way : Way) : Type 0 where
  OverABlank : way ≡ OverBlank → kind_at text at' ≡ Blank → refusal_at text at' ≡ None → GoesOn text at' way
  OverAToken : (to : ℕ) → way ≡ OverToken to → IsToken text at' to → IsClear text to → GoesOn text at' way
  IntoAList : way ≡ IntoList → kind_at text at' ≡ Opening → refusal_at text at' ≡ None → GoesOn text at' way
  OutOfAList : (o : ℕ) (os : List ℕ) → way ≡ OutOfList o → kind_at text at' ≡ Closing
      → open_before text at' ≡ o ∷ os → refusal_at text at' ≡ None → GoesOn text at' way
  ToTheEnd : way ≡ ToEnd → kind_at text at' ≡ End → open_before text at' ≡ [] → refusal_at text at' ≡ None
      → GoesOn text at' way
  ToARefusal : (r : Refusal) → way ≡ ToRefusal r → refusal_at text at' ≡ Some r → GoesOn text at' way
  InAToken : (r : Refusal) (i : ℕ) → way ≡ ToRefusal r → at' < i
      → ((j : ℕ) → at' ≤ j → j ≤ i → kind_at text j ≡ NameByte)
      → refusal_at text i ≡ Some r → IsClear text i → GoesOn text at' way
